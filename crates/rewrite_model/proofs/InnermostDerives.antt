-- The value of an innermost evaluation is what the leftmost innermost derivation leads to.
use Rattle.std.proofs.Common.{◌≡◌, ℕ, zero, suc, ◌+◌, ◌-◌, ◌≤◌, List, [], ◌∷◌, ◌++◌, length, map, Option, Some, None, refl, sym, ◌∙◌, ap, subst, arith, Bool, true, false, append_assoc, append-nil}
use Rattle.std.specs.Prelude.{if◌then◌else◌, nat_lt, All, Contains, option_and_then}
use Rattle.std.specs.Option.{option_map}
use Rattle.std.proofs.lemmas.List.Elements.{All-contains, All-push, All-nil}
use Rattle.term_model.specs.Tree.{Tree, Leaf, Node, Trees, End, More}
use Rattle.term_model.specs.declared.Head.{Head}
use Rattle.rewrite_model.specs.Rule.{Rule, IsNode, IsUnconditional}
use Rattle.rewrite_model.specs.Matching.{match_of, if_matched, instance, instances, tree_at}
use Rattle.rewrite_model.specs.Run.{Done, OutOfFuel, TooDeep, done, ends, ◌>>=◌}
use Rattle.rewrite_model.specs.Evaluation.{Evaluated, Reducer, evaluate, evaluate_all, hold, replace, apply, reduce_by, begin, reduce_within, reduction, evaluation}
use Rattle.rewrite_model.specs.Step.{at_root, IsNormalForm}
use Rattle.rewrite_model.specs.Derivation.{Replacement, by_rule, replace_at, replace_in, replaced, derived}
use Rattle.rewrite_model.specs.Trace.{first_match, at_root_by, in_first, in_next, or_else, innermost, innermost_in, goes_on, replaces, replacements}
use Rattle.rewrite_model.proofs.NormalForms.{NoneMatches, first_contained, NormalIn, NormalAll, inside_normal, node_normal, root_match_normal, tree_normal, no_instance}
use Rattle.rewrite_model.proofs.Reached.{went_on, had_room, same_value}
use Rattle.rewrite_model.proofs.SingleSteps.{first_stands, later_stands}

-- the first rule that matches
none_first : (rs : List Rule) (t : Tree) → ((r : Rule) → Contains rs r → match_of r.left t ≡ None) → first_match rs t ≡ None
none_first [] t n = refl
none_first (r ∷ rs) t n =
    ap (λ o. if_matched o (option_map (λ k. suc k) (first_match rs t)) (λ bound. Some 0)) (n r (first_stands r rs))
    ∙ ap (option_map (λ k. suc k)) (none_first rs t (λ q c. n q (later_stands r q rs c)))

found_first : (front : List Rule) (r : Rule) (rs : List Rule) (t : Tree) (bound : List Tree) → ((q : Rule) → Contains front q → match_of q.left t ≡ None) → match_of r.left t ≡ Some bound → first_match (front ++ r ∷ rs) t ≡ Some (length front)
found_first [] r rs t bound n m = ap (λ o. if_matched o (option_map (λ k. suc k) (first_match rs t)) (λ b. Some 0)) m
found_first (f ∷ fs) r rs t bound n m =
    ap (λ o. if_matched o (option_map (λ k. suc k) (first_match (fs ++ r ∷ rs) t)) (λ b. Some 0)) (n f (first_stands f fs))
    ∙ ap (option_map (λ k. suc k)) (found_first fs r rs t bound (λ q c. n q (later_stands f q fs c)) m)

by_found : (front : List Rule) (r : Rule) (rs : List Rule) (t : Tree) (bound : List Tree) → match_of r.left t ≡ Some bound → by_rule (front ++ r ∷ rs) (length front) t ≡ Some (instance r.right bound)
by_found [] r rs t bound m = ap (λ o. if_matched o None (λ b. Some (instance r.right b))) m
by_found (f ∷ fs) r rs t bound m = by_found fs r rs t bound m

module _ (rules : List Rule) where
  -- a normal form has nothing to replace
  none_matches : (t : Tree) → IsNormalForm rules t → (r : Rule) → Contains rules r → match_of r.left t ≡ None
  none_matches t n r c = go (match_of r.left t) refl
    where
      go : (o : Option (List Tree)) → match_of r.left t ≡ o → match_of r.left t ≡ None
      go None m = m
      go (Some bound) m = absurd (n (instance r.right bound) (at_root r c m))

  root_none : (t : Tree) → IsNormalForm rules t → option_map at_root_by (first_match rules t) ≡ None
  root_none t n = ap (option_map at_root_by) (none_first rules t (none_matches t n))

  mutual
    pub normal_none : (t : Tree) → IsNormalForm rules t → innermost rules t ≡ None
    normal_none (Leaf x) n = root_none (Leaf x) n
    normal_none (Node h ts) n =
        ap (λ o. or_else o (option_map at_root_by (first_match rules (Node h ts)))) (normal_none_in ts (inside_normal rules h ts n))
        ∙ root_none (Node h ts) n

    normal_none_in : (ts : Trees) → NormalIn rules ts → innermost_in rules ts ≡ None
    normal_none_in End n = refl
    normal_none_in (More t ts) n =
        ap (λ o. or_else (option_map in_first o) (option_map in_next (innermost_in rules ts))) (normal_none t n.0)
        ∙ ap (option_map in_next) (normal_none_in ts n.1)

  -- one replacement after another, each the leftmost innermost one
  abbrev pub Chain : List Replacement → Tree → Tree → Type 0
  Chain [] t u = t ≡ u
  Chain (s ∷ ss) t u = (v : Tree) × (innermost rules t ≡ Some s) × (replaced rules s t ≡ Some v) × Chain ss v u

  abbrev replaced_in : List ℕ → ℕ → Trees → Option Trees
  replaced_in [] k ts = None
  replaced_in (j ∷ js) k ts = replace_in rules j js k ts

  abbrev ChainIn : List Replacement → Trees → Trees → Type 0
  ChainIn [] ts us = ts ≡ us
  ChainIn (s ∷ ss) ts us = (vs : Trees) × (innermost_in rules ts ≡ Some s) × (replaced_in s.position s.rule ts ≡ Some vs) × ChainIn ss vs us

  chain_both : (ss rs : List Replacement) (t u v : Tree) → Chain ss t u → Chain rs u v → Chain (ss ++ rs) t v
  chain_both [] rs t u v c d = subst (λ w. Chain rs w v) (sym c) d
  chain_both (s ∷ ss) rs t u v c d = (c.0, c.1, c.2, chain_both ss rs c.0 u v c.3 d)

  chain_both_in : (ss rs : List Replacement) (ts us vs : Trees) → ChainIn ss ts us → ChainIn rs us vs → ChainIn (ss ++ rs) ts vs
  chain_both_in [] rs ts us vs c d = subst (λ w. ChainIn rs w vs) (sym c) d
  chain_both_in (s ∷ ss) rs ts us vs c d = (c.0, c.1, c.2, chain_both_in ss rs c.0 us vs c.3 d)

  inside_replaced : (h : Head) (js : List ℕ) (k : ℕ) (ts us : Trees) → replaced_in js k ts ≡ Some us → replace_at rules js k (Node h ts) ≡ Some (Node h us)
  inside_replaced h [] k ts us e = cc
  inside_replaced h (j ∷ js) k ts us e = ap (option_map (λ vs. Node h vs)) e

  chain_inside : (h : Head) (ss : List Replacement) (ts us : Trees) → ChainIn ss ts us → Chain ss (Node h ts) (Node h us)
  chain_inside h [] ts us c = ap (Node h) c
  chain_inside h (s ∷ ss) ts us c =
      (Node h c.0, ap (λ o. or_else o (option_map at_root_by (first_match rules (Node h ts)))) c.1, inside_replaced h s.position s.rule ts c.0 c.2, chain_inside h ss c.0 us c.3)

  chain_first : (ss : List Replacement) (t u : Tree) (ts : Trees) → Chain ss t u → ChainIn (map in_first ss) (More t ts) (More u ts)
  chain_first [] t u ts c = ap (λ w. More w ts) c
  chain_first (s ∷ ss) t u ts c =
      (More c.0 ts, ap (λ o. or_else (option_map in_first o) (option_map in_next (innermost_in rules ts))) c.1, ap (option_map (λ w. More w ts)) c.2, chain_first ss c.0 u ts c.3)

  no_zeroth : (js : List ℕ) (k : ℕ) (ts us : Trees) → replace_in rules zero js k ts ≡ Some us → ⊥
  no_zeroth js k End us e = cc
  no_zeroth js k (More t ts) us e = cc

  next_replaced : (t : Tree) (s : Replacement) (ts us : Trees) → replaced_in s.position s.rule ts ≡ Some us → replaced_in (in_next s).position s.rule (More t ts) ≡ Some (More t us)
  next_replaced t s ts us e = go s.position e
    where
      go : (js : List ℕ) → replaced_in js s.rule ts ≡ Some us → replaced_in (in_next (record { position = js; rule = s.rule })).position s.rule (More t ts) ≡ Some (More t us)
      go [] e' = cc
      go (zero ∷ js) e' = absurd (no_zeroth js s.rule ts us e')
      go (suc j ∷ js) e' = ap (option_map (λ vs. More t vs)) e'

  chain_next : (t : Tree) (ss : List Replacement) (ts us : Trees) → innermost rules t ≡ None → ChainIn ss ts us → ChainIn (map in_next ss) (More t ts) (More t us)
  chain_next t [] ts us n c = ap (λ ws. More t ws) c
  chain_next t (s ∷ ss) ts us n c =
      (More t c.0, ap (λ o. or_else (option_map in_first o) (option_map in_next (innermost_in rules ts))) n ∙ ap (option_map in_next) c.1, next_replaced t s ts c.0 c.2, chain_next t ss c.0 us n c.3)

  same_length : (f : Replacement → Replacement) (ss : List Replacement) → length (map f ss) ≡ length ss
  same_length f [] = refl
  same_length f (s ∷ ss) = ap (λ n. suc n) (same_length f ss)

  both_lengths : (ss rs : List Replacement) → length (ss ++ rs) ≡ length ss + length rs
  both_lengths [] rs = omega arith
  both_lengths (s ∷ ss) rs = let i = both_lengths ss rs in omega (arith, i)

  -- The chain is what `replacements` lists, with at least as much fuel.
  chain_listed : (n : ℕ) (ss : List Replacement) (t u : Tree) → innermost rules u ≡ None → Chain ss t u → length ss ≤ n → replacements rules n t ≡ ss
  chain_listed zero [] t u f c l = refl
  chain_listed zero (s ∷ ss) t u f c l = absurd (omega (arith, l))
  chain_listed (suc n) [] t u f c l = ap (λ o. replaces rules (replacements rules n) t o) (ap (innermost rules) c ∙ f)
  chain_listed (suc n) (s ∷ ss) t u f c l =
      ap (λ o. replaces rules (replacements rules n) t o) c.1
      ∙ ap (λ o. goes_on rules (replacements rules n) s o) c.2
      ∙ ap (λ rs. s ∷ rs) (chain_listed n ss c.0 u f c.3 (omega (arith, l)))

  chain_derives : (ss : List Replacement) (t u : Tree) → Chain ss t u → derived rules ss t ≡ Some u
  chain_derives [] t u c = ap Some c
  chain_derives (s ∷ ss) t u c = ap (option_and_then (λ v. derived rules ss v)) c.2 ∙ chain_derives ss c.0 u c.3

  -- a tree is led to a normal form, with one replacement for each unit of fuel
  record Derives (t u : Tree) (fuel left : ℕ) : Type 0 where
    list : List Replacement
    chain : Chain list t u
    normal : IsNormalForm rules u
    count : fuel ≡ left + length list

  record DeriveIn (ts us : Trees) (fuel left : ℕ) : Type 0 where
    list : List Replacement
    chain : ChainIn list ts us
    normal : NormalIn rules us
    count : fuel ≡ left + length list

  no_replacement : (t u : Tree) (m n : ℕ) → IsNormalForm rules t → Done t m ≡ Done u n → Derives t u m n
  no_replacement t u m n f e =
      let p = same_value t u m n e in
      record { list = []; chain = p.0; normal = subst (IsNormalForm rules) p.0 f; count = omega (arith, p.1) }

  derives_both : (t u v : Tree) (fuel m left : ℕ) → Derives t u fuel m → Derives u v m left → Derives t v fuel left
  derives_both t u v fuel m left c d =
      let l = both_lengths c.list d.list in
      let a = c.count in
      let b = d.count in
      record { list = c.list ++ d.list; chain = chain_both c.list d.list t u v c.chain d.chain; normal = d.normal; count = omega (arith, l, a, b) }

  derives_inside : (h : Head) (ts us : Trees) (fuel left : ℕ) → DeriveIn ts us fuel left → (v : Tree) (rest : ℕ) → Derives (Node h us) v left rest → Derives (Node h ts) v fuel rest
  derives_inside h ts us fuel left c v rest d =
      let l = both_lengths c.list d.list in
      let a = c.count in
      let b = d.count in
      record { list = c.list ++ d.list; chain = chain_both c.list d.list (Node h ts) (Node h us) v (chain_inside h c.list ts us c.chain) d.chain; normal = d.normal; count = omega (arith, l, a, b) }

  derive_more : (t u : Tree) (ts us : Trees) (fuel m left : ℕ) → Derives t u fuel m → DeriveIn ts us m left → DeriveIn (More t ts) (More u us) fuel left
  derive_more t u ts us fuel m left c d =
      let l = both_lengths (map in_first c.list) (map in_next d.list) in
      let l1 = same_length in_first c.list in
      let l2 = same_length in_next d.list in
      let a = c.count in
      let b = d.count in
      record {
        list = map in_first c.list ++ map in_next d.list;
        chain = chain_both_in (map in_first c.list) (map in_next d.list) (More t ts) (More u ts) (More u us) (chain_first c.list t u ts c.chain) (chain_next u d.list ts us (normal_none u c.normal) d.chain);
        normal = (c.normal, d.normal);
        count = omega (arith, l, l1, l2, a, b);
      }

module _ (rules : List Rule) (nodes : All (λ (r : Rule). IsNode r.left) rules) (plain : All IsUnconditional rules) where
  -- what is reduced is led to its value
  abbrev Good : Reducer → Type 0
  Good red = (given kept : List Tree) (h : Head) (ts : Trees) (u : Tree) (fuel room left : ℕ) → NormalIn rules ts → (red given kept (Node h ts) fuel room).end ≡ Done u left → Derives rules (Node h ts) u fuel left

  module _ (red : Reducer) (good : Good red) where
    module _ (bound : List Tree) (bn : NormalAll rules bound) where
      mutual
        evaluate_derives : (p : Tree) (kept : List Tree) (fuel room : ℕ) (u : Tree) (left : ℕ) → (evaluate red bound p kept fuel room).end ≡ Done u left → Derives rules (instance p bound) u fuel left
        evaluate_derives (Leaf x) kept fuel room u left e = no_replacement rules (tree_at x bound) u fuel left (tree_normal rules nodes x bound bn) (had_room room (done (tree_at x bound) fuel) u left e)
        evaluate_derives (Node h ps) kept fuel room u left e = went_on (evaluate_all red bound ps kept fuel room) (λ ts m. red [] kept (Node h ts) m room) u left (had_room room _ u left e) (λ ts m a r.
            let c = all_derive ps kept fuel room ts m a in
            derives_inside rules h (instances ps bound) ts fuel m c u left (good [] kept h ts u m room left c.normal r))

        all_derive : (ps : Trees) (kept : List Tree) (fuel room : ℕ) (us : Trees) (left : ℕ) → (evaluate_all red bound ps kept fuel room).end ≡ Done us left → DeriveIn rules (instances ps bound) us fuel left
        all_derive End kept fuel room us left e =
            let p = same_value End us fuel left e in
            record { list = []; chain = p.0; normal = subst (NormalIn rules) p.0 tt; count = omega (arith, p.1) }
        all_derive (More p ps) kept fuel room us left e = went_on (evaluate red bound p kept fuel (room - 1)) _ us left e (λ t m a r.
            went_on (evaluate_all red bound ps (t ∷ kept) m (room - 1)) _ us left r (λ ts k a' r'.
            let c = evaluate_derives p kept fuel (room - 1) t m a in
            let d = all_derive ps (t ∷ kept) m (room - 1) ts k a' in
            let q = same_value (More t ts) us k left r' in
            subst (λ n. DeriveIn rules (More (instance p bound) (instances ps bound)) us fuel n) q.1
            (subst (λ w. DeriveIn rules (More (instance p bound) (instances ps bound)) w fuel k) q.0 (derive_more rules (instance p bound) t (instances ps bound) ts fuel m k c d))))

      replace_derives : (p : Tree) (kept : List Tree) (fuel room : ℕ) (u : Tree) (left : ℕ) → (replace red bound p kept fuel room).end ≡ Done u left → Derives rules (instance p bound) u fuel left
      replace_derives (Leaf x) kept fuel room u left e = no_replacement rules (tree_at x bound) u fuel left (tree_normal rules nodes x bound bn) e
      replace_derives (Node h ps) kept fuel room u left e = went_on (evaluate_all red bound ps (bound ++ kept) fuel (room - length bound)) (λ ts m. red bound kept (Node h ts) m room) u left e (λ ts m a r.
          let c = all_derive ps (bound ++ kept) fuel (room - length bound) ts m a in
          derives_inside rules h (instances ps bound) ts fuel m c u left (good bound kept h ts u m room left c.normal r))

    no_conditions : (r : Rule) (bound kept : List Tree) (fuel room : ℕ) → IsUnconditional r → (hold red bound r.conditions kept fuel room).end ≡ Done true fuel
    no_conditions r bound kept fuel room e = ap (λ cs. (hold red bound cs kept fuel room).end) e

    apply_derives : (r : Rule) (bound kept : List Tree) (t : Tree) (fuel room : ℕ) (rest : ℕ → Evaluated Tree) (u : Tree) (left : ℕ) → IsUnconditional r → NormalAll rules bound → (apply red r bound kept t fuel room rest).end ≡ Done u left → (m : ℕ) × (fuel ≡ suc m) × Derives rules (instance r.right bound) u m left
    apply_derives r bound kept t zero room rest u left w n e = cc
    apply_derives r bound kept t (suc fuel) room rest u left w n e = (fuel, refl, go (nat_lt room (1 + length bound)) e)
      where
        use_right : (b : Bool) (m : ℕ) → b ≡ true → m ≡ fuel → (if b then replace red bound r.right kept m room else rest m).end ≡ Done u left → Derives rules (instance r.right bound) u fuel left
        use_right true m q f e' = subst (λ k. Derives rules (instance r.right bound) u k left) f (replace_derives bound n r.right kept m room u left e')
        use_right false m q f e' = cc

        go : (b : Bool) → (if b then ends TooDeep else (hold red bound r.conditions (t ∷ bound ++ kept) fuel (room - length bound) >>= (λ c m. if c then replace red bound r.right kept m room else rest m))).end ≡ Done u left → Derives rules (instance r.right bound) u fuel left
        go true e' = cc
        go false e' = went_on (hold red bound r.conditions (t ∷ bound ++ kept) fuel (room - length bound)) (λ c m. if c then replace red bound r.right kept m room else rest m) u left e' (λ c m a b.
            let s : Done true fuel ≡ Done c m = sym (no_conditions r bound (t ∷ bound ++ kept) fuel (room - length bound) w) ∙ a in
            let q = same_value true c fuel m s in
            use_right c m (sym q.0) (sym q.1) b)

    -- at the root by the first rule that matches, and then what its right side leads to
    at_root_derives : (front : List Rule) (r : Rule) (rs : List Rule) (h : Head) (ts : Trees) (bound : List Tree) (u : Tree) (fuel m left : ℕ) → front ++ r ∷ rs ≡ rules → NoneMatches front (Node h ts) → NormalIn rules ts → match_of r.left (Node h ts) ≡ Some bound → fuel ≡ suc m → Derives rules (instance r.right bound) u m left → Derives rules (Node h ts) u fuel left
    at_root_derives front r rs h ts bound u fuel m left all n k e f d =
        let t = Node h ts in
        let first : first_match rules t ≡ Some (length front) =
        subst (λ xs. first_match xs t ≡ Some (length front)) all (found_first front r rs t bound (λ q c. All-contains (λ (q' : Rule). match_of q'.left t ≡ None) front q n c) e) in
        let by : by_rule rules (length front) t ≡ Some (instance r.right bound) =
        subst (λ xs. by_rule xs (length front) t ≡ Some (instance r.right bound)) all (by_found front r rs t bound e) in
        let a = d.count in
        record {
          list = at_root_by (length front) ∷ d.list;
          chain = (instance r.right bound, ap (λ o. or_else o (option_map at_root_by (first_match rules t))) (normal_none_in rules ts k) ∙ ap (option_map at_root_by) first, by, d.chain);
          normal = d.normal;
          count = omega (arith, f, a);
        }

    reduce_by_derives : (front rs : List Rule) (kept : List Tree) (h : Head) (ts : Trees) (u : Tree) (fuel room left : ℕ) → front ++ rs ≡ rules → NoneMatches front (Node h ts) → NormalIn rules ts → (reduce_by red rs kept (Node h ts) fuel room).end ≡ Done u left → Derives rules (Node h ts) u fuel left
    reduce_by_derives front [] kept h ts u fuel room left all none_yet n e =
        let same : front ≡ rules = sym (append-nil front) ∙ all in
        no_replacement rules (Node h ts) u fuel left (node_normal rules h ts n (subst (λ rs. NoneMatches rs (Node h ts)) same none_yet)) e
    reduce_by_derives front (r ∷ rs) kept h ts u fuel room left all none_yet n e = go (match_of r.left (Node h ts)) refl (λ m e'. reduce_by_derives (front ++ r ∷ []) rs kept h ts u fuel room left (append_assoc front (r ∷ []) rs ∙ all) (All-push (λ (q : Rule). match_of q.left (Node h ts) ≡ None) front r none_yet m) n e') e
      where
        contained : Contains rules r
        contained = subst (λ xs. Contains xs r) all (first_contained front rs r)

        go : (o : Option (List Tree)) → match_of r.left (Node h ts) ≡ o → (match_of r.left (Node h ts) ≡ None → (reduce_by red rs kept (Node h ts) fuel room).end ≡ Done u left → Derives rules (Node h ts) u fuel left) → (if_matched o (reduce_by red rs kept (Node h ts) fuel room) (λ bound. apply red r bound kept (Node h ts) fuel room (λ m. reduce_by red rs kept (Node h ts) m room))).end ≡ Done u left → Derives rules (Node h ts) u fuel left
        go None m later e' = later m e'
        go (Some bound) m later e' =
            let i = All-contains (λ (q : Rule). IsNode q.left) rules r nodes contained in
            let w = All-contains IsUnconditional rules r plain contained in
            let d = apply_derives r bound kept (Node h ts) fuel room _ u left w (root_match_normal rules r.left h ts bound i n m) e' in
            at_root_derives front r rs h ts bound u fuel d.0 left all none_yet n m d.1 d.2

  begin_good : (red : Reducer) → Good red → Good (begin red rules)
  begin_good red good given kept h ts u fuel room left n e = reduce_by_derives red good [] rules kept h ts u fuel room left refl (All-nil (λ (q : Rule). match_of q.left (Node h ts) ≡ None)) n e

  within_good : (n : ℕ) → Good (reduce_within n rules)
  within_good zero = begin_good (λ given kept t fuel room. ends OutOfFuel) (λ given kept h ts u fuel room left n e. cc)
  within_good (suc n) = begin_good (reduce_within n rules) (within_good n)

  pub evaluation_derives : (t u : Tree) (fuel room left : ℕ) → (evaluation rules t fuel room).end ≡ Done u left → (derived rules (replacements rules fuel t) t ≡ Some u) × (fuel ≡ left + length (replacements rules fuel t))
  evaluation_derives t u fuel room left e =
      let c = evaluate_derives (reduction rules) (λ given kept h ts v f r m. within_good f given kept h ts v f r m) [] tt t [] fuel room u left e in
      let chain = subst (λ w. Chain rules c.list w u) (no_instance t) c.chain in
      let a = c.count in
      let listed : replacements rules fuel t ≡ c.list = chain_listed rules fuel c.list t u (normal_none rules u c.normal) chain (omega (arith, a)) in
      (ap (λ ss. derived rules ss t) listed ∙ chain_derives rules c.list t u chain, subst (λ ss. fuel ≡ left + length ss) (sym listed) a)
