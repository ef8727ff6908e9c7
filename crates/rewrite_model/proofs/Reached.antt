-- The value of an innermost evaluation is reached by steps, and is a normal form.
use Rattle.std.proofs.Common.{◌≡◌, ℕ, zero, suc, ◌+◌, ◌-◌, List, [], ◌∷◌, ◌++◌, length, Option, Some, None, refl, sym, ◌∙◌, ap, subst, Bool, true, false, append_assoc, append-nil}
use Rattle.std.specs.Prelude.{if◌then◌else◌, nat_lt, All, Contains}
use Rattle.std.proofs.lemmas.List.Elements.{All-contains, All-push, All-nil}
use Rattle.term_model.specs.Tree.{Tree, Leaf, Node, Trees, End, More}
use Rattle.term_model.specs.declared.Head.{Head}
use Rattle.rewrite_model.specs.Rule.{Rule, IsNode, IsUnconditional}
use Rattle.rewrite_model.specs.Matching.{match_of, if_matched, instance, instances, tree_at}
use Rattle.rewrite_model.specs.Run.{Run, Ended, Done, OutOfFuel, TooDeep, done, ends, after, ◌>>=◌, in_room}
use Rattle.rewrite_model.specs.Evaluation.{Evaluated, Reducer, evaluate, evaluate_all, hold, replace, apply, reduce_by, begin, reduce_within, reduction, evaluation}
use Rattle.rewrite_model.specs.Step.{at_root, Reaches, none, more, IsNormalForm}
use Rattle.rewrite_model.proofs.NormalForms.{NoneMatches, first_contained, ReachesIn, none_in, NormalIn, NormalAll, reaches_both, reach_both, all_inside, all_here, all_there, node_normal, root_match_normal, tree_normal, no_instance}

-- a run that ends with a value went on from one
pub went_on : {N A B P : Type 0} (x : Run N A) (g : A → ℕ → Run N B) (b : B) (n : ℕ) → (x >>= g).end ≡ Done b n → ((a : A) (m : ℕ) → x.end ≡ Done a m → (g a m).end ≡ Done b n → P) → P
went_on {N} {A} {B} {P} x g b n e k = go x.notes x.end e k
  where
    go : (notes : List N) (end : Ended A) → (after notes end g).end ≡ Done b n → ((a : A) (m : ℕ) → end ≡ Done a m → (g a m).end ≡ Done b n → P) → P
    go notes (Done a m) e' k' = k' a m refl e'
    go notes OutOfFuel e' k' = cc
    go notes TooDeep e' k' = cc

pub had_room : {N A : Type 0} (room : ℕ) (x : Run N A) (a : A) (n : ℕ) → (in_room room x).end ≡ Done a n → x.end ≡ Done a n
had_room zero x a n e = cc
had_room (suc m) x a n e = e

pub same_value : {A : Type 0} (a b : A) (m n : ℕ) → Done a m ≡ Done b n → (a ≡ b) × (m ≡ n)
same_value a b m n e = (cc, cc)

module _ (rules : List Rule) (nodes : All (λ (r : Rule). IsNode r.left) rules) (plain : All IsUnconditional rules) where
  record Comes (t u : Tree) : Type 0 where
    steps : Reaches rules t u
    normal : IsNormalForm rules u

  record ComeIn (ts us : Trees) : Type 0 where
    steps : ReachesIn rules ts us
    normal : NormalIn rules us

  -- what is reduced is reached, and is a normal form
  abbrev Good : Reducer → Type 0
  Good red = (given kept : List Tree) (h : Head) (ts : Trees) (u : Tree) (fuel room left : ℕ) → NormalIn rules ts → (red given kept (Node h ts) fuel room).end ≡ Done u left → Comes (Node h ts) u

  module _ (red : Reducer) (good : Good red) where
    module _ (bound : List Tree) (bn : NormalAll rules bound) where
      bound_comes : (x : ℕ) (u : Tree) → tree_at x bound ≡ u → Comes (tree_at x bound) u
      bound_comes x u e = subst (λ w. Comes (tree_at x bound) w) e (record { steps = none; normal = tree_normal rules nodes x bound bn })

      mutual
        evaluate_comes : (p : Tree) (kept : List Tree) (fuel room : ℕ) (u : Tree) (left : ℕ) → (evaluate red bound p kept fuel room).end ≡ Done u left → Comes (instance p bound) u
        evaluate_comes (Leaf x) kept fuel room u left e = bound_comes x u (same_value (tree_at x bound) u fuel left (had_room room (done (tree_at x bound) fuel) u left e)).0
        evaluate_comes (Node h ps) kept fuel room u left e = went_on (evaluate_all red bound ps kept fuel room) (λ ts m. red [] kept (Node h ts) m room) u left (had_room room _ u left e) (λ ts m a r.
            let c = all_come ps kept fuel room ts m a in
            let d = good [] kept h ts u m room left c.normal r in
            record { steps = reaches_both rules (all_inside rules h c.steps) d.steps; normal = d.normal })

        all_come : (ps : Trees) (kept : List Tree) (fuel room : ℕ) (us : Trees) (left : ℕ) → (evaluate_all red bound ps kept fuel room).end ≡ Done us left → ComeIn (instances ps bound) us
        all_come End kept fuel room us left e = subst (λ w. ComeIn End w) (same_value End us fuel left e).0 (record { steps = none_in; normal = tt })
        all_come (More p ps) kept fuel room us left e = went_on (evaluate red bound p kept fuel (room - 1)) _ us left e (λ t m a r.
            went_on (evaluate_all red bound ps (t ∷ kept) m (room - 1)) _ us left r (λ ts k a' r'.
            let c = evaluate_comes p kept fuel (room - 1) t m a in
            let d = all_come ps (t ∷ kept) m (room - 1) ts k a' in
            subst (λ w. ComeIn (More (instance p bound) (instances ps bound)) w) (same_value (More t ts) us k left r').0
            (record { steps = reach_both rules (all_here rules (instances ps bound) c.steps) (all_there rules t d.steps); normal = (c.normal, d.normal) })))

      replace_comes : (p : Tree) (kept : List Tree) (fuel room : ℕ) (u : Tree) (left : ℕ) → (replace red bound p kept fuel room).end ≡ Done u left → Comes (instance p bound) u
      replace_comes (Leaf x) kept fuel room u left e = bound_comes x u (same_value (tree_at x bound) u fuel left e).0
      replace_comes (Node h ps) kept fuel room u left e = went_on (evaluate_all red bound ps (bound ++ kept) fuel (room - length bound)) (λ ts m. red bound kept (Node h ts) m room) u left e (λ ts m a r.
          let c = all_come ps (bound ++ kept) fuel (room - length bound) ts m a in
          let d = good bound kept h ts u m room left c.normal r in
          record { steps = reaches_both rules (all_inside rules h c.steps) d.steps; normal = d.normal })

    no_conditions : (r : Rule) (bound kept : List Tree) (fuel room : ℕ) → IsUnconditional r → (hold red bound r.conditions kept fuel room).end ≡ Done true fuel
    no_conditions r bound kept fuel room e = ap (λ cs. (hold red bound cs kept fuel room).end) e

    apply_comes : (r : Rule) (bound kept : List Tree) (t : Tree) (fuel room : ℕ) (rest : ℕ → Evaluated Tree) (u : Tree) (left : ℕ) → IsUnconditional r → NormalAll rules bound → (apply red r bound kept t fuel room rest).end ≡ Done u left → Comes (instance r.right bound) u
    apply_comes r bound kept t zero room rest u left w n e = cc
    apply_comes r bound kept t (suc fuel) room rest u left w n e = go (nat_lt room (1 + length bound)) e
      where
        use_right : (b : Bool) (m : ℕ) → b ≡ true → (if b then replace red bound r.right kept m room else rest m).end ≡ Done u left → Comes (instance r.right bound) u
        use_right true m q e' = replace_comes bound n r.right kept m room u left e'
        use_right false m q e' = cc

        go : (b : Bool) → (if b then ends TooDeep else (hold red bound r.conditions (t ∷ bound ++ kept) fuel (room - length bound) >>= (λ c m. if c then replace red bound r.right kept m room else rest m))).end ≡ Done u left → Comes (instance r.right bound) u
        go true e' = cc
        go false e' = went_on (hold red bound r.conditions (t ∷ bound ++ kept) fuel (room - length bound)) (λ c m. if c then replace red bound r.right kept m room else rest m) u left e' (λ c m a b.
            let s : Done true fuel ≡ Done c m = sym (no_conditions r bound (t ∷ bound ++ kept) fuel (room - length bound) w) ∙ a in
            use_right c m (sym (same_value true c fuel m s).0) b)

    reduce_by_comes : (front rs : List Rule) (kept : List Tree) (h : Head) (ts : Trees) (u : Tree) (fuel room left : ℕ) → front ++ rs ≡ rules → NoneMatches front (Node h ts) → NormalIn rules ts → (reduce_by red rs kept (Node h ts) fuel room).end ≡ Done u left → Comes (Node h ts) u
    reduce_by_comes front [] kept h ts u fuel room left all none_yet n e =
        let same : front ≡ rules = sym (append-nil front) ∙ all in
        subst (λ w. Comes (Node h ts) w) (same_value (Node h ts) u fuel left e).0
        (record { steps = none; normal = node_normal rules h ts n (subst (λ rs. NoneMatches rs (Node h ts)) same none_yet) })
    reduce_by_comes front (r ∷ rs) kept h ts u fuel room left all none_yet n e = go (match_of r.left (Node h ts)) refl (λ m e'. reduce_by_comes (front ++ r ∷ []) rs kept h ts u fuel room left (append_assoc front (r ∷ []) rs ∙ all) (All-push (λ (q : Rule). match_of q.left (Node h ts) ≡ None) front r none_yet m) n e') e
      where
        contained : Contains rules r
        contained = subst (λ xs. Contains xs r) all (first_contained front rs r)

        go : (o : Option (List Tree)) → match_of r.left (Node h ts) ≡ o → (match_of r.left (Node h ts) ≡ None → (reduce_by red rs kept (Node h ts) fuel room).end ≡ Done u left → Comes (Node h ts) u) → (if_matched o (reduce_by red rs kept (Node h ts) fuel room) (λ bound. apply red r bound kept (Node h ts) fuel room (λ m. reduce_by red rs kept (Node h ts) m room))).end ≡ Done u left → Comes (Node h ts) u
        go None m later e' = later m e'
        go (Some bound) m later e' =
            let i = All-contains (λ (q : Rule). IsNode q.left) rules r nodes contained in
            let w = All-contains IsUnconditional rules r plain contained in
            let c = apply_comes r bound kept (Node h ts) fuel room _ u left w (root_match_normal rules r.left h ts bound i n m) e' in
            record { steps = more (at_root r contained m) c.steps; normal = c.normal }

  begin_good : (red : Reducer) → Good red → Good (begin red rules)
  begin_good red good given kept h ts u fuel room left n e = reduce_by_comes red good [] rules kept h ts u fuel room left refl (All-nil (λ (q : Rule). match_of q.left (Node h ts) ≡ None)) n e

  within_good : (n : ℕ) → Good (reduce_within n rules)
  within_good zero = begin_good (λ given kept t fuel room. ends OutOfFuel) (λ given kept h ts u fuel room left n e. cc)
  within_good (suc n) = begin_good (reduce_within n rules) (within_good n)

  pub evaluation_comes : (term u : Tree) (fuel room left : ℕ) → (evaluation rules term fuel room).end ≡ Done u left → Reaches rules term u × IsNormalForm rules u
  evaluation_comes term u fuel room left e =
      let c = evaluate_comes (reduction rules) (λ given kept h ts v f r m. within_good f given kept h ts v f r m) [] tt term [] fuel room u left e in
      (subst (λ w. Reaches rules w u) (no_instance term) c.steps, c.normal)
