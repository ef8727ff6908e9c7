-- Replacements by rules keep a tree of symbols that have no more than some number of arguments,
-- so that the numbers in events
-- stay small.
use Rattle.std.proofs.Common.{◌≡◌, ℕ, zero, suc, ◌+◌, ◌<◌, ◌≤◌, Bool, true, false, cond, List, [], ◌∷◌, ◌++◌, length, get_or, Option, Some, None, All, refl, sym, ap, ◌∙◌, subst, arith, leb-true}
use Rattle.std.specs.Prelude.{◌&&◌, nat_le}
use Rattle.std.specs.Option.{option_map}
use Rattle.std.specs.List.{list_all, AllByRecursion}
use Rattle.std.proofs.lemmas.Option.{same_Some, option_and_then_some}
use Rattle.std.proofs.lemmas.List.Elements.{All-head, All-tail}
use Rattle.std.proofs.lemmas.List.Folds.{list_all-append}
use Rattle.term_model.specs.Tree.{Tree, Leaf, Node, Trees, End, More, count_of, tree_eq, head_eq}
use Rattle.term_model.specs.Postorder.{postorder, postorder_all, item_of}
use Rattle.term_model.specs.declared.Head.{Head}
use Rattle.term_model.specs.declared.Head.TheVariants.{App, Int, Nil, Cons}
use Rattle.term_model.specs.declared.Item.{Item}
use Rattle.term_model.proofs.Order.{both_hold}
use Rattle.rewrite_model.specs.Rule.{Rule}
use Rattle.rewrite_model.specs.Matching.{bind, match_from, match_all, match_of, if_matched, instance, instances}
use Rattle.rewrite_model.specs.Derivation.{by_rule, replace_at, replace_in}
use Rattle.rewrite_model.specs.Replay.{has, has_in, above, replayed}
use Rattle.rewrite_model.specs.declared.event.Event.{Event}
use Rattle.rewrite_model.specs.declared.event.Event.TheVariants.{Down, Up, Rule as Use}
use Rattle.rewrite_model.proofs.Matches.{chosen, mapped, if_some}
use Rattle.rule_match.specs.Planned.{IsPlain, is_plain}

both : (a b : Bool) → a ≡ true → b ≡ true → (a && b) ≡ true
both true b e f = f
both false b e f = absurd cc

-- ---- trees of symbols over few arguments

abbrev pub is_symbol : Head → Bool
is_symbol (App f) = true
is_symbol (Int v) = false
is_symbol Nil = false
is_symbol Cons = false

module _ (most : ℕ) where
  abbrev pub is_node : Head → Trees → Bool
  is_node h ts = is_symbol h && nat_le (count_of ts) most

  abbrev mutual
    pub is_narrow : Tree → Bool
    is_narrow (Leaf x) = true
    is_narrow (Node h ts) = is_node h ts && are_narrow ts

    pub are_narrow : Trees → Bool
    are_narrow End = true
    are_narrow (More t ts) = is_narrow t && are_narrow ts

  abbrev pub IsNarrow : Tree → Type 0
  IsNarrow t = is_narrow t ≡ true

  abbrev AreNarrow : Trees → Type 0
  AreNarrow ts = are_narrow ts ≡ true

  -- ---- patterns of symbols alone

  plain_node : (h : Head) (ts : Trees) → is_plain most (item_of h (count_of ts)) ≡ true
      → is_node h ts ≡ true
  plain_node (App f) ts e = e
  plain_node (Int v) ts e = absurd cc
  plain_node Nil ts e = absurd cc
  plain_node Cons ts e = absurd cc

  mutual
    pub plain_is_narrow : (t : Tree) → IsPlain most t → IsNarrow t
    plain_is_narrow (Leaf x) e = refl
    plain_is_narrow (Node h ts) e =
        let parts = both_hold (list_all (λ (i : Item). is_plain most i) (postorder_all ts))
        (is_plain most (item_of h (count_of ts)) && true)
        (sym (list_all-append (λ (i : Item). is_plain most i) (postorder_all ts)
        (item_of h (count_of ts) ∷ [])) ∙ e) in
        both (is_node h ts) (are_narrow ts)
        (plain_node h ts (both_hold (is_plain most (item_of h (count_of ts))) true parts.1).0)
        (plain_are_narrow ts parts.0)

    plain_are_narrow : (ts : Trees)
        → list_all (λ (i : Item). is_plain most i) (postorder_all ts) ≡ true → AreNarrow ts
    plain_are_narrow End e = refl
    plain_are_narrow (More t ts) e =
        let parts = both_hold (list_all (λ (i : Item). is_plain most i) (postorder t))
        (list_all (λ (i : Item). is_plain most i) (postorder_all ts))
        (sym (list_all-append (λ (i : Item). is_plain most i) (postorder t) (postorder_all ts))
        ∙ e) in
        both (is_narrow t) (are_narrow ts) (plain_is_narrow t parts.0) (plain_are_narrow ts parts.1)

  -- ---- what is bound, and instances

  abbrev AllNarrow : List Tree → Type 0
  AllNarrow ts = AllByRecursion IsNarrow ts

  bind_narrow : (x : ℕ) (t : Tree) (before bound : List Tree) → IsNarrow t → AllNarrow before
      → bind x t before ≡ Some bound → AllNarrow bound
  bind_narrow zero t [] bound h k e = subst AllNarrow (same_Some (t ∷ []) bound e) (h, tt)
  bind_narrow (suc x) t [] bound h k e = cc
  bind_narrow zero t (u ∷ us) bound h k e =
      subst AllNarrow (chosen (tree_eq u t) (u ∷ us) bound e).1 k
  bind_narrow (suc x) t (u ∷ us) bound h k e =
      let m = mapped u (bind x t us) bound e in
      subst AllNarrow m.2 (k.0, bind_narrow x t us m.0 h k.1 m.1)

  mutual
    match_narrow : (p t : Tree) (before bound : List Tree) → IsNarrow t → AllNarrow before
        → match_from p t before ≡ Some bound → AllNarrow bound
    match_narrow (Leaf x) t before bound h k e = bind_narrow x t before bound h k e
    match_narrow (Node f ps) (Leaf y) before bound h k e = cc
    match_narrow (Node f ps) (Node g ts) before bound h k e =
        matches_narrow ps ts before bound (both_hold (is_node g ts) (are_narrow ts) h).1 k
        (if_some (head_eq f g) (match_all ps ts before) bound e).1

    matches_narrow : (ps ts : Trees) (before bound : List Tree) → AreNarrow ts → AllNarrow before
        → match_all ps ts before ≡ Some bound → AllNarrow bound
    matches_narrow End End before bound h k e = subst AllNarrow (same_Some before bound e) k
    matches_narrow End (More t ts) before bound h k e = cc
    matches_narrow (More p ps) End before bound h k e = cc
    matches_narrow (More p ps) (More t ts) before bound h k e =
        let q = both_hold (is_narrow t) (are_narrow ts) h in
        option_and_then_some (λ m. match_all ps ts m) (match_from p t before) bound e (λ mid i i'.
        matches_narrow ps ts mid bound q.1 (match_narrow p t before mid q.0 k i) i')

  got_narrow : (x y : ℕ) (ts : List Tree) → AllNarrow ts → IsNarrow (get_or ts y (Leaf x))
  got_narrow x y [] k = refl
  got_narrow x zero (t ∷ ts) k = k.0
  got_narrow x (suc y) (t ∷ ts) k = got_narrow x y ts k.1

  instances_count : (ps : Trees) (bound : List Tree) → count_of (instances ps bound) ≡ count_of ps
  instances_count End bound = refl
  instances_count (More p ps) bound = ap (λ n. n + 1) (instances_count ps bound)

  mutual
    instance_narrow : (p : Tree) (bound : List Tree) → IsNarrow p → AllNarrow bound
        → IsNarrow (instance p bound)
    instance_narrow (Leaf x) bound h k = got_narrow x x bound k
    instance_narrow (Node g ps) bound h k =
        let q = both_hold (is_node g ps) (are_narrow ps) h in
        both (is_node g (instances ps bound)) (are_narrow (instances ps bound))
        (ap (λ n. is_symbol g && nat_le n most) (instances_count ps bound) ∙ q.0)
        (instances_narrow ps bound q.1 k)

    instances_narrow : (ps : Trees) (bound : List Tree) → AreNarrow ps → AllNarrow bound
        → AreNarrow (instances ps bound)
    instances_narrow End bound h k = refl
    instances_narrow (More p ps) bound h k =
        let q = both_hold (is_narrow p) (are_narrow ps) h in
        both (is_narrow (instance p bound)) (are_narrow (instances ps bound))
        (instance_narrow p bound q.0 k) (instances_narrow ps bound q.1 k)

  -- ---- replacements

  abbrev pub WritesNarrow : Rule → Type 0
  WritesNarrow r = IsNarrow r.right

  -- a tree that a rule makes is narrow, and there is a rule with this number
  record Made (rules : List Rule) (k : ℕ) (u : Tree) : Type 0 where
    narrow : IsNarrow u
    below : k < length rules

  record MadeIn (rules : List Rule) (k : ℕ) (us : Trees) (count : ℕ) : Type 0 where
    narrow : AreNarrow us
    same : count_of us ≡ count
    below : k < length rules

  instance_made : (r : Rule) (t u : Tree) → WritesNarrow r → IsNarrow t
      → if_matched (match_of r.left t) None (λ bound. Some (instance r.right bound)) ≡ Some u
      → IsNarrow u
  instance_made r t u w h e = by (match_of r.left t) refl e
    where
      by : (o : Option (List Tree)) → match_of r.left t ≡ o
          → if_matched o None (λ bound. Some (instance r.right bound)) ≡ Some u → IsNarrow u
      by None m g = absurd cc
      by (Some bound) m g = subst IsNarrow (same_Some (instance r.right bound) u g)
          (instance_narrow r.right bound w (match_narrow r.left t [] bound h tt m))

  rule_made : (rules : List Rule) (k : ℕ) (t u : Tree) → All WritesNarrow rules → IsNarrow t
      → by_rule rules k t ≡ Some u → Made rules k u
  rule_made [] k t u w h e = absurd cc
  rule_made (r ∷ rs) zero t u w h e =
      record {
        narrow = instance_made r t u (All-head WritesNarrow r rs w) h e;
        below =
            omega arith;
      }
  rule_made (r ∷ rs) (suc k) t u w h e =
      let m = rule_made rs k t u (All-tail WritesNarrow r rs w) h e in
      let b = m.below in
      record { narrow = m.narrow; below = omega (arith, b) }

  -- what came before a step that gave something
  from_map : {A B : Type 0} (f : A → B) (o : Option A) (y : B) → option_map f o ≡ Some y
      → (x : A) × (o ≡ Some x) × (f x ≡ y)
  from_map f None y e = absurd (let bad : None ≡ Some y = e in cc)
  from_map f (Some x) y e = (x, refl, same_Some (f x) y e)

  -- the numbers of events are small
  abbrev pub IsSmall : List Rule → Event → Type 0
  IsSmall rules (Down j) = j ≤ most
  IsSmall rules Up = Unit {0}
  IsSmall rules (Use k) = k < length rules

  -- the events are small, and lead to a narrow tree
  pub record LeadsOn (rules : List Rule) (es : List Event) (u : Tree) : Type 0 where
    pub small : AllByRecursion (IsSmall rules) es
    pub narrow : IsNarrow u

  module _ (rules : List Rule) (write : All WritesNarrow rules) where
    mutual
      replaced_made : (at : List ℕ) (k : ℕ) (t u : Tree) → IsNarrow t
          → replace_at rules at k t ≡ Some u → Made rules k u
      replaced_made [] k t u h e = rule_made rules k t u write h e
      replaced_made (j ∷ js) k (Leaf x) u h e = absurd cc
      replaced_made (j ∷ js) k (Node g ts) u h e =
          let q = both_hold (is_node g ts) (are_narrow ts) h in
          let f = from_map (λ us. Node g us) (replace_in rules j js k ts) u e in
          let m = replaced_in_made j js k ts f.0 q.1 f.1 in
          let node : IsNarrow (Node g f.0) =
          both (is_node g f.0) (are_narrow f.0)
          (ap (λ n. is_symbol g && nat_le n most) m.same ∙ q.0) m.narrow in
          record { narrow = subst IsNarrow f.2 node; below = m.below }

      replaced_in_made : (j : ℕ) (js : List ℕ) (k : ℕ) (ts us : Trees) → AreNarrow ts
          → replace_in rules j js k ts ≡ Some us → MadeIn rules k us (count_of ts)
      replaced_in_made j js k End us h e = absurd cc
      replaced_in_made zero js k (More t ts) us h e = absurd cc
      replaced_in_made (suc zero) js k (More t ts) us h e =
          let q = both_hold (is_narrow t) (are_narrow ts) h in
          let f = from_map (λ u. More u ts) (replace_at rules js k t) us e in
          let m = replaced_made js k t f.0 q.0 f.1 in
          record {
            narrow = subst AreNarrow f.2 (both (is_narrow f.0) (are_narrow ts) m.narrow q.1);
            same = ap count_of (sym f.2);
            below = m.below;
          }
      replaced_in_made (suc (suc j)) js k (More t ts) us h e =
          let q = both_hold (is_narrow t) (are_narrow ts) h in
          let f = from_map (λ vs. More t vs) (replace_in rules (suc j) js k ts) us e in
          let m = replaced_in_made (suc j) js k ts f.0 q.1 f.1 in
          record {
            narrow = subst AreNarrow f.2 (both (is_narrow t) (are_narrow f.0) q.0 m.narrow);
            same = ap count_of (sym f.2) ∙ ap (λ n. n + 1) m.same;
            below = m.below;
          }

    -- ---- positions and events

    has_few : (j : ℕ) (js : List ℕ) (ts : Trees) → has_in j js ts ≡ true → j ≤ count_of ts
    has_few j js End e = absurd cc
    has_few zero js (More t ts) e = omega arith
    has_few (suc zero) js (More t ts) e = omega arith
    has_few (suc (suc j)) js (More t ts) e = let m = has_few (suc j) js ts e in omega (arith, m)

    mutual
      last_few : (at : List ℕ) (j : ℕ) (t : Tree) → IsNarrow t → has (at ++ j ∷ []) t ≡ true
          → j ≤ most
      last_few [] j (Leaf x) h e = absurd cc
      last_few [] j (Node g ts) h e =
          let few = has_few j [] ts e in
          let node = both_hold (is_symbol g) (nat_le (count_of ts) most)
          (both_hold (is_node g ts) (are_narrow ts) h).0 in
          let less = leb-true (count_of ts) most node.1 in
          omega (arith, few, less)
      last_few (i ∷ at) j (Leaf x) h e = absurd cc
      last_few (i ∷ at) j (Node g ts) h e =
          last_few_in i at j ts (both_hold (is_node g ts) (are_narrow ts) h).1 e

      last_few_in : (i : ℕ) (at : List ℕ) (j : ℕ) (ts : Trees) → AreNarrow ts
          → has_in i (at ++ j ∷ []) ts ≡ true → j ≤ most
      last_few_in i at j End h e = absurd cc
      last_few_in zero at j (More t ts) h e = absurd cc
      last_few_in (suc zero) at j (More t ts) h e =
          last_few at j t (both_hold (is_narrow t) (are_narrow ts) h).0 e
      last_few_in (suc (suc i)) at j (More t ts) h e =
          last_few_in (suc i) at j ts (both_hold (is_narrow t) (are_narrow ts) h).1 e

    pub lead_on : (es : List Event) (at : List ℕ) (t u : Tree) → IsNarrow t
        → replayed rules es at t ≡ Some u → LeadsOn rules es u
    lead_on [] at t u h e = record { small = tt; narrow = subst IsNarrow (same_Some t u e) h }
    lead_on (Down j ∷ es) at t u h e =
        by (has (at ++ j ∷ []) t) refl e (λ f. lead_on es (at ++ j ∷ []) t u h f)
      where
        by : (b : Bool) → has (at ++ j ∷ []) t ≡ b
            → cond b (replayed rules es (at ++ j ∷ []) t) None ≡ Some u
            → (replayed rules es (at ++ j ∷ []) t ≡ Some u → LeadsOn rules es u)
            → LeadsOn rules (Down j ∷ es) u
        by false p f more = absurd cc
        by true p f more =
            let m = more f in
            record { small = (last_few at j t h p, m.small); narrow = m.narrow }
    lead_on (Up ∷ es) at t u h e =
        option_and_then_some (λ up. replayed rules es up t) (above at) u e (λ up i f.
        let m = lead_on es up t u h f in record { small = (tt, m.small); narrow = m.narrow })
    lead_on (Use k ∷ es) at t u h e =
        option_and_then_some (λ v. replayed rules es at v) (replace_at rules at k t) u e (λ v i f.
        let made = replaced_made at k t v h i in
        let m = lead_on es at v u made.narrow f in
        record { small = (made.below, m.small); narrow = m.narrow })
