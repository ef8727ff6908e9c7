-- A derivation is a list of steps, and its events lead where it leads.
use Rattle.std.proofs.Common.{◌≡◌, ℕ, zero, suc, List, [], ◌∷◌, ◌++◌, length, Option, Some, None, refl, sym, ◌∙◌, ap, subst, Bool, true, false, append_assoc, append-nil}
use Rattle.std.specs.Prelude.{if◌then◌else◌, option_and_then, Contains, ◌==◌}
use Rattle.std.specs.Option.{option_map}
use Rattle.std.proofs.lemmas.Option.{same_Some, option_and_then_some}
use Rattle.std.proofs.lemmas.Bool.{eqb-true}
use Rattle.term_model.specs.Tree.{Tree, Leaf, Node, Trees, End, More}
use Rattle.rewrite_model.specs.Rule.{Rule}
use Rattle.rewrite_model.specs.Matching.{match_of, if_matched, instance}
use Rattle.rewrite_model.specs.Step.{Step, at_root, inside, StepIn, here, there, Reaches, none, more, ReachesInSteps}
use Rattle.rewrite_model.specs.Derivation.{Replacement, by_rule, replace_at, replace_in, replaced, derived}
use Rattle.rewrite_model.specs.Trace.{downs, ups, moves, events_from}
use Rattle.rewrite_model.specs.Replay.{has, has_in, above, replayed}
use Rattle.rewrite_model.specs.declared.event.Event.{Event}
use Rattle.rewrite_model.specs.declared.event.Event.TheVariants as event
use Rattle.rewrite_model.proofs.SingleSteps.{first_stands, later_stands}

pub option_map_some : {A B P : Type 0} (f : A → B) (o : Option A) (y : B) → option_map f o ≡ Some y → ((x : A) → o ≡ Some x → f x ≡ y → P) → P
option_map_some f None y e k = cc
option_map_some f (Some x) y e k = k x refl (same_Some (f x) y e)

-- a rule that makes a tree of another one matches it
record IsUse (rules : List Rule) (t u : Tree) : Type 0 where
  rule : Rule
  stands : Contains rules rule
  bound : List Tree
  matches : match_of rule.left t ≡ Some bound
  is : instance rule.right bound ≡ u

use_of : (rules : List Rule) (k : ℕ) (t u : Tree) → by_rule rules k t ≡ Some u → IsUse rules t u
use_of [] k t u e = cc
use_of (r ∷ rs) zero t u e = go (match_of r.left t) refl e
  where
    go : (o : Option (List Tree)) → match_of r.left t ≡ o → if_matched o None (λ bound. Some (instance r.right bound)) ≡ Some u → IsUse (r ∷ rs) t u
    go None m e' = cc
    go (Some bound) m e' = record { rule = r; stands = first_stands r rs; bound = bound; matches = m; is = same_Some (instance r.right bound) u e' }
use_of (r ∷ rs) (suc k) t u e =
    let i = use_of rs k t u e in
    record { rule = i.rule; stands = later_stands r i.rule rs i.stands; bound = i.bound; matches = i.matches; is = i.is }

-- the position above, and one more move up
pub above_last : (is : List ℕ) (j : ℕ) → above (is ++ j ∷ []) ≡ Some is
above_last [] j = refl
above_last (i ∷ []) j = refl
above_last (i ∷ k ∷ ks) j = ap (option_and_then (λ ls. Some (i ∷ ls))) (above_last (k ∷ ks) j)

pub ups_last : (n : ℕ) (es : List Event) → ups (suc n) ++ es ≡ ups n ++ event.Up ∷ es
ups_last zero es = refl
ups_last (suc n) es = ap (λ fs. event.Up ∷ fs) (ups_last n es)

module _ (rules : List Rule) where
  use_steps : (t u : Tree) → IsUse rules t u → Step rules t u
  use_steps t u i = subst (Step rules t) i.is (at_root i.rule i.stands i.matches)

  mutual
    pub replace_steps : (js : List ℕ) (k : ℕ) (t u : Tree) → replace_at rules js k t ≡ Some u → Step rules t u
    replace_steps [] k t u e = use_steps t u (use_of rules k t u e)
    replace_steps (j ∷ js) k (Leaf x) u e = cc
    replace_steps (j ∷ js) k (Node h ts) u e = option_map_some (λ us. Node h us) (replace_in rules j js k ts) u e (λ us a b.
        subst (Step rules (Node h ts)) b (inside (replace_steps_in j js k ts us a)))

    replace_steps_in : (j : ℕ) (js : List ℕ) (k : ℕ) (ts us : Trees) → replace_in rules j js k ts ≡ Some us → StepIn rules ts us
    replace_steps_in j js k End us e = cc
    replace_steps_in zero js k (More t ts) us e = cc
    replace_steps_in (suc zero) js k (More t ts) us e = option_map_some (λ u. More u ts) (replace_at rules js k t) us e (λ u a b.
        subst (StepIn rules (More t ts)) b (here (replace_steps js k t u a)))
    replace_steps_in (suc (suc j)) js k (More t ts) us e = option_map_some (λ vs. More t vs) (replace_in rules (suc j) js k ts) us e (λ vs a b.
        subst (StepIn rules (More t ts)) b (there (replace_steps_in (suc j) js k ts vs a)))

  pub derivation_reaches : (ss : List Replacement) (t u : Tree) → derived rules ss t ≡ Some u → ReachesInSteps rules (length ss) t u
  derivation_reaches [] t u e = same_Some t u e
  derivation_reaches (s ∷ ss) t u e = option_and_then_some (λ v. derived rules ss v) (replaced rules s t) u e (λ v a b.
      (v, replace_steps s.position s.rule t v a, derivation_reaches ss v u b))

  -- whatever events lead to is reached
  pub events_reach : (es : List Event) (at : List ℕ) (t u : Tree) → replayed rules es at t ≡ Some u → Reaches rules t u
  events_reach [] at t u e = subst (Reaches rules t) (same_Some t u e) none
  events_reach (event.Down j ∷ es) at t u e = go (has (at ++ j ∷ []) t) (λ e'. events_reach es (at ++ j ∷ []) t u e') e
    where
      go : (b : Bool) → (replayed rules es (at ++ j ∷ []) t ≡ Some u → Reaches rules t u) → (if b then replayed rules es (at ++ j ∷ []) t else None) ≡ Some u → Reaches rules t u
      go true k e' = k e'
      go false k e' = cc
  events_reach (event.Up ∷ es) at t u e = option_and_then_some (λ up. replayed rules es up t) (above at) u e (λ up a b. events_reach es up t u b)
  events_reach (event.Rule k ∷ es) at t u e = option_and_then_some (λ v. replayed rules es at v) (replace_at rules at k t) u e (λ v a b.
      more (replace_steps at k t v a) (events_reach es at v u b))

  -- a position at which a tree is replaced is one of it, before and after
  mutual
    replaced_has : (js : List ℕ) (k : ℕ) (t u : Tree) → replace_at rules js k t ≡ Some u → (has js t ≡ true) × (has js u ≡ true)
    replaced_has [] k t u e = (refl, refl)
    replaced_has (j ∷ js) k (Leaf x) u e = cc
    replaced_has (j ∷ js) k (Node h ts) u e = option_map_some (λ us. Node h us) (replace_in rules j js k ts) u e (λ us a b.
        let i = replaced_has_in j js k ts us a in
        (i.0, subst (λ v. has (j ∷ js) v ≡ true) b i.1))

    replaced_has_in : (j : ℕ) (js : List ℕ) (k : ℕ) (ts us : Trees) → replace_in rules j js k ts ≡ Some us → (has_in j js ts ≡ true) × (has_in j js us ≡ true)
    replaced_has_in j js k End us e = cc
    replaced_has_in zero js k (More t ts) us e = cc
    replaced_has_in (suc zero) js k (More t ts) us e = option_map_some (λ u. More u ts) (replace_at rules js k t) us e (λ u a b.
        let i = replaced_has js k t u a in
        (i.0, subst (λ vs. has_in 1 js vs ≡ true) b i.1))
    replaced_has_in (suc (suc j)) js k (More t ts) us e = option_map_some (λ vs. More t vs) (replace_in rules (suc j) js k ts) us e (λ vs a b.
        let i = replaced_has_in (suc j) js k ts vs a in
        (i.0, subst (λ ws. has_in (suc (suc j)) js ws ≡ true) b i.1))

  -- the positions on the way to a position are there too
  mutual
    has_front : (is js : List ℕ) (t : Tree) → has (is ++ js) t ≡ true → has is t ≡ true
    has_front [] js t e = refl
    has_front (i ∷ is) js (Leaf x) e = cc
    has_front (i ∷ is) js (Node h ts) e = has_front_in i is js ts e

    has_front_in : (i : ℕ) (is js : List ℕ) (ts : Trees) → has_in i (is ++ js) ts ≡ true → has_in i is ts ≡ true
    has_front_in i is js End e = cc
    has_front_in zero is js (More t ts) e = cc
    has_front_in (suc zero) is js (More t ts) e = has_front is js t e
    has_front_in (suc (suc i)) is js (More t ts) e = has_front_in (suc i) is js ts e

  goes_up : (is at : List ℕ) (es : List Event) (t : Tree) → replayed rules (ups (length is) ++ es) (at ++ is) t ≡ replayed rules es at t
  goes_up [] at es t = ap (λ p. replayed rules es p t) (append-nil at)
  goes_up (i ∷ is) at es t =
      ap (λ fs. replayed rules fs (at ++ i ∷ is) t) (ups_last (length is) es)
      ∙ ap (λ p. replayed rules (ups (length is) ++ event.Up ∷ es) p t) (sym (append_assoc at (i ∷ []) is))
      ∙ goes_up is (at ++ i ∷ []) (event.Up ∷ es) t
      ∙ ap (option_and_then (λ up. replayed rules es up t)) (above_last at i)

  goes_down : (js at : List ℕ) (es : List Event) (t : Tree) → has (at ++ js) t ≡ true → replayed rules (downs js ++ es) at t ≡ replayed rules es (at ++ js) t
  goes_down [] at es t e = ap (λ p. replayed rules es p t) (sym (append-nil at))
  goes_down (j ∷ js) at es t e =
      let same = append_assoc at (j ∷ []) js in
      let e' : has ((at ++ j ∷ []) ++ js) t ≡ true = ap (λ p. has p t) same ∙ e in
      ap (λ b. if b then replayed rules (downs js ++ es) (at ++ j ∷ []) t else None) (has_front (at ++ j ∷ []) js t e')
      ∙ goes_down js (at ++ j ∷ []) es t e'
      ∙ ap (λ p. replayed rules es p t) same

  goes : (is js at : List ℕ) (es : List Event) (t : Tree) → has (at ++ js) t ≡ true → replayed rules (moves is js ++ es) (at ++ is) t ≡ replayed rules es (at ++ js) t
  goes [] js at es t e = ap (λ p. replayed rules (downs js ++ es) p t) (append-nil at) ∙ goes_down js at es t e
  goes (i ∷ is) [] at es t e = goes_up (i ∷ is) at es t ∙ ap (λ p. replayed rules es p t) (sym (append-nil at))
  goes (i ∷ is) (j ∷ js) at es t e = go (i == j) refl (λ s.
      let there' : has ((at ++ i ∷ []) ++ js) t ≡ true = ap (λ p. has p t) (append_assoc at (i ∷ []) js) ∙ ap (λ k. has (at ++ k ∷ js) t) s ∙ e in
      ap (λ p. replayed rules (moves is js ++ es) p t) (sym (append_assoc at (i ∷ []) is))
      ∙ goes is js (at ++ i ∷ []) es t there'
      ∙ ap (λ p. replayed rules es p t) (append_assoc at (i ∷ []) js)
      ∙ ap (λ k. replayed rules es (at ++ k ∷ js) t) s)
    where
      go : (b : Bool) → (i == j) ≡ b → (i ≡ j → replayed rules (moves is js ++ es) (at ++ i ∷ is) t ≡ replayed rules es (at ++ j ∷ js) t) → replayed rules ((if b then moves is js else ups (suc (length is)) ++ downs (j ∷ js)) ++ es) (at ++ i ∷ is) t ≡ replayed rules es (at ++ j ∷ js) t
      go true q k = k (eqb-true i j q)
      go false q k =
          ap (λ fs. replayed rules fs (at ++ i ∷ is) t) (append_assoc (ups (suc (length is))) (downs (j ∷ js)) es)
          ∙ goes_up (i ∷ is) at (downs (j ∷ js) ++ es) t
          ∙ goes_down (j ∷ js) at es t e

  pub events_lead : (ss : List Replacement) (at : List ℕ) (t u : Tree) → has at t ≡ true → derived rules ss t ≡ Some u → replayed rules (events_from at ss) at t ≡ Some u
  events_lead [] at t u h e = e
  events_lead (s ∷ ss) at t u h e = option_and_then_some (λ v. derived rules ss v) (replaced rules s t) u e (λ v a b.
      let i = replaced_has s.position s.rule t v a in
      goes at s.position [] (event.Rule s.rule ∷ events_from s.position ss) t i.0
      ∙ ap (option_and_then (λ w. replayed rules (events_from s.position ss) s.position w)) a
      ∙ events_lead ss s.position v u i.1 b)
