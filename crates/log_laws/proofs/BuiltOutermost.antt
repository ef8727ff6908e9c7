-- The heads of what outermost rewriting builds.
use Rattle.std.proofs.Common.{◌≡◌, ℕ, zero, suc, ◌+◌, ◌-◌, List, [], ◌∷◌, Option, Some, None, refl, subst, true}
use Rattle.std.specs.Prelude.{nat_lt}
use Rattle.std.specs.List.{AllByRecursion}
use Rattle.term_model.specs.Tree.{Tree, Leaf, Node, Trees, End, More, count_of}
use Rattle.term_model.specs.declared.Head.{Head}
use Rattle.rewrite_model.specs.Rule.{Rule}
use Rattle.rewrite_model.specs.Matching.{match_of, if_matched, tree_at}
use Rattle.rewrite_model.specs.Run.{Done, TooDeep, OutOfFuel, done, ends, noting}
use Rattle.rewrite_model.specs.Outermost.{Building, build, build_all, Stepped, Same, Changed, use_right, step_at_root, rebuild, in_front, if_same, step, step_all, go_on, steps, outermost, outermost_built}
use Rattle.rewrite_model.proofs.Closed.{OfValue}
use Rattle.log_laws.specs.Told.{OfHeads, WritesHeads}
use Rattle.log_laws.proofs.Built.{Fine, FineTrees, AllTold, matched_told, bound_told, IsToldRun, no_value, no_room, is_done, one_more, told_then, told_if, told_in_room, AreTold, one_before, over_told}

module _ (ok : OfHeads) where
  abbrev IsBuilt : {A : Type 0} → (A → Type 0) → Building A → Type 0
  IsBuilt P r = IsToldRun (Fine ok) P r

  module _ (bound : List Tree) (may : AllTold ok bound) where
    mutual
      build_told : (p : Tree) (fuel room : ℕ) → Fine ok p → IsBuilt (Fine ok) (build bound p fuel room)
      build_told (Leaf x) fuel room h =
          told_in_room (Fine ok) (Fine ok) room (done (tree_at x bound) fuel) (is_done (Fine ok) (Fine ok) (tree_at x bound) fuel (bound_told ok x bound may))
      build_told (Node g ps) fuel room h =
          told_in_room (Fine ok) (Fine ok) room _ (told_then (Fine ok) (AreTold ok ps) (Fine ok) (build_all bound ps fuel room) _ (build_all_told ps fuel room h.1) (λ ts left a.
          let new = over_told ok g ps ts h.0 a in
          one_more (Fine ok) (Fine ok) (Node g ts) (done (Node g ts) left) new (is_done (Fine ok) (Fine ok) (Node g ts) left new)))

      build_all_told : (ps : Trees) (fuel room : ℕ) → FineTrees ok ps → IsBuilt (AreTold ok ps) (build_all bound ps fuel room)
      build_all_told End fuel room h = is_done (Fine ok) (AreTold ok End) End fuel (tt, refl)
      build_all_told (More p ps) fuel room h =
          told_then (Fine ok) (Fine ok) (AreTold ok (More p ps)) (build bound p fuel (room - 1)) _ (build_told p fuel (room - 1) h.0) (λ t left a.
          told_then (Fine ok) (AreTold ok ps) (AreTold ok (More p ps)) (build_all bound ps left (room - 1)) _ (build_all_told ps left (room - 1) h.1) (λ ts rest b.
          is_done (Fine ok) (AreTold ok (More p ps)) (More t ts) rest (one_before ok p t ps ts a b)))

  -- what a step leaves may be told
  abbrev LeftTold : Stepped Tree → Type 0
  LeftTold Same = Unit {0}
  LeftTold (Changed u) = Fine ok u

  abbrev AllLeftTold : Trees → Stepped Trees → Type 0
  AllLeftTold ts Same = Unit {0}
  AllLeftTold ts (Changed us) = AreTold ok ts us

  right_told : (r : Rule) (bound : List Tree) (fuel room : ℕ) → WritesHeads ok r → AllTold ok bound → IsBuilt LeftTold (use_right r.right bound fuel room)
  right_told r bound zero room w may = no_value (Fine ok) LeftTold
  right_told r bound (suc fuel) room w may =
      told_then (Fine ok) (Fine ok) LeftTold (build bound r.right fuel (room - 1)) _ (build_told bound may r.right fuel (room - 1) w.right) (λ u left a.
      is_done (Fine ok) LeftTold (Changed u) left a)

  root_told : (rs : List Rule) (t : Tree) (fuel room : ℕ) (otherwise : Building (Stepped Tree)) → AllByRecursion (WritesHeads ok) rs → Fine ok t → IsBuilt LeftTold otherwise
      → IsBuilt LeftTold (step_at_root rs t fuel room otherwise)
  root_told [] t fuel room otherwise w h s = s
  root_told (r ∷ rs) t fuel room otherwise w h s = go (match_of r.left t) refl (root_told rs t fuel room otherwise w.1 h s)
    where
      go : (o : Option (List Tree)) → match_of r.left t ≡ o → IsBuilt LeftTold (step_at_root rs t fuel room otherwise)
          → IsBuilt LeftTold (if_matched o (step_at_root rs t fuel room otherwise) (λ bound. use_right r.right bound fuel room))
      go None m later = later
      go (Some bound) m later = right_told r bound fuel room w.0 (matched_told ok r.left t bound h m)

  rebuild_told : (g : Head) (ts : Trees) (s : Stepped Trees) (fuel room : ℕ) → ok g (count_of ts) ≡ true → AllLeftTold ts s → IsBuilt LeftTold (rebuild (count_of ts) (λ us. Node g us) s fuel room)
  rebuild_told g ts Same fuel room h a = is_done (Fine ok) LeftTold Same fuel tt
  rebuild_told g ts (Changed us) fuel room h a =
      let new = over_told ok g ts us h a in
      told_if (Fine ok) LeftTold (nat_lt room (1 + count_of ts)) (ends TooDeep) (noting (Node g us) (done (Changed (Node g us)) fuel)) (no_room (Fine ok) LeftTold)
      (one_more (Fine ok) LeftTold (Node g us) (done (Changed (Node g us)) fuel) new (is_done (Fine ok) LeftTold (Changed (Node g us)) fuel new))

  if_same_told : (t : Tree) (s : Stepped Tree) (ts : Trees) (otherwise : Building (Stepped Trees)) (fuel : ℕ) → LeftTold s → FineTrees ok ts → IsBuilt (AllLeftTold (More t ts)) otherwise
      → IsBuilt (AllLeftTold (More t ts)) (if_same s ts otherwise fuel)
  if_same_told t Same ts otherwise fuel a h s = s
  if_same_told t (Changed u) ts otherwise fuel a h s = is_done (Fine ok) (AllLeftTold (More t ts)) (Changed (More u ts)) fuel ((a, h), refl)

  in_front_told : (t : Tree) (ts : Trees) (s : Stepped Trees) → Fine ok t → AllLeftTold ts s → AllLeftTold (More t ts) (in_front t s)
  in_front_told t ts Same h a = tt
  in_front_told t ts (Changed us) h a = one_before ok t t ts us h a

  module _ (rules : List Rule) (w : AllByRecursion (WritesHeads ok) rules) where
    mutual
      step_told : (t : Tree) (fuel room : ℕ) → Fine ok t → IsBuilt LeftTold (step rules t fuel room)
      step_told (Leaf x) fuel room h =
          told_in_room (Fine ok) LeftTold room _ (root_told rules (Leaf x) fuel room (done Same fuel) w h (is_done (Fine ok) LeftTold Same fuel tt))
      step_told (Node g ts) fuel room h =
          told_in_room (Fine ok) LeftTold room _ (root_told rules (Node g ts) fuel room _ w h
          (told_then (Fine ok) (AllLeftTold ts) LeftTold (step_all rules ts fuel room) _ (step_all_told ts fuel room h.1) (λ s left a.
          rebuild_told g ts s left room h.0 a)))

      step_all_told : (ts : Trees) (fuel room : ℕ) → FineTrees ok ts → IsBuilt (AllLeftTold ts) (step_all rules ts fuel room)
      step_all_told End fuel room h = is_done (Fine ok) (AllLeftTold End) Same fuel tt
      step_all_told (More t ts) fuel room h =
          told_then (Fine ok) LeftTold (AllLeftTold (More t ts)) (step rules t fuel (room - 1)) _ (step_told t fuel (room - 1) h.0) (λ s left a.
          if_same_told t s ts _ left a h.1
          (told_then (Fine ok) (AllLeftTold ts) (AllLeftTold (More t ts)) (step_all rules ts left (room - 1)) _ (step_all_told ts left (room - 1) h.1) (λ more rest b.
          is_done (Fine ok) (AllLeftTold (More t ts)) (in_front t more) rest (in_front_told t ts more h.0 b))))

    go_on_told : (t : Tree) (s : Stepped Tree) (fuel : ℕ) (go : Tree → Building Tree) → Fine ok t → LeftTold s → ((u : Tree) → Fine ok u → IsBuilt (Fine ok) (go u))
        → IsBuilt (Fine ok) (go_on rules t s fuel go)
    go_on_told t Same fuel go h a later = is_done (Fine ok) (Fine ok) t fuel h
    go_on_told t (Changed u) fuel go h a later = later u a

    steps_told : (fuel : ℕ) (t : Tree) (room : ℕ) → Fine ok t → IsBuilt (Fine ok) (steps rules fuel t room)
    steps_told zero t room h =
        told_then (Fine ok) LeftTold (Fine ok) (step rules t zero room) _ (step_told t zero room h) (λ s left a.
        go_on_told t s left (λ u. ends OutOfFuel) h a (λ u k. no_value (Fine ok) (Fine ok)))
    steps_told (suc fuel) t room h =
        told_then (Fine ok) LeftTold (Fine ok) (step rules t (suc fuel) room) _ (step_told t (suc fuel) room h) (λ s left a.
        go_on_told t s left (λ u. steps rules fuel u room) h a (λ u k. steps_told fuel u room k))

  evaluated : (rules : List Rule) (term : Tree) (fuel room : ℕ) → AllByRecursion (WritesHeads ok) rules → Fine ok term → IsBuilt (Fine ok) (outermost rules term fuel room)
  evaluated rules term fuel room w h =
      told_then (Fine ok) (Fine ok) (Fine ok) (build [] term fuel room) _ (build_told [] tt term fuel room h) (λ t left a. steps_told rules w left t room a)

  pub outermost_told : (rules : List Rule) (term : Tree) (fuel room : ℕ) → AllByRecursion (WritesHeads ok) rules → Fine ok term → AllTold ok (outermost_built rules term fuel room)
  outermost_told rules term fuel room w h = (evaluated rules term fuel room w h).notes

  pub outermost_value_told : (rules : List Rule) (term : Tree) (fuel room : ℕ) → AllByRecursion (WritesHeads ok) rules → Fine ok term
      → (value : Tree) (left : ℕ) → (outermost rules term fuel room).end ≡ Done value left → Fine ok value
  outermost_value_told rules term fuel room w h value left is = subst (OfValue (Fine ok)) is (evaluated rules term fuel room w h).value
