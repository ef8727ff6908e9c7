-- The symbols of the value of an outermost evaluation are those of its term and of the rules' right
-- sides.
use Rattle.std.proofs.Common.{◌≡◌, ℕ, zero, suc, ◌+◌, ◌-◌, List, [], ◌∷◌, Option, Some, None, refl, true}
use Rattle.std.specs.Prelude.{nat_lt, All}
use Rattle.std.proofs.lemmas.List.Elements.{All-head, All-tail}
use Rattle.term_model.specs.Tree.{Tree, Leaf, Node, Trees, End, More, count_of}
use Rattle.term_model.specs.declared.Head.{Head}
use Rattle.term_model.proofs.Order.{both_hold}
use Rattle.symbol_pool.specs.Pool.{Named}
use Rattle.rewrite_model.specs.Rule.{Rule}
use Rattle.rewrite_model.specs.Matching.{match_of, if_matched, tree_at}
use Rattle.rewrite_model.specs.Run.{Done, TooDeep, OutOfFuel, done, ends, noting}
use Rattle.rewrite_model.specs.Outermost.{Building, build, build_all, Stepped, Same, Changed, use_right, step_at_root, rebuild, in_front, if_same, step, step_all, go_on, steps, outermost}
use Rattle.rewrite_model.proofs.Closed.{OfValue}
use Rattle.term_text.specs.Text.{is_named, has_names, all_have_names, HasNames}
use Rattle.term_lines.specs.declared.strategy.Strategy.{Strategy}
use Rattle.term_lines.specs.declared.strategy.Strategy.TheVariants.{Innermost, Outermost}
use Rattle.term_lines.specs.Strategies.{ended}
use Rattle.term_lines.specs.Laws.{WritesNames}
use Rattle.term_lines.proofs.Naming.{AllNamed, both, match_named, tree_named, value_then, value_if, value_in_room, AllHaveNames, of_done, evaluated_have_names}

module _ (names : List Named) where
  abbrev AreNamed : Trees → Type 0
  AreNamed ts = AllHaveNames names ts

  module _ (bound : List Tree) (bound_named : AllNamed names bound) where
    mutual
      build_named : (p : Tree) (fuel room : ℕ) → HasNames names p → OfValue (HasNames names) (build bound p fuel room).end
      build_named (Leaf x) fuel room h = value_in_room names (HasNames names) room (done (tree_at x bound) fuel) (tree_named names x bound bound_named)
      build_named (Node g ps) fuel room h =
          let q = both_hold (is_named names g) (all_have_names names ps) h in
          value_in_room names (HasNames names) room _ (value_then names AreNamed (HasNames names) (build_all bound ps fuel room) _ (build_all_named ps fuel room q.1) (λ ts left a.
          both (is_named names g) (all_have_names names ts) q.0 a))

      build_all_named : (ps : Trees) (fuel room : ℕ) → AreNamed ps → OfValue AreNamed (build_all bound ps fuel room).end
      build_all_named End fuel room h = refl
      build_all_named (More p ps) fuel room h =
          let q = both_hold (has_names names p) (all_have_names names ps) h in
          value_then names (HasNames names) AreNamed (build bound p fuel (room - 1)) _ (build_named p fuel (room - 1) q.0) (λ t left a.
          value_then names AreNamed AreNamed (build_all bound ps left (room - 1)) _ (build_all_named ps left (room - 1) q.1) (λ ts rest a'.
          both (has_names names t) (all_have_names names ts) a a'))

  -- what a step leaves has names
  abbrev LeftNamed : Stepped Tree → Type 0
  LeftNamed Same = Unit {0}
  LeftNamed (Changed u) = HasNames names u

  abbrev AllLeftNamed : Stepped Trees → Type 0
  AllLeftNamed Same = Unit {0}
  AllLeftNamed (Changed us) = AreNamed us

  right_named : (r : Rule) (bound : List Tree) (fuel room : ℕ) → WritesNames names r → AllNamed names bound → OfValue LeftNamed (use_right r.right bound fuel room).end
  right_named r bound zero room w h = tt
  right_named r bound (suc fuel) room w h = value_then names (HasNames names) LeftNamed (build bound r.right fuel (room - 1)) _ (build_named bound h r.right fuel (room - 1) w) (λ u left a. a)

  root_named : (rs : List Rule) (t : Tree) (fuel room : ℕ) (otherwise : Building (Stepped Tree)) → All (WritesNames names) rs → HasNames names t → OfValue LeftNamed otherwise.end →
      OfValue LeftNamed (step_at_root rs t fuel room otherwise).end
  root_named [] t fuel room otherwise w h s = s
  root_named (r ∷ rs) t fuel room otherwise w h s = go (match_of r.left t) refl (root_named rs t fuel room otherwise (All-tail (WritesNames names) r rs w) h s)
    where
      go : (o : Option (List Tree)) → match_of r.left t ≡ o → OfValue LeftNamed (step_at_root rs t fuel room otherwise).end →
          OfValue LeftNamed (if_matched o (step_at_root rs t fuel room otherwise) (λ bound. use_right r.right bound fuel room)).end
      go None m later = later
      go (Some bound) m later = right_named r bound fuel room (All-head (WritesNames names) r rs w) (match_named names r.left t [] bound h tt m)

  rebuild_named : (g : Head) (count : ℕ) (s : Stepped Trees) (fuel room : ℕ) → is_named names g ≡ true → AllLeftNamed s → OfValue LeftNamed (rebuild count (λ us. Node g us) s fuel room).end
  rebuild_named g count Same fuel room h a = tt
  rebuild_named g count (Changed us) fuel room h a =
      value_if names LeftNamed (nat_lt room (1 + count)) (ends TooDeep) (noting (Node g us) (done (Changed (Node g us)) fuel)) tt (both (is_named names g) (all_have_names names us) h a)

  if_same_named : (s : Stepped Tree) (ts : Trees) (otherwise : Building (Stepped Trees)) (fuel : ℕ) → LeftNamed s → AreNamed ts → OfValue AllLeftNamed otherwise.end → OfValue AllLeftNamed (if_same s ts otherwise fuel).end
  if_same_named Same ts otherwise fuel a h s = s
  if_same_named (Changed u) ts otherwise fuel a h s = both (has_names names u) (all_have_names names ts) a h

  in_front_named : (t : Tree) (s : Stepped Trees) → HasNames names t → AllLeftNamed s → AllLeftNamed (in_front t s)
  in_front_named t Same h a = tt
  in_front_named t (Changed us) h a = both (has_names names t) (all_have_names names us) h a

  module _ (rules : List Rule) (w : All (WritesNames names) rules) where
    mutual
      step_named : (t : Tree) (fuel room : ℕ) → HasNames names t → OfValue LeftNamed (step rules t fuel room).end
      step_named (Leaf x) fuel room h = value_in_room names LeftNamed room _ (root_named rules (Leaf x) fuel room (done Same fuel) w h tt)
      step_named (Node g ts) fuel room h =
          let q = both_hold (is_named names g) (all_have_names names ts) h in
          value_in_room names LeftNamed room _ (root_named rules (Node g ts) fuel room _ w h (value_then names AllLeftNamed LeftNamed (step_all rules ts fuel room) _ (step_all_named ts fuel room q.1) (λ s left a.
          rebuild_named g (count_of ts) s left room q.0 a)))

      step_all_named : (ts : Trees) (fuel room : ℕ) → AreNamed ts → OfValue AllLeftNamed (step_all rules ts fuel room).end
      step_all_named End fuel room h = tt
      step_all_named (More t ts) fuel room h =
          let q = both_hold (has_names names t) (all_have_names names ts) h in
          value_then names LeftNamed AllLeftNamed (step rules t fuel (room - 1)) _ (step_named t fuel (room - 1) q.0) (λ s left a.
          if_same_named s ts _ left a q.1 (value_then names AllLeftNamed AllLeftNamed (step_all rules ts left (room - 1)) _ (step_all_named ts left (room - 1) q.1) (λ more rest a'.
          in_front_named t more q.0 a')))

    go_on_named : (t : Tree) (s : Stepped Tree) (fuel : ℕ) (go : Tree → Building Tree) → HasNames names t → LeftNamed s → ((u : Tree) → HasNames names u → OfValue (HasNames names) (go u).end) →
        OfValue (HasNames names) (go_on rules t s fuel go).end
    go_on_named t Same fuel go h a later = h
    go_on_named t (Changed u) fuel go h a later = later u a

    steps_named : (fuel : ℕ) (t : Tree) (room : ℕ) → HasNames names t → OfValue (HasNames names) (steps rules fuel t room).end
    steps_named zero t room h =
        value_then names LeftNamed (HasNames names) (step rules t zero room) _ (step_named t zero room h) (λ s left a. go_on_named t s left (λ u. ends OutOfFuel) h a (λ u k. tt))
    steps_named (suc fuel) t room h =
        value_then names LeftNamed (HasNames names) (step rules t (suc fuel) room) _ (step_named t (suc fuel) room h) (λ s left a.
        go_on_named t s left (λ u. steps rules fuel u room) h a (λ u k. steps_named fuel u room k))

outermost_have_names : (names : List Named) (rules : List Rule) (term value : Tree) (fuel room left : ℕ) → All (WritesNames names) rules → HasNames names term → (outermost rules term fuel room).end ≡ Done value left → HasNames names value
outermost_have_names names rules term value fuel room left w h e =
    of_done (HasNames names) (outermost rules term fuel room).end value left
    (value_then names (HasNames names) (HasNames names) (build [] term fuel room) _ (build_named names [] tt term fuel room h) (λ t rest a. steps_named names rules w rest t room a)) e

pub values_have_names : (strategy : Strategy) (names : List Named) (rules : List Rule) (term value : Tree) (fuel room left : ℕ) → All (WritesNames names) rules → HasNames names term →
    ended strategy rules term fuel room ≡ Done value left → HasNames names value
values_have_names Innermost names rules term value fuel room left w h e = evaluated_have_names names rules term value fuel room left w h e
values_have_names Outermost names rules term value fuel room left w h e = outermost_have_names names rules term value fuel room left w h e
