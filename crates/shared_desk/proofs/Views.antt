-- The own list, as a desk sees it, is a sound store.
use Rattle.std.proofs.Common.{◌≡◌, ℕ, zero, suc, ◌^◌, ◌<◌, ◌≤◌, Bool, Option, Some, None, List, [], ◌∷◌, length, get_or, map, refl, sym, ap, ◌∙◌, subst, arith, inl, inr}
use Rattle.std.specs.Prelude.{All}
use Rattle.std.proofs.lemmas.Bool.{cases_lt}
use Rattle.std.proofs.lemmas.List.{length-map, get_or_past}
use Rattle.term_model.specs.declared.Row.{Row}
use Rattle.term_model.specs.Tree.{Tree, IsWellFormed}
use Rattle.terms_api.specs.Terms.{Store, HasTree, IsHeld, IsSound, tree_at}
use Rattle.terms_api.proofs.Callers.{tree_at-has, held-has, has-held}
use Rattle.store_model.specs.declared.view.View.{View}
use Rattle.store_model.specs.Machine.{Each, protected_in}
use Rattle.node_rows.specs.Knowing.{KnowsTree}
use Rattle.store_model.specs.Invariant.{listed}
use Rattle.store_model.proofs.Basics.{choose}
use Rattle.store_model.proofs.Histories.{listed_at, listed_length}
use Rattle.shared_desk.specs.Held.{names, held_in, tree_in, Has, IsWhole}
use Rattle.shared_desk.specs.Pass.{WhichStore, WhichPass, own}
use Rattle.shared_desk.specs.Seen.{row_of, rows_of, seen}
use Rattle.shared_desk.proofs.Trees.{argument_known, tree_ground}
use Rattle.shared_desk.proofs.Wholes.{has_held, held_has, known_held, held_known}

pub row_same : (q r : Row) → q.0 ≡ r.0 → q ≡ r
row_same q r e = ap row_of e

module _ (st : WhichStore) (seat : WhichPass) (shared alone : Bool) (crowd : List Tree) (v : View) (h : IsWhole st.sizes v) where
  abbrev s : Store
  s = own (seen st seat shared alone crowd v)

  none_past : (r : ℕ) → st.sizes.rows ≤ r → held_in v r ≡ None
  none_past r le = choose (λ (o : Option Tree). o ≡ None) (names r v.knows) (Some (tree_in v r)) None
      (λ has. absurd (let b = (h.rows r has).below in omega (arith, le))) (λ _. refl)

  look_is : (r : ℕ) → get_or (listed st.sizes.rows (held_in v)) r None ≡ held_in v r
  look_is r = elim (cases_lt r st.sizes.rows) [
    | inl lt ↦ listed_at st.sizes.rows (held_in v) r None lt
    | inr le ↦ (
        let past : length (listed st.sizes.rows (held_in v)) ≤ r = omega (arith, le, listed_length st.sizes.rows (held_in v)) in
        get_or_past (listed st.sizes.rows (held_in v)) r None past ∙ sym (none_past r le))
  ]

  pub has_tree : (q : Row) → Has v q.0 → HasTree s q (tree_in v q.0)
  has_tree q has = look_is q.0 ∙ has_held v q.0 has

  pub tree_has : (q : Row) (t : Tree) → HasTree s q t → Has v q.0 × (tree_in v q.0 ≡ t)
  tree_has q t e = held_has v q.0 t (sym (look_is q.0) ∙ e)

  pub known_has : (q : Row) (t : Tree) → KnowsTree v.knows q.0 t → HasTree s q t
  known_has q t k = look_is q.0 ∙ known_held st.sizes v h q.0 t k

  pub has_known : (q : Row) (t : Tree) → HasTree s q t → KnowsTree v.knows q.0 t
  has_known q t e = held_known st.sizes v h q.0 t (sym (look_is q.0) ∙ e)

  -- rows of the own list, and their trees
  pub rows_trees : (rs : List ℕ) → Each (Has v) rs → map (tree_at s) (rows_of rs) ≡ map (tree_in v) rs
  rows_trees [] each = refl
  rows_trees (r ∷ rs) each =
      ap (λ (t : Tree). t ∷ map (tree_at s) (rows_of rs)) (tree_at-has s (row_of r) (tree_in v r) (has_tree (row_of r) each.0))
      ∙ ap (λ (ts : List Tree). tree_in v r ∷ ts) (rows_trees rs each.1)

  pub all_held : (rs : List ℕ) → Each (Has v) rs → All (IsHeld s) (rows_of rs)
  all_held [] each k d lt = absurd (omega arith)
  all_held (r ∷ rs) each zero d lt = held-has s (row_of r) (tree_in v r) (has_tree (row_of r) each.0)
  all_held (r ∷ rs) each (suc k) d lt = all_held rs each.1 k d (omega arith)

  pub held_one : (r : ℕ) → IsHeld s (row_of r) → Has v r
  held_one r held = (tree_has (row_of r) (tree_at s (row_of r)) (has-held s (row_of r) held)).0

  pub each_held : (rs : List ℕ) → All (IsHeld s) (rows_of rs) → Each (Has v) rs
  each_held [] all = tt
  each_held (r ∷ rs) all = (held_one r (all 0 (row_of r) (omega arith)), each_held rs (λ k d lt. all (suc k) d (omega arith)))

  pub sound_own : st.sizes.depth < 2 ^ 32 → IsSound s
  sound_own small =
      record {
        stack = all_held (protected_in v) h.protects;
        depth = omega (arith, h.few, length-map (protected_in v) row_of);
        room = small;
        below = λ q t e. (h.rows q.0 (tree_has q t e).0).below;
        one_row = λ q p t a b. row_same q p (h.one_row q.0 p.0 t (has_known q t a) (has_known p t b));
        arguments = λ q t u a c.
            (let x = argument_known v.knows t u q.0 (has_known q t a) c in
            (row_of x.0, known_has (row_of x.0) u x.1));
        well_formed = λ q t a. (let x = tree_has q t a in subst IsWellFormed x.1 (h.rows q.0 x.0).formed);
        ground = λ q t a. tree_ground v.knows t q.0 (has_known q t a);
      }
