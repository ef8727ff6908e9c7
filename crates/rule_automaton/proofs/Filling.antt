-- One more argument is put at its place.
use Rattle.std.proofs.Common.{◌≡◌, ℕ, ◌+◌, ◌<◌, ◌≤◌, List, length, set, Some, refl, sym, ◌∙◌, ap, arith, inl, inr, subst}
use Rattle.std.specs.Prelude.{slice_get}
use Rattle.std.proofs.lemmas.Bool.{cases_eq}
use Rattle.std.proofs.lemmas.Option.{get_or_from_slice_get}
use Rattle.std.proofs.lemmas.List.{length-set, get_or-set_same, get_or-set_other}
use Rattle.term_model.specs.Tree.{Tree, Leaf, arguments}
use Rattle.term_model.specs.declared.Row.{Row}
use Rattle.terms_api.specs.Terms.{Store, IsHeld, tree_at}
use Rattle.rule_automaton.specs.Places.{argument}
use Rattle.rule_automaton.specs.Rows.{row_at, IsFull, Fills}

-- a full place stays full where another is written
stays_full : (s : Store) (at : ℕ → Tree) (rows : List Row) (q p : ℕ) (r : Row) → (q ≡ p → ⊥) → IsFull s at rows q → IsFull s at (set rows p r) q
stays_full s at rows q p r n f =
    let e : row_at (set rows p r) q ≡ row_at rows q = get_or-set_other rows p q r (record { 0 = 0 }) n in
    record {
      within = omega (arith, length-set rows p r, f.within);
      held = subst (IsHeld s) (sym e) f.held;
      tree = ap (tree_at s) e ∙ f.tree;
    }

now_full : (s : Store) (at : ℕ → Tree) (rows : List Row) (p : ℕ) (r : Row) → p < length rows → IsHeld s r → tree_at s r ≡ at p → IsFull s at (set rows p r) p
now_full s at rows p r l held tree =
    let e : row_at (set rows p r) p ≡ r = get_or-set_same rows p r (record { 0 = 0 }) l in
    record {
      within = omega (arith, length-set rows p r, l);
      held = subst (IsHeld s) (sym e) held;
      tree = ap (tree_at s) e ∙ tree;
    }

pub fills_none : (s : Store) (row : Row) (base : ℕ) (rows : List Row) → Fills s row base 0 rows rows
fills_none s row base rows =
    record {
      full = λ at place kids e q f. elim f [ inl k ↦ k | inr k ↦ absurd (omega (arith, k.0, k.1)) ];
      size = refl;
    }

pub fills_more : (s now : Store) (row r : Row) (base j count : ℕ) (old rows : List Row) → now ≡ s → j < count → base + count ≤ length old → Fills s row base j old rows → IsHeld now r → slice_get (arguments (tree_at now row)) j ≡ Some (tree_at now r) → Fills s row base (j + 1) old (set rows (base + j) r)
fills_more s now row r base j count old rows same l fit f held there =
    let held' : IsHeld s r = subst (λ (v : Store). IsHeld v r) same held in
    let there' : slice_get (arguments (tree_at s row)) j ≡ Some (tree_at s r) = subst (λ (v : Store). slice_get (arguments (tree_at v row)) j ≡ Some (tree_at v r)) same there in
    let is : argument (tree_at s row) j ≡ tree_at s r = get_or_from_slice_get (arguments (tree_at s row)) j (tree_at s r) (Leaf 0) there' in
    record {
      full = λ at place kids e q k.
          elim (cases_eq q (base + j)) [
            | inl m ↦ subst (IsFull s at (set rows (base + j) r)) (sym m) (now_full s at rows (base + j) r (omega (arith, f.size)) held' (sym is ∙ ap (λ t. argument t j) (sym e) ∙ sym (kids.kid j (omega arith))))
            | inr n ↦ stays_full s at rows q (base + j) r n (f.full at place (record { kid = λ i b. kids.kid i (omega arith) }) e q (elim k [ inl o ↦ inl o | inr o ↦ inr ((o.0, omega (arith, o.0, o.1, n))) ]))
          ];
      size = length-set rows (base + j) r ∙ f.size;
    }
