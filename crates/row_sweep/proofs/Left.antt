-- The rows that aren't marked stand in the free places, and the others are left.
use Rattle.std.proofs.Common.{◌≡◌, ◌≢◌, ℕ, zero, suc, ◌+◌, ◌<◌, ◌≤◌, Bool, true, false, List, [], ◌∷◌, ◌++◌, length, get_or, refl, sym, ap, ◌∙◌, subst, ⊎_elim, arith, true≢false}
use Rattle.std.specs.Prelude.{Contains}
use Rattle.std.proofs.lemmas.Bool.{cases_lt}
use Rattle.std.proofs.lemmas.List.Elements.{Contains-push, Contains-push_cases, Contains-append_left}
use Rattle.history_core.proofs.Members.{contains_none}
use Rattle.store_model.specs.declared.view.Sizes.{Sizes}
use Rattle.store_model.specs.Marks.{IsMarked, MarksPlaces, AreOpposite}
use Rattle.store_model.specs.Steps.{is_free, rows_left}
use Rattle.store_model.proofs.Basics.{choose}
use Rattle.store_model.proofs.NamesLeft.{by_bool, free_none, free_some, left_more, left_same}
use Rattle.row_sweep.specs.Marked.{marked_below}
use Rattle.row_sweep.specs.declared.turns.Order.{Order}
use Rattle.row_sweep.specs.Stored.{ArePlaced}
use Rattle.row_sweep.proofs.Reaches.{counts_more, counts_same}
use Rattle.row_sweep.proofs.Turning.{turn_below}

abbrev pub flip : Bool → Bool
flip true = false
flip false = true

-- the marks of the others
abbrev pub opposite : List Bool → List Bool
opposite [] = []
opposite (b ∷ bs) = flip b ∷ opposite bs

opposite_length : (bs : List Bool) → length (opposite bs) ≡ length bs
opposite_length [] = refl
opposite_length (b ∷ bs) = ap suc (opposite_length bs)

opposite_at : (bs : List Bool) (r : ℕ) → r < length bs → get_or (opposite bs) r false ≡ flip (get_or bs r false)
opposite_at [] r l = absurd (omega arith)
opposite_at (b ∷ bs) zero l = refl
opposite_at (b ∷ bs) (suc r) l = opposite_at bs r (omega arith)

not_flip : (b : Bool) → b ≢ flip b
not_flip true e = true≢false e
not_flip false e = true≢false (sym e)

pub opposite_marks : (bs : List Bool) → AreOpposite bs (opposite bs)
opposite_marks bs r l e = not_flip (get_or bs r false) (e ∙ opposite_at bs r l)

free_here : (place : ℕ → ℕ) (n i : ℕ) → i < n → is_free place n (place i) ≡ true
free_here place n i l = ⊎_elim (λ e. e) (λ e. absurd (free_none place n (place i) e i l refl)) (by_bool (is_free place n (place i)))

module _ (place : ℕ → ℕ) (marks : List Bool) (z : Sizes) (o : Order) (n : ℕ) (h : ArePlaced place marks z o z.rows n) (size : length marks ≡ z.rows) where
  -- a row is in a free place exactly where it isn't marked
  pub free_is : (r : ℕ) → r < z.rows → is_free place n r ≡ flip (get_or marks r false)
  free_is r l = ⊎_elim
      (λ m. ⊎_elim (λ f. let t = free_some place n r f in absurd (true≢false (sym m ∙ (ap (λ (q : ℕ). get_or marks q false) (sym t.2) ∙ h.free t.0 t.1)))) (λ f. f ∙ ap flip (sym m)) (by_bool (is_free place n r)))
      (λ m. let t = h.all r l (turn_below z o r l) m in (ap (is_free place n) (sym t.2) ∙ free_here place n t.0 t.1) ∙ ap flip (sym m)) (by_bool (get_or marks r false))

  place_differ : (i j : ℕ) → i < n → j < n → place i ≡ place j → i ≡ j
  place_differ i j a b same = ⊎_elim
      (λ l. absurd (h.differ i j l b same))
      (λ past. ⊎_elim (λ l. absurd (h.differ j i l a (sym same))) (λ q. omega arith) (cases_lt j i)) (cases_lt i j)

  pub free_marks : MarksPlaces place n z.rows (opposite marks)
  free_marks = record {
    size = opposite_length marks ∙ size;
    marked = λ r l. opposite_at marks r (omega arith) ∙ sym (free_is r l);
    differ = place_differ;
  }

  -- as many are left as are marked
  left_count : (k : ℕ) → k ≤ z.rows → length (rows_left place n k) ≡ marked_below marks k
  left_count zero l = refl
  left_count (suc k) l =
      let rest = left_count k (omega arith) in
      let next : k + 1 ≡ suc k = omega arith in
      ⊎_elim
      (λ m. let not : is_free place n k ≡ false = free_is k (omega arith) ∙ ap flip m in
      subst (λ (q : ℕ). length (rows_left place n q) ≡ marked_below marks q) next (left_more place n k not ∙ (ap (λ (q : ℕ). q + 1) rest ∙ counts_more marks k m)))
      (λ m. let is : is_free place n k ≡ true = free_is k (omega arith) ∙ ap flip m in
      subst (λ (q : ℕ). length (rows_left place n q) ≡ marked_below marks q) next (left_same place n k is ∙ (rest ∙ counts_same marks k m))) (by_bool (get_or marks k false))

  pub count_left : length (rows_left place n z.rows) ≡ marked_below marks z.rows
  count_left = left_count z.rows (omega arith)

  left_has : (k r : ℕ) → r < k → is_free place n r ≡ false → Contains (rows_left place n k) r
  left_has zero r l e = absurd (omega arith)
  left_has (suc k) r l e = choose (λ (xs : List ℕ). Contains xs r) (is_free place n k) (rows_left place n k) (rows_left place n k ++ k ∷ [])
      (λ f. ⊎_elim (λ below. left_has k r below e) (λ past. absurd (true≢false (sym f ∙ (ap (is_free place n) (let same : k ≡ r = omega arith in same) ∙ e)))) (cases_lt r k))
      (λ _. ⊎_elim (λ below. Contains-append_left (rows_left place n k) (k ∷ []) r (left_has k r below e)) (λ past. let same : k ≡ r = omega arith in subst (Contains (rows_left place n k ++ k ∷ [])) same (Contains-push (rows_left place n k) k)) (cases_lt r k))

  left_only : (k r : ℕ) → Contains (rows_left place n k) r → (r < k) × (is_free place n r ≡ false)
  left_only zero r c = absurd (contains_none r c)
  left_only (suc k) r c = choose (λ (xs : List ℕ). Contains xs r → (r < suc k) × (is_free place n r ≡ false)) (is_free place n k) (rows_left place n k) (rows_left place n k ++ k ∷ [])
      (λ _ d. let t = left_only k r d in ((let l = t.0 in omega arith), t.1))
      (λ e d. ⊎_elim (λ f. let t = left_only k r f in ((let l = t.0 in omega arith), t.1)) (λ (same : k ≡ r). (omega arith, ap (is_free place n) (sym same) ∙ e)) (Contains-push_cases (rows_left place n k) k r d)) c

  flip_false : (b : Bool) → flip b ≡ false → b ≡ true
  flip_false true e = refl
  flip_false false e = absurd (true≢false e)

  -- and they are those
  pub left_marked : (inside : (r : ℕ) → IsMarked marks r → r < z.rows) (r : ℕ) → (IsMarked marks r → Contains (rows_left place n z.rows) r) × (Contains (rows_left place n z.rows) r → IsMarked marks r)
  left_marked inside r = (
    λ m. left_has z.rows r (inside r m) (free_is r (inside r m) ∙ ap flip m),
    λ c. let t = left_only z.rows r c in flip_false (get_or marks r false) (sym (free_is r t.0) ∙ t.1),
  )
