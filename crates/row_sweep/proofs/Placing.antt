-- The free places that are filled so far.
use Rattle.std.proofs.Common.{◌≡◌, ℕ, ◌+◌, ◌<◌, ◌≤◌, Bool, false, List, get_or, sym, ap, ◌∙◌, subst, ⊎_elim, arith, true≢false}
use Rattle.std.proofs.lemmas.Bool.{cases_lt}
use Rattle.row_sweep.specs.Turns.{row_in_turn}
use Rattle.store_model.specs.declared.view.Sizes.{Sizes}
use Rattle.row_sweep.specs.declared.turns.Order.{Order}
use Rattle.store_model.specs.Marks.{IsMarked}
use Rattle.row_sweep.specs.Stored.{ArePlaced}
use Rattle.row_sweep.proofs.Turning.{turn_back, turn_below, turn_same}

-- none yet
pub placed_none : (place : ℕ → ℕ) (marks : List Bool) (z : Sizes) (o : Order) → ArePlaced place marks z o 0 0
placed_none place marks z o = record {
  below = λ i l. absurd (omega arith);
  turn = λ i l. absurd (omega arith);
  free = λ i l. absurd (omega arith);
  differ = λ i j l m. absurd (omega arith);
  all = λ r l t. absurd (omega arith);
}

-- a row that is marked comes
pub placed_same : (place : ℕ → ℕ) (marks : List Bool) (z : Sizes) (o : Order) (n k : ℕ) → IsMarked marks (row_in_turn z o n) → ArePlaced place marks z o n k → ArePlaced place marks z o (n + 1) k
placed_same place marks z o n k m h = record {
  below = h.below;
  turn = λ i l. let a = h.turn i l in omega arith;
  free = h.free;
  differ = h.differ;
  all = λ r l t not. ⊎_elim (λ less. h.all r l less not)
      (λ past. absurd (true≢false (sym m ∙ (ap (λ (q : ℕ). get_or marks q false) (turn_same z o n r (let e : row_in_turn z o r ≡ n = omega arith in e)) ∙ not)))) (cases_lt (row_in_turn z o r) n);
}

-- another one comes
module _ (u v : ℕ → ℕ) (marks : List Bool) (z : Sizes) (o : Order) (n k : ℕ) (here : v k ≡ row_in_turn z o n) (before : (i : ℕ) → i < k → v i ≡ u i) where
  -- place i holds the new row, or what it held
  last : (i : ℕ) → k ≤ i → i < k + 1 → v i ≡ row_in_turn z o n
  last i past l = let s : i ≡ k = omega arith in ap v s ∙ here

  turn_last : (i : ℕ) → k ≤ i → i < k + 1 → row_in_turn z o (v i) ≡ n
  turn_last i past l = ap (row_in_turn z o) (last i past l) ∙ turn_back z o n

  pub placed_more : n < z.rows → get_or marks (row_in_turn z o n) false ≡ false → ArePlaced u marks z o n k → ArePlaced v marks z o (n + 1) (k + 1)
  placed_more within not h = record {
    below = λ i l. ⊎_elim (λ less. subst (λ (q : ℕ). q < z.rows) (sym (before i less)) (h.below i less))
        (λ past. subst (λ (q : ℕ). q < z.rows) (sym (last i past l)) (turn_below z o n within)) (cases_lt i k);
    turn = λ i l. ⊎_elim (λ less. subst (λ (q : ℕ). row_in_turn z o q < n + 1) (sym (before i less)) (let a = h.turn i less in omega arith))
        (λ past. let a = turn_last i past l in omega arith) (cases_lt i k);
    free = λ i l. ⊎_elim (λ less. ap (λ (q : ℕ). get_or marks q false) (before i less) ∙ h.free i less)
        (λ past. ap (λ (q : ℕ). get_or marks q false) (last i past l) ∙ not) (cases_lt i k);
    differ = λ i j l m same.
        let less : i < k = omega arith in
        ⊎_elim (λ small. h.differ i j l small (sym (before i less) ∙ (same ∙ before j small)))
        (λ past. let a = h.turn i less in let b : row_in_turn z o (u i) ≡ n = ap (row_in_turn z o) (sym (before i less) ∙ same) ∙ turn_last j past m in omega arith) (cases_lt j k);
    all = λ r l t free. ⊎_elim (λ less. let x = h.all r l less free in (x.0, (let a = x.1 in omega arith), before x.0 x.1 ∙ x.2))
        (λ past. (k, omega arith, here ∙ turn_same z o n r (omega arith))) (cases_lt (row_in_turn z o r) n);
  }

-- other places that hold the same
pub placed_like : (u v : ℕ → ℕ) (marks : List Bool) (z : Sizes) (o : Order) (n k : ℕ) → ((i : ℕ) → i < k → v i ≡ u i) → ArePlaced u marks z o n k → ArePlaced v marks z o n k
placed_like u v marks z o n k e h = record {
  below = λ i l. subst (λ (q : ℕ). q < z.rows) (sym (e i l)) (h.below i l);
  turn = λ i l. subst (λ (q : ℕ). row_in_turn z o q < n) (sym (e i l)) (h.turn i l);
  free = λ i l. ap (λ (q : ℕ). get_or marks q false) (e i l) ∙ h.free i l;
  differ = λ i j l m same. h.differ i j l m (sym (e i (omega arith)) ∙ (same ∙ e j m));
  all = λ r l t not. let x = h.all r l t not in (x.0, x.1, e x.0 x.1 ∙ x.2);
}
