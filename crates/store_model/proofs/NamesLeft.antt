-- The rows that are in no free place are those that stay.
use Rattle.std.proofs.Common.{◌≡◌, ◌≢◌, ◌⊎◌, ℕ, zero, suc, ◌+◌, ◌<◌, eqb, Bool, true, false, List, [], ◌∷◌, ◌++◌, length, refl, sym, ap, ◌∙◌, subst, ⊎_elim, inl, inr, arith, true≢false}
use Rattle.std.specs.Prelude.{Contains}
use Rattle.std.proofs.lemmas.List.Elements.{Contains-push, Contains-push_cases, Contains-append_left}
use Rattle.std.proofs.lemmas.Bool.{cases_lt}
use Rattle.std.proofs.lemmas.List.{length_push}
use Rattle.history_core.specs.Entry.{IsAscending}
use Rattle.history_core.proofs.Members.{contains_none}
use Rattle.store_model.specs.Words.{Place, Claim, FreeCount, FreePlace, write}
use Rattle.store_model.specs.Machine.{Sizes, Each}
use Rattle.store_model.specs.Meaning.{Meaning}
use Rattle.store_model.specs.Invariant.{RowsHold, ChainsHold}
use Rattle.store_model.specs.Collection.{AreKept}
use Rattle.store_model.specs.Steps.{is_free, rows_left, names_left}
use Rattle.store_model.proofs.Basics.{choose, each_map, each_join, eqb_is, eqb_not}

pub free_none : (place : ℕ → ℕ) (n r : ℕ) → is_free place n r ≡ false → (i : ℕ) → i < n → place i ≢ r
free_none place zero r e i l is = absurd (omega arith)
free_none place (suc n) r e i l is = choose (λ (b : Bool). b ≡ false → ⊥) (eqb (place n) r) true (is_free place n r)
    (λ _ f. true≢false f)
    (λ ne f. ⊎_elim (λ below. free_none place n r f i below is) (λ past. eqb_not (place n) r ne (let same : i ≡ n = omega arith in ap place (sym same) ∙ is)) (cases_lt i n)) e

pub free_some : (place : ℕ → ℕ) (n r : ℕ) → is_free place n r ≡ true → (i : ℕ) × (i < n) × (place i ≡ r)
free_some place zero r e = absurd (true≢false (sym e))
free_some place (suc n) r e = choose (λ (b : Bool). b ≡ true → (i : ℕ) × (i < suc n) × (place i ≡ r)) (eqb (place n) r) true (is_free place n r)
    (λ is _. (n, omega arith, eqb_is (place n) r is))
    (λ _ f. let t = free_some place n r f in (t.0, (let l = t.1 in omega arith), t.2)) e

ascends : (xs : List ℕ) (n : ℕ) → IsAscending xs → Each (λ m. m < n) xs → IsAscending (xs ++ n ∷ [])
ascends [] n h a = (tt, tt)
ascends (x ∷ xs) n h a = (each_join (λ m. x < m) xs (n ∷ []) h.0 (a.0, tt), ascends xs n h.1 a.1)

module _ (place : ℕ → ℕ) (count : ℕ) where
  left_below : (n : ℕ) → Each (λ m. m < n) (rows_left place count n)
  left_below zero = tt
  left_below (suc n) = let more = each_map (λ m. m < n) (λ m. m < suc n) (rows_left place count n) (λ m l. omega arith) (left_below n) in
      choose (Each (λ m. m < suc n)) (is_free place count n) (rows_left place count n) (rows_left place count n ++ n ∷ []) (λ _. more) (λ _. each_join (λ m. m < suc n) (rows_left place count n) (n ∷ []) more (omega arith, tt))

  left_ascends : (n : ℕ) → IsAscending (rows_left place count n)
  left_ascends zero = tt
  left_ascends (suc n) = choose IsAscending (is_free place count n) (rows_left place count n) (rows_left place count n ++ n ∷ []) (λ _. left_ascends n) (λ _. ascends (rows_left place count n) n (left_ascends n) (left_below n))

  left_has : (n r : ℕ) → r < n → is_free place count r ≡ false → Contains (rows_left place count n) r
  left_has zero r l e = absurd (omega arith)
  left_has (suc n) r l e = choose (λ (xs : List ℕ). Contains xs r) (is_free place count n) (rows_left place count n) (rows_left place count n ++ n ∷ [])
      (λ f. ⊎_elim (λ below. left_has n r below e) (λ past. absurd (true≢false (sym f ∙ (ap (is_free place count) (let same : n ≡ r = omega arith in same) ∙ e)))) (cases_lt r n))
      (λ _. ⊎_elim (λ below. Contains-append_left (rows_left place count n) (n ∷ []) r (left_has n r below e)) (λ past. let same : n ≡ r = omega arith in subst (Contains (rows_left place count n ++ n ∷ [])) same (Contains-push (rows_left place count n) n)) (cases_lt r n))

  left_only : (n r : ℕ) → Contains (rows_left place count n) r → (r < n) × (is_free place count r ≡ false)
  left_only zero r c = absurd (contains_none r c)
  left_only (suc n) r c = choose (λ (xs : List ℕ). Contains xs r → (r < suc n) × (is_free place count r ≡ false)) (is_free place count n) (rows_left place count n) (rows_left place count n ++ n ∷ [])
      (λ _ d. let t = left_only n r d in ((let l = t.0 in omega arith), t.1))
      (λ e d. ⊎_elim (λ f. let t = left_only n r f in ((let l = t.0 in omega arith), t.1)) (λ (same : n ≡ r). (omega arith, ap (is_free place count) (sym same) ∙ e)) (Contains-push_cases (rows_left place count n) n r d)) c

pub by_bool : (b : Bool) → (b ≡ true) ⊎ (b ≡ false)
by_bool true = inl refl
by_bool false = inr refl

-- with the claim at 0 the live rows are those in no free place
pub names_kept : (z : Sizes) (w : Place → ℕ) (n : Meaning) → RowsHold z (write w Claim 0) n → ChainsHold z (write w Claim 0) n → AreKept n (names_left z w)
names_kept z w n rows chains =
    let place : ℕ → ℕ = (λ i. w (FreePlace i)) in
    record {
      ascending = left_ascends place (w FreeCount) z.rows;
      each = λ r. (
        (λ c. let t = left_only place (w FreeCount) z.rows r c in rows.others r t.0 (free_none place (w FreeCount) r t.1)),
        λ l. left_has place (w FreeCount) z.rows r (chains.below r l) (⊎_elim
            (λ f. let t = free_some place (w FreeCount) r f in absurd (true≢false (sym l ∙ (ap n.live (sym t.2) ∙ rows.free t.0 (omega arith) t.1))))
            (λ e. e) (by_bool (is_free place (w FreeCount) r))),
      );
    }

-- counting the rows that are left
pub left_more : (place : ℕ → ℕ) (n r : ℕ) → is_free place n r ≡ false → length (rows_left place n (r + 1)) ≡ length (rows_left place n r) + 1
left_more place n r e =
    let next : suc r ≡ r + 1 = omega arith in
    subst (λ (k : ℕ). length (rows_left place n k) ≡ length (rows_left place n r) + 1) next
    (choose (λ (xs : List ℕ). length xs ≡ length (rows_left place n r) + 1) (is_free place n r) (rows_left place n r) (rows_left place n r ++ r ∷ [])
    (λ t. absurd (true≢false (sym t ∙ e))) (λ _. length_push (rows_left place n r) r))

pub left_same : (place : ℕ → ℕ) (n r : ℕ) → is_free place n r ≡ true → length (rows_left place n (r + 1)) ≡ length (rows_left place n r)
left_same place n r e =
    let next : suc r ≡ r + 1 = omega arith in
    subst (λ (k : ℕ). length (rows_left place n k) ≡ length (rows_left place n r)) next
    (choose (λ (xs : List ℕ). length xs ≡ length (rows_left place n r)) (is_free place n r) (rows_left place n r) (rows_left place n r ++ r ∷ [])
    (λ _. refl) (λ f. absurd (true≢false (sym e ∙ f))))
