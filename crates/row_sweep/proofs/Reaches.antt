-- Marks of the rows that are reached, from one protected row to all.
use Rattle.std.proofs.Common.{◌≡◌, ℕ, zero, suc, ◌+◌, ◌<◌, Bool, true, false, cond, Some, List, [], ◌∷◌, ◌++◌, length, get_or, refl, sym, ap, ◌∙◌, subst, ⊎_elim, arith}
use Rattle.std.specs.Prelude.{Contains, replicate, slice_get}
use Rattle.std.proofs.lemmas.Bool.{cases_lt}
use Rattle.std.proofs.lemmas.List.{length-replicate, length_push}
use Rattle.std.proofs.lemmas.List.Elements.{Contains-push, Contains-push_cases, Contains-append_left}
use Rattle.history_core.proofs.Members.{contains_none}
use Rattle.term_model.specs.declared.Row.{Row}
use Rattle.mark_phase.specs.Reachable.{Reaches, itself, child, IsClosed, AddsReached}
use Rattle.store_model.specs.declared.view.Place.{Place}
use Rattle.store_model.specs.declared.view.Place.TheVariants.{RowWord, RootCount, Root}
use Rattle.store_model.specs.Marks.{IsMarked, MarksReached}
use Rattle.store_model.specs.Steps.{ReachesByWords, protected_row, argument_row}
use Rattle.store_model.proofs.Marked.{none_marked}
use Rattle.row_sweep.specs.Marked.{row_of, arguments_of, children_of, MarksTo, marked_below}

module _ (w : Place → ℕ) (r : ℕ) where
  pub arguments_count : (n : ℕ) → length (arguments_of w r n) ≡ n
  arguments_count zero = refl
  arguments_count (suc n) = let a = arguments_count n in let b = length_push (arguments_of w r n) (row_of (w (RowWord r (suc (suc n))))) in omega arith

  pub argument_in : (n : ℕ) (q : Row) → Contains (arguments_of w r n) q → (k : ℕ) × (k < n) × (row_of (w (RowWord r (suc (suc k)))) ≡ q)
  argument_in zero q c = absurd (contains_none q c)
  argument_in (suc n) q c = ⊎_elim (λ d. let k = argument_in n q d in (k.0, (let l = k.1 in omega arith), k.2)) (λ e. (n, omega arith, e)) (Contains-push_cases (arguments_of w r n) (row_of (w (RowWord r (suc (suc n))))) q c)

  pub in_arguments : (n k : ℕ) → k < n → Contains (arguments_of w r n) (row_of (w (RowWord r (suc (suc k)))))
  in_arguments zero k l = absurd (omega arith)
  in_arguments (suc n) k l = ⊎_elim
      (λ less. Contains-append_left (arguments_of w r n) (row_of (w (RowWord r (suc (suc n)))) ∷ []) (row_of (w (RowWord r (suc (suc k))))) (in_arguments n k less))
      (λ past. let e : n ≡ k = omega arith in subst (λ (q : ℕ). Contains (arguments_of w r n ++ row_of (w (RowWord r (suc (suc n)))) ∷ []) (row_of (w (RowWord r (suc (suc q)))))) e (Contains-push (arguments_of w r n) (row_of (w (RowWord r (suc (suc n)))))))
      (cases_lt k n)

-- the j-th of a list with one more
get_push : {A : Type 0} (xs : List A) (x : A) (j : ℕ) (y : A) → slice_get xs j ≡ Some y → slice_get (xs ++ x ∷ []) j ≡ Some y
get_push [] x j y e = absurd (cc)
get_push (a ∷ xs) x zero y e = e
get_push (a ∷ xs) x (suc j) y e = get_push xs x j y e

get_last : {A : Type 0} (xs : List A) (x : A) → slice_get (xs ++ x ∷ []) (length xs) ≡ Some x
get_last [] x = refl
get_last (a ∷ xs) x = get_last xs x

pub argument_is : (w : Place → ℕ) (r n j : ℕ) → j < n → slice_get (arguments_of w r n) j ≡ Some (row_of (w (RowWord r (suc (suc j)))))
argument_is w r zero j l = absurd (omega arith)
argument_is w r (suc n) j l = ⊎_elim
    (λ less. get_push (arguments_of w r n) (row_of (w (RowWord r (suc (suc n))))) j (row_of (w (RowWord r (suc (suc j))))) (argument_is w r n j less))
    (λ past. let e : n ≡ j = omega arith in
    subst (λ (q : ℕ). slice_get (arguments_of w r n ++ row_of (w (RowWord r (suc (suc n)))) ∷ []) q ≡ Some (row_of (w (RowWord r (suc (suc q)))))) e
    (subst (λ (q : ℕ). slice_get (arguments_of w r n ++ row_of (w (RowWord r (suc (suc n)))) ∷ []) q ≡ Some (row_of (w (RowWord r (suc (suc n)))))) (arguments_count w r n) (get_last (arguments_of w r n) (row_of (w (RowWord r (suc (suc n))))))))
    (cases_lt j n)

module _ (w : Place → ℕ) where
  -- what is reached from a row that is reached
  pub reaches_on : (root r : Row) → ReachesByWords w root.0 → Reaches (children_of w) root r → ReachesByWords w r.0
  reaches_on root r h itself = h
  reaches_on root q h (child {r = r} y c) =
      let k = argument_in w r.0 (w (RowWord r.0 1)) q c in
      subst (λ (x : Row). ReachesByWords w x.0) k.2 (argument_row r.0 k.0 (reaches_on root r h y) k.1)

  pub closed_marks : (rows j k : ℕ) (marks : List Bool) → MarksTo w rows j k marks → IsClosed (children_of w) marks
  closed_marks rows j k marks h r q m c =
      let t = argument_in w r.0 (w (RowWord r.0 1)) q c in
      subst (λ (x : Row). IsMarked marks x.0) t.2 (h.closed r.0 t.0 m t.1)

  pub marks_none : (rows : ℕ) → MarksTo w rows 0 0 (replicate rows false)
  marks_none rows = record {
    size = length-replicate rows false;
    only = λ r m. absurd (none_marked rows r m);
    before = λ i q l. absurd (omega arith);
    here = λ q l. absurd (omega arith);
    closed = λ r q m. absurd (none_marked rows r m);
  }

  -- what another protected row reaches
  pub marks_root : (rows j k : ℕ) (old new : List Bool) → k < w (RootCount j) → MarksTo w rows j k old → AddsReached (children_of w) (row_of (w (Root j k))) old new → MarksTo w rows j (k + 1) new
  marks_root rows j k old new l h a =
      let root : Row = row_of (w (Root j k)) in record {
        size = a.rows ∙ h.size;
        only = λ r m. ⊎_elim (h.only r) (λ y. reaches_on root (row_of r) (protected_row j k l) y) (a.only (row_of r) m);
        before = λ i q b c. a.kept (row_of (w (Root i q))) (h.before i q b c);
        here = λ q b. ⊎_elim (λ less. a.kept (row_of (w (Root j q))) (h.here q less)) (λ past. let e : k ≡ q = omega arith in subst (λ (t : ℕ). IsMarked new (w (Root j t))) e (a.reached root itself)) (cases_lt q k);
        closed = λ r q m b. ⊎_elim
            (λ was. a.kept (row_of (w (RowWord r (suc (suc q))))) (h.closed r q was b))
            (λ y. a.reached (row_of (w (RowWord r (suc (suc q))))) (child y (in_arguments w r (w (RowWord r 1)) q b))) (a.only (row_of r) m);
      }

  -- all protected rows of a seat
  pub marks_seat : (rows j : ℕ) (marks : List Bool) → MarksTo w rows j (w (RootCount j)) marks → MarksTo w rows (j + 1) 0 marks
  marks_seat rows j marks h = record {
    size = h.size;
    only = h.only;
    before = λ i q l b. ⊎_elim (λ less. h.before i q less b) (λ past. let e : j ≡ i = omega arith in subst (λ (t : ℕ). q < w (RootCount t) → IsMarked marks (w (Root t q))) e (h.here q) b) (cases_lt i j);
    here = λ q l. absurd (omega arith);
    closed = h.closed;
  }

  -- those of all seats
  module _ (rows seats : ℕ) (marks : List Bool) (h : MarksTo w rows seats 0 marks) (below : (j q : ℕ) → q < w (RootCount j) → j < seats) where
    all_marked : (r : ℕ) → ReachesByWords w r → IsMarked marks r
    all_marked r (protected_row j q l) = h.before j q (below j q l) l
    all_marked r (argument_row t q y l) = h.closed t q (all_marked t y) l

    pub marks_reached : MarksReached w rows marks
    marks_reached = record { size = h.size; marked = λ r. (h.only r, all_marked r) }

-- one row more is counted
pub counts_more : (marks : List Bool) (n : ℕ) → get_or marks n false ≡ true → marked_below marks n + 1 ≡ marked_below marks (n + 1)
counts_more marks n e =
    let next : suc n ≡ n + 1 = omega arith in
    subst (λ (k : ℕ). marked_below marks n + 1 ≡ marked_below marks k) next (ap (λ (b : Bool). marked_below marks n + cond b 1 0) (sym e))

pub counts_same : (marks : List Bool) (n : ℕ) → get_or marks n false ≡ false → marked_below marks n ≡ marked_below marks (n + 1)
counts_same marks n e =
    let next : suc n ≡ n + 1 = omega arith in
    subst (λ (k : ℕ). marked_below marks n ≡ marked_below marks k) next (let a : marked_below marks n ≡ marked_below marks n + 0 = omega arith in a ∙ ap (λ (b : Bool). marked_below marks n + cond b 1 0) (sym e))
