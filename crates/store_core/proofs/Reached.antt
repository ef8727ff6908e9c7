-- Marking the rows that are reached.
use Rattle.std.proofs.Common.{◌≡◌, ◌⊎◌, ℕ, zero, suc, ◌+◌, ◌<◌, ◌≤◌, Bool, true, false, List, [], ◌∷◌, ◌++◌, length, get_or, set, refl, sym, ap, ◌∙◌, subst, ⊎_elim, inl, inr, arith, true≢false}
use Rattle.std.specs.Prelude.{replicate, Contains}
use Rattle.std.proofs.lemmas.Bool.{cases_lt, ltb-true}
use Rattle.std.proofs.lemmas.List.{length-replicate, length-set, length_push}
use Rattle.std.proofs.lemmas.List.Elements.{Contains-push, Contains-push_cases, Contains-append_left}
use Rattle.history_core.proofs.Members.{contains_none}
use Rattle.store_model.specs.declared.view.Place.{Place}
use Rattle.store_model.specs.declared.view.Place.TheVariants.{RowWord, RootCount, Root}
use Rattle.store_model.specs.declared.view.Sizes.{Sizes}
use Rattle.store_model.specs.Steps.{ReachesByWords, protected_row, argument_row}
use Rattle.store_model.specs.Shown.{shown, in_table, index_of}
use Rattle.store_core.specs.RowLists.{IsPast}
use Rattle.store_core.specs.declared.machine.row_lists.RowList.TheVariants.{Protected, Arguments}
use Rattle.store_model.specs.Marks.{IsMarked, unmarked, Marks, Adds, Halfway, MarksReached, ReachesPast}
use Rattle.store_model.proofs.Basics.{choose, both_true}
use Rattle.store_model.proofs.Marked.{none_marked, marked_here, marked_kept, marked_cases, marks_none, marks_more}

unmarked_set : (m : List Bool) (i : ℕ) → i < length m → get_or m i false ≡ false → unmarked (set m i true) + 1 ≡ unmarked m
unmarked_set [] i h e = absurd (omega arith)
unmarked_set (false ∷ m) zero h e = refl
unmarked_set (true ∷ m) zero h e = absurd (true≢false e)
unmarked_set (true ∷ m) (suc i) h e = unmarked_set m i (omega arith) e
unmarked_set (false ∷ m) (suc i) h e = ap (λ n. n + 1) (unmarked_set m i (omega arith) e)

pub adds_none : (f : ℕ → ℕ) (m : List Bool) (ws : List ℕ) → Adds f 0 m ws m ws
adds_none f m ws = record { marks = marks_none f m; waiting_on = λ r c. c; waiting = λ r k. inl k; from = λ r c. inl c; left = refl }

-- a row that is marked already
pub adds_old : (m : List Bool) (ws : List ℕ) (row : ℕ) → IsMarked m row → Adds (λ _. row) 1 m ws m ws
adds_old m ws row h = record {
  marks = record { size = refl; kept = λ r k. k; all = λ k l. h; only = λ r k. inl k };
  waiting_on = λ r c. c;
  waiting = λ r k. inl k;
  from = λ r c. inl c;
  left = refl;
}

-- and one that isn't
pub adds_new : (m : List Bool) (ws : List ℕ) (row : ℕ) → row < length m → get_or m row false ≡ false → Adds (λ _. row) 1 m ws (set m row true) (ws ++ row ∷ [])
adds_new m ws row l e = record {
  marks = record {
    size = length-set m row true;
    kept = λ r k. marked_kept m row r l k;
    all = λ k b. marked_here m row l;
    only = λ r k. ⊎_elim (λ is. inr (0, omega arith, sym is)) inl (marked_cases m row r l k);
  };
  waiting_on = λ r c. Contains-append_left ws (row ∷ []) r c;
  waiting = λ r k. ⊎_elim (λ is. inr (subst (Contains (ws ++ row ∷ [])) (sym is) (Contains-push ws row))) inl (marked_cases m row r l k);
  from = λ r c. ⊎_elim inl (λ is. inr (subst (IsMarked (set m row true)) is (marked_here m row l))) (Contains-push_cases ws row r c);
  left = let a = unmarked_set m row l e in let b = length_push ws row in omega arith;
}

pub adds_more : (f : ℕ → ℕ) (n x : ℕ) (a b c : List Bool) (us vs ws : List ℕ) → x ≡ f n → Adds f n a us b vs → Adds (λ _. x) 1 b vs c ws → Adds f (n + 1) a us c ws
adds_more f n x a b c us vs ws is h k = record {
  marks = marks_more f n x a b c is h.marks k.marks;
  waiting_on = λ r t. k.waiting_on r (h.waiting_on r t);
  waiting = λ r t. ⊎_elim (λ s. ⊎_elim inl (λ u. inr (k.waiting_on r u)) (h.waiting r s)) inr (k.waiting r t);
  from = λ r t. ⊎_elim (λ s. ⊎_elim inl (λ u. inr (k.marks.kept r u)) (h.from r s)) inr (k.from r t);
  left = k.left ∙ h.left;
}

pub adds_same : (f g : ℕ → ℕ) (m n : ℕ) (a b : List Bool) (us vs : List ℕ) → m ≡ n → ((k : ℕ) → k < n → f k ≡ g k) → Adds f m a us b vs → Adds g n a us b vs
adds_same f g m n a b us vs e same h = record {
  marks = record {
    size = h.marks.size;
    kept = h.marks.kept;
    all = λ k l. subst (IsMarked b) (same k l) (h.marks.all k (omega arith));
    only = λ r t. ⊎_elim inl (λ (s : (k : ℕ) × (k < m) × (f k ≡ r)). let l : s.0 < n = (let d = s.1 in omega arith) in inr (s.0, l, sym (same s.0 l) ∙ s.2)) (h.marks.only r t);
  };
  waiting_on = h.waiting_on;
  waiting = h.waiting;
  from = h.from;
  left = h.left;
}

module _ (z : Sizes) (w : Place → ℕ) where
  pub halfway_none : Halfway z w 0 (replicate z.rows false) []
  halfway_none = record {
    size = length-replicate z.rows false;
    only = λ r k. absurd (none_marked z.rows r k);
    waits = λ r c. absurd (contains_none r c);
    roots = λ j k l. absurd (omega arith);
    closed = λ r k. absurd (none_marked z.rows r k);
  }

  -- what was waiting still is, and what was closed stays so
  closes : (m n : List Bool) (vs : List ℕ) (f : ℕ → ℕ) (c r : ℕ) → Marks f c m n
      → ((k : ℕ) → k < w (RowWord r 1) → IsMarked m (w (RowWord r (suc (suc k))))) → Contains vs r ⊎ ((k : ℕ) → k < w (RowWord r 1) → IsMarked n (w (RowWord r (suc (suc k)))))
  closes m n vs f c r k h = inr (λ q l. k.kept (w (RowWord r (suc (suc q)))) (h q l))

  -- the protected rows of another seat
  pub halfway_root : (j : ℕ) (m n : List Bool) (us vs : List ℕ) → Halfway z w j m us → Adds (λ k. w (Root j k)) (w (RootCount j)) m us n vs → Halfway z w (j + 1) n vs
  halfway_root j m n us vs h k = record {
    size = k.marks.size ∙ h.size;
    only = λ r t. ⊎_elim (h.only r) (λ (s : (q : ℕ) × (q < w (RootCount j)) × (w (Root j q) ≡ r)). subst (ReachesByWords w) s.2 (protected_row j s.0 s.1)) (k.marks.only r t);
    waits = λ r c. ⊎_elim (λ d. k.marks.kept r (h.waits r d)) (λ d. d) (k.from r c);
    roots = λ i q l b. ⊎_elim (λ less. k.marks.kept (w (Root i q)) (h.roots i q less b))
        (λ past. let e : j ≡ i = omega arith in subst (λ (p : ℕ). q < w (RootCount p) → IsMarked n (w (Root p q))) e (k.marks.all q) b) (cases_lt i j);
    closed = λ r t. ⊎_elim (λ s. ⊎_elim (λ c. inl (k.waiting_on r c)) (closes m n vs (λ q. w (Root j q)) (w (RootCount j)) r k.marks) (h.closed r s)) inl (k.waiting r t);
  }

  -- the arguments of a row that waited
  pub halfway_row : (j row : ℕ) (m n : List Bool) (us vs : List ℕ) → Halfway z w j m (us ++ row ∷ []) → Adds (λ k. w (RowWord row (suc (suc k)))) (w (RowWord row 1)) m us n vs → Halfway z w j n vs
  halfway_row j row m n us vs h k = record {
    size = k.marks.size ∙ h.size;
    only = λ r t. ⊎_elim (h.only r) (λ (s : (q : ℕ) × (q < w (RowWord row 1)) × (w (RowWord row (suc (suc q))) ≡ r)).
        subst (ReachesByWords w) s.2 (argument_row row s.0 (h.only row (h.waits row (Contains-push us row))) s.1)) (k.marks.only r t);
    waits = λ r c. ⊎_elim (λ d. k.marks.kept r (h.waits r (Contains-append_left us (row ∷ []) r d))) (λ d. d) (k.from r c);
    roots = λ i q l b. k.marks.kept (w (Root i q)) (h.roots i q l b);
    closed = λ r t. ⊎_elim (λ s. ⊎_elim
        (λ c. ⊎_elim (λ d. inl (k.waiting_on r d)) (λ is. inr (subst (λ (p : ℕ). (q : ℕ) → q < w (RowWord p 1) → IsMarked n (w (RowWord p (suc (suc q))))) is k.marks.all)) (Contains-push_cases us row r c))
        (closes m n vs (λ q. w (RowWord row (suc (suc q)))) (w (RowWord row 1)) r k.marks) (h.closed r s)) inl (k.waiting r t);
  }

  pub protected_past : (j : ℕ) → IsPast z w (Protected j) → ReachesPast w z.rows
  protected_past j p = record { row = w (Root j p.at); reached = protected_row j p.at p.within; past = p.past }

  pub argument_past : (j row : ℕ) (m : List Bool) (us : List ℕ) → Halfway z w j m (us ++ row ∷ []) → IsPast z w (Arguments row) → ReachesPast w z.rows
  argument_past j row m us h p = record { row = w (RowWord row (suc (suc p.at))); reached = argument_row row p.at (h.only row (h.waits row (Contains-push us row))) p.within; past = p.past }

  module _ (absent : (j : ℕ) → z.seats ≤ j → w (RootCount j) ≡ 0) (m : List Bool) (h : Halfway z w z.seats m []) where
    all_marked : (r : ℕ) → ReachesByWords w r → IsMarked m r
    all_marked r (protected_row j k l) = ⊎_elim (λ less. h.roots j k less l) (λ past. absurd (let e = absent j past in omega arith)) (cases_lt j z.seats)
    all_marked r (argument_row q k y l) = ⊎_elim (λ c. absurd (contains_none q c)) (λ f. f k l) (h.closed q (all_marked q y))

    pub halfway_done : MarksReached w z.rows m
    halfway_done = record { size = h.size; marked = λ r. (h.only r, all_marked r) }

-- seats that aren't there have no protected rows
pub no_roots : (z : Sizes) (words : List ℕ) (j : ℕ) → z.seats ≤ j → shown z words (RootCount j) ≡ 0
no_roots z words j past = choose (λ (n : ℕ). n ≡ 0) (in_table z (RootCount j)) (get_or words (index_of z (RootCount j)) 0) 0
    (λ e. let l = ltb-true j z.seats (both_true _ _ e).0 in absurd (omega arith)) (λ _. refl)
