-- Marks, one more and many.
use Rattle.std.proofs.Common.{◌≡◌, ◌⊎◌, ℕ, zero, suc, ◌+◌, ◌<◌, Bool, true, false, List, length, set, refl, sym, ap, ◌∙◌, subst, ⊎_elim, inl, inr, arith, true≢false, get_or-set_same, get_or-set_other}
use Rattle.std.specs.Prelude.{replicate}
use Rattle.std.proofs.lemmas.Bool.{cases_lt}
use Rattle.std.proofs.lemmas.List.{length-set}
use mathlib.Core.Logic.{dite}
use native.Mathlib.Decide.{ℕ_discrete}
use Rattle.store_model.specs.Marks.{IsMarked, Marks}

pub marked_here : (m : List Bool) (q : ℕ) → q < length m → IsMarked (set m q true) q
marked_here m q l = get_or-set_same m q true false l

pub marked_kept : (m : List Bool) (q r : ℕ) → q < length m → IsMarked m r → IsMarked (set m q true) r
marked_kept m q r l k = dite (ℕ_discrete r q) (λ e. subst (IsMarked (set m q true)) (sym e) (marked_here m q l)) (λ ne. get_or-set_other m q r true false ne ∙ k)

pub marked_cases : (m : List Bool) (q r : ℕ) → q < length m → IsMarked (set m q true) r → (r ≡ q) ⊎ IsMarked m r
marked_cases m q r l k = dite (ℕ_discrete r q) inl (λ ne. inr (sym (get_or-set_other m q r true false ne) ∙ k))

pub marks_none : (f : ℕ → ℕ) (m : List Bool) → Marks f 0 m m
marks_none f m = record { size = refl; kept = λ r k. k; all = λ k l. absurd (omega arith); only = λ r k. inl k }

pub marks_one : (m : List Bool) (q : ℕ) → q < length m → Marks (λ _. q) 1 m (set m q true)
marks_one m q l = record {
  size = length-set m q true;
  kept = λ r k. marked_kept m q r l k;
  all = λ k b. marked_here m q l;
  only = λ r k. ⊎_elim (λ is. inr (0, omega arith, sym is)) inl (marked_cases m q r l k);
}

pub marks_more : (f : ℕ → ℕ) (n x : ℕ) (a b c : List Bool) → x ≡ f n → Marks f n a b → Marks (λ _. x) 1 b c → Marks f (n + 1) a c
marks_more f n x a b c is h k = record {
  size = k.size ∙ h.size;
  kept = λ r t. k.kept r (h.kept r t);
  all = λ q l. ⊎_elim (λ less. k.kept (f q) (h.all q less)) (λ past. let e : n ≡ q = omega arith in subst (IsMarked c) (is ∙ ap f e) (k.all 0 (omega arith))) (cases_lt q n);
  only = λ r t. ⊎_elim
      (λ s. ⊎_elim inl (λ (u : (q : ℕ) × (q < n) × (f q ≡ r)). inr (u.0, (let l = u.1 in omega arith), u.2)) (h.only r s))
      (λ (u : (q : ℕ) × (q < 1) × (x ≡ r)). inr (n, omega arith, sym is ∙ u.2)) (k.only r t);
}

-- no row is marked at first
pub none_marked : (n r : ℕ) → IsMarked (replicate n false) r → ⊥
none_marked zero r h = true≢false (sym h)
none_marked (suc n) zero h = true≢false (sym h)
none_marked (suc n) (suc r) h = none_marked n r h
