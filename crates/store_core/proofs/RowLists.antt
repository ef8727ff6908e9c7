-- Lists of rows in the words of a store, read one by one.
use Rattle.std.proofs.Common.{◌≡◌, ℕ, ◌+◌, ◌<◌, List, [], ◌∷◌, ◌++◌, length, get_or, sym, ap, ◌∙◌, subst, ⊎_elim, arith}
use Rattle.std.proofs.lemmas.Bool.{cases_lt}
use Rattle.std.proofs.lemmas.List.{length_push, get_or_push, get_or_append_left}
use Rattle.store_core.specs.RowLists.{AreListed}

-- one more of them
pub listed_more : (f : ℕ → ℕ) (b n : ℕ) (xs ys : List ℕ) (x : ℕ) → AreListed f b n xs → ys ≡ xs ++ x ∷ [] → x ≡ f n → x < b → AreListed f b (n + 1) ys
listed_more f b n xs ys x h is here l = record {
  count = ap (λ (zs : List ℕ). length zs) is ∙ (let a = length_push xs x in let c = h.count in omega arith);
  each = λ k below. subst (λ (zs : List ℕ). get_or zs k 0 ≡ f k) (sym is) (⊎_elim
      (λ a. get_or_append_left xs (x ∷ []) 0 k (let c = h.count in omega arith) ∙ h.each k a)
      (λ a. let e : n ≡ k = omega arith in get_or_push xs x 0 k (let c = h.count in omega arith) ∙ (here ∙ ap f e)) (cases_lt k n));
  below = λ k below. ⊎_elim (λ a. h.below k a) (λ a. let e : n ≡ k = omega arith in subst (λ (j : ℕ). f j < b) e (subst (λ (y : ℕ). y < b) here l)) (cases_lt k n);
}
