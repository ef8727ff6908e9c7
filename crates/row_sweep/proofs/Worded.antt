-- Where words stand: by the sizes of a store, and by those that its table was told.
use Rattle.std.proofs.Common.{◌≡◌, ℕ, true, sym, ap, ◌∙◌, subst}
use Rattle.store_model.specs.declared.view.Sizes.{Sizes}
use Rattle.store_model.specs.declared.view.Place.{Place}
use Rattle.store_model.specs.Shown.{in_table, index_of}
use Rattle.row_sweep.specs.declared.sweep.Sweep.{Sweep}
use Rattle.row_sweep.specs.Gathered.{sizes_of}

module _ (s : Sweep) where
  pub of_store : (P : Sizes → Type 0) → P (sizes_of s) → P s.store.now.sizes
  of_store P h = subst P s.at.told h

  pub there_in : (p : Place) → in_table s.store.now.sizes p ≡ true → in_table (sizes_of s) p ≡ true
  there_in p h = subst (λ (z : Sizes). in_table z p ≡ true) (sym s.at.told) h

  pub word_at : (p : Place) (k : ℕ) → k ≡ index_of s.store.now.sizes p → k ≡ index_of (sizes_of s) p
  word_at p k e = e ∙ ap (λ (z : Sizes). index_of z p) (sym s.at.told)

  -- the same of a family of places, at another name of one of them
  module _ (P : ℕ → Place) (m n : ℕ) (same : m ≡ n) where
    pub there_as : in_table s.store.now.sizes (P m) ≡ true → in_table (sizes_of s) (P n) ≡ true
    there_as h = there_in (P n) (subst (λ (i : ℕ). in_table s.store.now.sizes (P i) ≡ true) same h)

    pub word_as : (k : ℕ) → k ≡ index_of s.store.now.sizes (P m) → k ≡ index_of (sizes_of s) (P n)
    word_as k e = word_at (P n) k (e ∙ ap (λ (i : ℕ). index_of s.store.now.sizes (P i)) same)
