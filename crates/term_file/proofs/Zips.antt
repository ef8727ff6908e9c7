-- Lists whose elements are related place by place.
use Rattle.std.proofs.Common.{◌≡◌, ℕ, suc, ◌+◌, ◌<◌, Bool, true, false, cond, eqb, ltb, List, [], ◌∷◌, ◌++◌, length, slice_get, Some, None, refl, sym, subst, ◌∙◌, arith, inl, inr, ◌⊎◌}
use Rattle.std.specs.Prelude.{option_and_then}
use Rattle.std.specs.List.{flat_map, AllZip}
use Rattle.std.proofs.lemmas.Bool.{ltb-true, eqb-true, cases_lt}
use Rattle.term_file.specs.InOrder.{came_after}

pub zip_append : {X Y : Type 0} (R : X → Y → Type 0) (xs us : List X) (ys vs : List Y) → AllZip R xs ys → AllZip R us vs → AllZip R (xs ++ us) (ys ++ vs)
zip_append R [] us [] vs h k = k
zip_append R [] us (y ∷ ys) vs h k = absurd h
zip_append R (x ∷ xs) us [] vs h k = absurd h
zip_append R (x ∷ xs) us (y ∷ ys) vs h k = (h.0, zip_append R xs us ys vs h.1 k)

pub zip_flat : {X Y A B : Type 0} (R : X → Y → Type 0) (Q : A → B → Type 0) (f : X → List A) (g : Y → List B) (xs : List X) (ys : List Y) → AllZip R xs ys → ((x : X) (y : Y) → R x y → AllZip Q (f x) (g y)) → AllZip Q (flat_map f xs) (flat_map g ys)
zip_flat R Q f g [] [] h each = h
zip_flat R Q f g [] (y ∷ ys) h each = absurd h
zip_flat R Q f g (x ∷ xs) [] h each = absurd h
zip_flat R Q f g (x ∷ xs) (y ∷ ys) h each = zip_append Q (f x) (flat_map f xs) (g y) (flat_map g ys) (each x y h.0) (zip_flat R Q f g xs ys h.1 each)

-- related by number
pub zip_at : {X Y : Type 0} (R : X → Y → Type 0) (xs : List X) (ys : List Y) → length xs ≡ length ys → ((k : ℕ) (x : X) (y : Y) → slice_get xs k ≡ Some x → slice_get ys k ≡ Some y → R x y) → AllZip R xs ys
zip_at R [] [] e each = tt
zip_at R [] (y ∷ ys) e each = absurd (omega arith)
zip_at R (x ∷ xs) [] e each = absurd (omega arith)
zip_at R (x ∷ xs) (y ∷ ys) e each = (each 0 x y refl refl, zip_at R xs ys (omega arith) (λ k. each (suc k)))

pub same_by_number : {X : Type 0} (xs ys : List X) → length xs ≡ length ys → ((k : ℕ) → k < length xs → slice_get xs k ≡ slice_get ys k) → xs ≡ ys
same_by_number [] [] e each = refl
same_by_number [] (y ∷ ys) e each = absurd (omega arith)
same_by_number (x ∷ xs) [] e each = absurd (omega arith)
same_by_number (x ∷ xs) (y ∷ ys) e each =
    let h : Some x ≡ Some y = each 0 (omega arith) in
    let first : x ≡ y = cc in
    let rest = same_by_number xs ys (omega arith) (λ k lt. each (suc k) (omega arith)) in
    λ i. first i ∷ rest i

-- what the first of numbers in order may be: one that came, or the next
pub came_cases : (came n : ℕ) (ns : List ℕ) (then : ℕ) → came_after came (n ∷ ns) ≡ Some then → ((n < came) × (came_after came ns ≡ Some then)) ⊎ ((n ≡ came) × (came_after (came + 1) ns ≡ Some then))
came_cases came n ns then e = by (ltb n came) refl (eqb n came) refl e
  where
    by : (b : Bool) → ltb n came ≡ b → (q : Bool) → eqb n came ≡ q → option_and_then (λ c. came_after c ns) (cond b (Some came) (cond q (Some (came + 1)) None)) ≡ Some then → ((n < came) × (came_after came ns ≡ Some then)) ⊎ ((n ≡ came) × (came_after (came + 1) ns ≡ Some then))
    by true l q h e = inl (ltb-true n came l, e)
    by false l true h e = inr (eqb-true n came h, e)
    by false l false h e = absurd (let bad : None ≡ Some then = e in cc)

le_cases : (k came : ℕ) → k < came + 1 → (k < came) ⊎ (k ≡ came)
le_cases k came lt = elim (cases_lt k came) [ inl l ↦ inl l | inr g ↦ inr (omega arith) ]

-- Numbers in order that are related one to one are the same numbers.
module _ (R : ℕ → ℕ → Type 0) (one_left : (i k j : ℕ) → R i j → R k j → i ≡ k) (one_right : (i j k : ℕ) → R i j → R i k → j ≡ k) where
  pub record Together (ms ns : List ℕ) (m n : ℕ) : Type 0 where
    pub same : ms ≡ ns
    pub count : m ≡ n
    pub each : (k : ℕ) → k < m → R k k

  extend : (came : ℕ) → ((k : ℕ) → k < came → R k k) → R came came → (k : ℕ) → k < came + 1 → R k k
  extend came low here k lt = by (le_cases k came lt)
    where
      by : (k < came) ⊎ (k ≡ came) → R k k
      by (inl l) = low k l
      by (inr p) = subst (λ i. R i i) (sym p) here

  pub together : (came : ℕ) → ((k : ℕ) → k < came → R k k) → (ms ns : List ℕ) → AllZip R ms ns → (m n : ℕ) → came_after came ms ≡ Some m → came_after came ns ≡ Some n → Together ms ns m n
  together came low [] [] zip m n e f =
      let p : came ≡ m = cc in
      let q : came ≡ n = cc in
      record { same = refl; count = sym p ∙ q; each = subst (λ c. (k : ℕ) → k < c → R k k) p low }
  together came low [] (y ∷ ns) zip m n e f = absurd zip
  together came low (x ∷ ms) [] zip m n e f = absurd zip
  together came low (x ∷ ms) (y ∷ ns) zip m n e f = by (came_cases came x ms m e) (came_cases came y ns n f) (together came low ms ns zip.1 m n) (λ more. together (came + 1) more ms ns zip.1 m n)
    where
      joined : x ≡ y → Together ms ns m n → Together (x ∷ ms) (y ∷ ns) m n
      joined p t = record { same = λ i. p i ∷ t.same i; count = t.count; each = t.each }

      by : ((x < came) × (came_after came ms ≡ Some m)) ⊎ ((x ≡ came) × (came_after (came + 1) ms ≡ Some m)) →
          ((y < came) × (came_after came ns ≡ Some n)) ⊎ ((y ≡ came) × (came_after (came + 1) ns ≡ Some n)) →
          (came_after came ms ≡ Some m → came_after came ns ≡ Some n → Together ms ns m n) →
          (((k : ℕ) → k < came + 1 → R k k) → came_after (came + 1) ms ≡ Some m → came_after (came + 1) ns ≡ Some n → Together ms ns m n) →
          Together (x ∷ ms) (y ∷ ns) m n
      by (inl a) (inl b) go next = joined (one_left x y y zip.0 (low y b.0)) (go a.1 b.1)
      by (inl a) (inr b) go next = let p : x ≡ y = one_right x x y (low x a.0) zip.0 in absurd (omega (arith, a.0, b.0))
      by (inr a) (inl b) go next = let p : x ≡ y = one_left x y y zip.0 (low y b.0) in absurd (omega (arith, a.0, b.0))
      by (inr a) (inr b) go next =
          let here : R came came = subst (λ i. R i came) a.0 (subst (λ j. R x j) b.0 zip.0) in
          joined (a.0 ∙ sym b.0) (next (extend came low here) a.1 b.1)
