-- Short names as numbers.
use Rattle.std.proofs.Common.{◌≡◌, ◌≤◌, ◌<◌, ◌∙◌, ℕ, ◌+◌, ◌-◌, ◌*◌, List, [], ◌∷◌, ◌++◌, length, take, drop, get_or, refl, ap, arith}
use Rattle.std.proofs.lemmas.Nat.{div-mul-add, mod-mul-add}
use Rattle.term_syntax.specs.Known.{digits, name_of}

-- the number that digits spell, the lowest first
abbrev value : List ℕ → ℕ
value [] = 0
value (b ∷ bs) = value bs * 256 + b

abbrev AreBytes : List ℕ → Type 0
AreBytes [] = Unit {0}
AreBytes (b ∷ bs) = (b < 256) × AreBytes bs

digits_back : (bs : List ℕ) → AreBytes bs → digits (length bs) (value bs) ≡ bs
digits_back [] h = refl
digits_back (b ∷ bs) h =
    (λ i. mod-mul-add (value bs) 256 b h.0 i ∷ digits (length bs) (div-mul-add (value bs) 256 b h.0 i))
    ∙ ap (λ xs. b ∷ xs) (digits_back bs h.1)

abbrev pub two_at : List ℕ → ℕ → ℕ
two_at name at = get_or name at 0 + get_or name (at + 1) 0 * 256

abbrev pub four_at : List ℕ → ℕ → ℕ
four_at name at = get_or name at 0 + get_or name (at + 1) 0 * 256 + (get_or name (at + 2) 0 + get_or name (at + 3) 0 * 256) * 65536

digits_four : (a b c d k : ℕ) → a < 256 → b < 256 → c < 256 → d < 256 → k ≡ (a + b * 256) + (c + d * 256) * 65536 → digits 4 k ≡ a ∷ b ∷ c ∷ d ∷ []
digits_four a b c d k ha hb hc hd e =
    let nested : k ≡ value (a ∷ b ∷ c ∷ d ∷ []) = omega (arith, e) in
    ap (digits 4) nested ∙ digits_back (a ∷ b ∷ c ∷ d ∷ []) (ha, (hb, (hc, (hd, tt))))

digits_eight : (a b c d e f g h k : ℕ) → a < 256 → b < 256 → c < 256 → d < 256 → e < 256 → f < 256 → g < 256 → h < 256 →
    k ≡ (a + b * 256 + (c + d * 256) * 65536) + (e + f * 256 + (g + h * 256) * 65536) * 4294967296 → digits 8 k ≡ a ∷ b ∷ c ∷ d ∷ e ∷ f ∷ g ∷ h ∷ []
digits_eight a b c d e f g h k ha hb hc hd he hf hg hh is =
    let nested : k ≡ value (a ∷ b ∷ c ∷ d ∷ e ∷ f ∷ g ∷ h ∷ []) = omega (arith, is) in
    ap (digits 8) nested ∙ digits_back (a ∷ b ∷ c ∷ d ∷ e ∷ f ∷ g ∷ h ∷ []) (ha, (hb, (hc, (hd, (he, (hf, (hg, (hh, tt))))))))

module _ (k : ℕ) where
  pub told_long : (name : List ℕ) → ((i : ℕ) → i < length name → get_or name i 0 < 256) → 4 ≤ length name → length name ≤ 8 → k ≡ four_at name 0 + four_at name (length name - 4) * 4294967296 → name_of (length name) k ≡ name
  told_long [] h low high is = absurd (omega (arith, low))
  told_long (a ∷ []) h low high is = absurd (omega (arith, low))
  told_long (a ∷ b ∷ []) h low high is = absurd (omega (arith, low))
  told_long (a ∷ b ∷ c ∷ []) h low high is = absurd (omega (arith, low))
  told_long (a ∷ b ∷ c ∷ d ∷ []) h low high is =
      let x = h 0 (omega arith) in let y = h 1 (omega arith) in let z = h 2 (omega arith) in let w = h 3 (omega arith) in
      ap (λ ds. take 4 ds ++ drop 8 ds) (digits_eight a b c d a b c d k x y z w x y z w is)
  told_long (a ∷ b ∷ c ∷ d ∷ e ∷ []) h low high is =
      let x = h 0 (omega arith) in let y = h 1 (omega arith) in let z = h 2 (omega arith) in let w = h 3 (omega arith) in let v = h 4 (omega arith) in
      ap (λ ds. take 4 ds ++ drop 7 ds) (digits_eight a b c d b c d e k x y z w y z w v is)
  told_long (a ∷ b ∷ c ∷ d ∷ e ∷ f ∷ []) h low high is =
      let x = h 0 (omega arith) in let y = h 1 (omega arith) in let z = h 2 (omega arith) in let w = h 3 (omega arith) in let v = h 4 (omega arith) in let u = h 5 (omega arith) in
      ap (λ ds. take 4 ds ++ drop 6 ds) (digits_eight a b c d c d e f k x y z w z w v u is)
  told_long (a ∷ b ∷ c ∷ d ∷ e ∷ f ∷ g ∷ []) h low high is =
      let x = h 0 (omega arith) in let y = h 1 (omega arith) in let z = h 2 (omega arith) in let w = h 3 (omega arith) in let v = h 4 (omega arith) in let u = h 5 (omega arith) in let t = h 6 (omega arith) in
      ap (λ ds. take 4 ds ++ drop 5 ds) (digits_eight a b c d d e f g k x y z w w v u t is)
  told_long (a ∷ b ∷ c ∷ d ∷ e ∷ f ∷ g ∷ i ∷ []) h low high is =
      let x = h 0 (omega arith) in let y = h 1 (omega arith) in let z = h 2 (omega arith) in let w = h 3 (omega arith) in let v = h 4 (omega arith) in let u = h 5 (omega arith) in let t = h 6 (omega arith) in let s = h 7 (omega arith) in
      ap (λ ds. take 4 ds ++ drop 4 ds) (digits_eight a b c d e f g i k x y z w v u t s is)
  told_long (a ∷ b ∷ c ∷ d ∷ e ∷ f ∷ g ∷ i ∷ j ∷ name) h low high is = absurd (omega (arith, high))

  pub told_two : (name : List ℕ) → ((i : ℕ) → i < length name → get_or name i 0 < 256) → 2 ≤ length name → length name < 4 → k ≡ two_at name 0 + two_at name (length name - 2) * 65536 → name_of (length name) k ≡ name
  told_two [] h low high is = absurd (omega (arith, low))
  told_two (a ∷ []) h low high is = absurd (omega (arith, low))
  told_two (a ∷ b ∷ []) h low high is =
      let x = h 0 (omega arith) in let y = h 1 (omega arith) in
      ap (λ ds. take 2 ds ++ drop 4 ds) (digits_four a b a b k x y x y is)
  told_two (a ∷ b ∷ c ∷ []) h low high is =
      let x = h 0 (omega arith) in let y = h 1 (omega arith) in let z = h 2 (omega arith) in
      ap (λ ds. take 2 ds ++ drop 3 ds) (digits_four a b b c k x y y z is)
  told_two (a ∷ b ∷ c ∷ d ∷ name) h low high is = absurd (omega (arith, high))

  pub told_one : (name : List ℕ) → ((i : ℕ) → i < length name → get_or name i 0 < 256) → length name ≡ 1 → k ≡ get_or name 0 0 → name_of (length name) k ≡ name
  told_one [] h low is = absurd (omega (arith, low))
  told_one (a ∷ []) h low is =
      let x = h 0 (omega arith) in
      let nested : k ≡ value (a ∷ []) = omega (arith, is) in
      ap (digits 1) nested ∙ digits_back (a ∷ []) (x, tt)
  told_one (a ∷ b ∷ name) h low is = absurd (omega (arith, low))

  pub told_none : (name : List ℕ) → length name < 1 → name_of (length name) k ≡ name
  told_none [] low = refl
  told_none (a ∷ name) low = absurd (omega (arith, low))
