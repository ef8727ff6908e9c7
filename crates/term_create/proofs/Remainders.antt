-- A power of two has the remainder of a number in its low bits.
use Rattle.std.proofs.Common.{◌≡◌, ◌≢◌, ℕ, ◌+◌, ◌<◌, ◌*◌, ◌-◌, ◌%◌, ◌^◌, inl, inr, refl, sym, subst, arith}
use Rattle.std.proofs.lemmas.Nat.{and_mask, and_block, leading_top, pow_pos}
use Rattle.std.proofs.lemmas.Bool.Decides.{eqb_tells}
use Rattle.std.specs.Int.Bits.{bit_and}

-- a number with another bit than its highest shares the highest with the number before it
shares : (k r : ℕ) → 0 < r → r < 2 ^ k → 0 < bit_and (1 * 2 ^ k + r) (1 * 2 ^ k + (r - 1))
shares k r some below =
    let split = and_block k 1 1 r (r - 1) below (omega arith) in
    let one : bit_and 1 1 ≡ 1 = refl in
    omega (arith, split, one, pow_pos k)

pub low_bits : (h n : ℕ) → 0 < n → n < 2 ^ 64 → bit_and n (n - 1) ≡ 0 → bit_and h (n - 1) ≡ h % n
low_bits h n some below none =
    let t = leading_top 64 n some below in
    let k = t.0 in
    elim (eqb_tells n (2 ^ k)) [
      | inl e ↦ subst (λ m. bit_and h (m - 1) ≡ h % m) (sym e.1) (and_mask h k)
      | inr ne ↦ absurd (
          let apart : n ≢ 2 ^ k = ne.1 in
          let r = n - 2 ^ k in
          let here : 1 * 2 ^ k + r ≡ n = omega (arith, t.2) in
          let there : 1 * 2 ^ k + (r - 1) ≡ n - 1 = omega (arith, t.2, apart) in
          let shared = shares k r (omega (arith, t.2, apart)) (omega (arith, t.2, t.3)) in
          let both : 0 < bit_and n (n - 1) = subst (λ a. 0 < bit_and a (n - 1)) here (subst (λ b. 0 < bit_and (1 * 2 ^ k + r) b) there shared) in
          omega (arith, both, none))
    ]
