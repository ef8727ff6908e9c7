-- How many rows are marked.
use Rattle.std.proofs.Common.{◌≡◌, ℕ, zero, suc, ◌+◌, ◌<◌, ◌≤◌, Bool, true, false, List, [], ◌∷◌, length, get_or, arith, refl, ap}
use Rattle.std.proofs.Math.ListN.{set}
use Rattle.std.proofs.lemmas.List.{length-set}
use Rattle.mark_phase.specs.Steps.{marked_count}

pub count-length : (m : List Bool) → marked_count m ≤ length m
count-length [] = omega arith
count-length (true ∷ m) = let rest = count-length m in omega (arith, rest)
count-length (false ∷ m) = let rest = count-length m in omega (arith, rest)

-- a new mark is one more
pub count-set : (m : List Bool) (i : ℕ) → i < length m → get_or m i false ≡ false → marked_count (set m i true) ≡ marked_count m + 1
count-set [] i h e = absurd (omega arith)
count-set (false ∷ m) zero h e = refl
count-set (true ∷ m) zero h e = absurd (cc)
count-set (true ∷ m) (suc i) h e = ap (λ n. n + 1) (count-set m i (omega arith) e)
count-set (false ∷ m) (suc i) h e = count-set m i (omega arith) e

-- where a row isn't marked, fewer are marked than there are
pub count-below : (m : List Bool) (i : ℕ) → i < length m → get_or m i false ≡ false → marked_count m < length m
count-below m i h e =
    omega (arith, count-set m i h e, count-length (set m i true), length-set {A = Bool} m i true)
