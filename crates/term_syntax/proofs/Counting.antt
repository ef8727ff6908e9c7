-- A part whose count is told.
use Rattle.std.proofs.Common.{◌≡◌, ℕ, List, [], ◌∷◌, ◌++◌, length, refl, ap}
use Rattle.term_syntax.specs.State.{Part}
use Rattle.term_syntax.specs.Counts.{with_count}

-- behind the parts before it
pub counted_behind : (xs : List Part) (p : Part) (ys : List Part) (n : ℕ) → with_count (xs ++ p ∷ ys) (length xs) n ≡ xs ++ record p { count = n } ∷ ys
counted_behind [] p ys n = refl
counted_behind (x ∷ xs) p ys n = ap (λ qs. x ∷ qs) (counted_behind xs p ys n)
