-- Numbers that come in order, in two parts.
use Rattle.std.proofs.Common.{◌≡◌, ℕ, true, List, [], ◌∷◌, ◌++◌, Option, Some, None, refl, ap}
use Rattle.std.specs.Prelude.{is_some, unwrap_or, option_and_then}
use Rattle.term_file.specs.InOrder.{came_with, came_after}

-- those behind go on from where those before came to
pub came_on : (came : ℕ) (ms ns : List ℕ) (then : ℕ) → came_after came ms ≡ Some then → came_after came (ms ++ ns) ≡ came_after then ns
came_on came [] ns then e = let f : came ≡ then = cc in ap (λ (k : ℕ). came_after k ns) f
came_on came (m ∷ ms) ns then e = by (came_with came m) e (λ k. came_on k ms ns then)
  where
    by : (r : Option ℕ) → option_and_then (λ c. came_after c ms) r ≡ Some then → ((k : ℕ) → came_after k ms ≡ Some then → came_after k (ms ++ ns) ≡ came_after then ns) → option_and_then (λ c. came_after c (ms ++ ns)) r ≡ came_after then ns
    by None h rest = absurd (let bad : None ≡ Some then = h in cc)
    by (Some k) h rest = rest k h

-- the value that is there
pub some_is : (r : Option ℕ) (d : ℕ) → is_some r ≡ true → r ≡ Some (unwrap_or r d)
some_is None d e = absurd cc
some_is (Some x) d e = refl

-- a front that comes to nothing
pub stops : (came : ℕ) (ms ns : List ℕ) (then : ℕ) → came_after came (ms ++ ns) ≡ Some then → is_some (came_after came ms) ≡ true
stops came [] ns then e = refl
stops came (m ∷ ms) ns then e = by (came_with came m) e (λ k. stops k ms ns then)
  where
    by : (r : Option ℕ) → option_and_then (λ c. came_after c (ms ++ ns)) r ≡ Some then → ((k : ℕ) → came_after k (ms ++ ns) ≡ Some then → is_some (came_after k ms) ≡ true) → is_some (option_and_then (λ c. came_after c ms) r) ≡ true
    by None h rest = absurd (let bad : None ≡ Some then = h in cc)
    by (Some k) h rest = rest k h
