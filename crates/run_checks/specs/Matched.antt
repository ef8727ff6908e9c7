-- What a match binds in a table of terms.
use Rattle.std.specs.Prelude.{◌≡◌, ℕ, List, map, Option, Some, None, All, Bool, true, false}
use Rattle.std.specs.Global.{Vec}
use Rattle.term_model.specs.Tree.{Tree}
use Rattle.run_checks.specs.Held.{Held, IsThere, term_at}

-- these numbers are those of the terms that are bound; where nothing matches, there are none
abbrev pub IsMatched : Held → Option (List Tree) → Option (Vec ℕ) → Type 0
IsMatched h m None = m ≡ None
IsMatched h m (Some bound) = (m ≡ Some (map (term_at h) bound.items)) × All (IsThere h) bound.items

-- the same by a test, and the numbers that were bound
abbrev pub Binds : Held → List ℕ → Option (List Tree) → Bool → Type 0
Binds h bound m true = (m ≡ Some (map (term_at h) bound)) × All (IsThere h) bound
Binds h bound m false = m ≡ None
