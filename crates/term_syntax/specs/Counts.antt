-- Parts whose counts are told.
use Rattle.std.specs.Prelude.{ℕ, zero, suc, List, [], ◌∷◌}
use Rattle.term_syntax.specs.declared.machine.Entry.{Entry}
use Rattle.term_syntax.specs.State.{Part}

-- the parts, where the one of this number has so many terms in it
abbrev pub with_count : List Part → ℕ → ℕ → List Part
with_count [] i count = []
with_count (p ∷ ps) zero count = record p { count = count } ∷ ps
with_count (p ∷ ps) (suc i) count = p ∷ with_count ps i count

-- the same of parts as they are kept
abbrev pub counted : List Entry → ℕ → ℕ → List Entry
counted [] i count = []
counted (e ∷ es) zero count = record e { count = count } ∷ es
counted (e ∷ es) (suc i) count = e ∷ counted es i count
