-- Counts that 32 bits hold, since an input has fewer than 2^32 bytes.
use Rattle.std.specs.Prelude.{◌<◌, ◌+◌, ◌^◌, ℕ, List, All}
use Rattle.term_syntax.specs.declared.machine.Group.{Group}

-- the counts of open groups are below 2^32 by more than this
abbrev pub AreCountsFew : ℕ → List Group → Type 0
AreCountsFew more groups = All (λ g. g.count + more < 2 ^ 32) groups
