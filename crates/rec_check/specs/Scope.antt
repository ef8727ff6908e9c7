-- A scope as it is read.
use Rattle.rec_includes.specs.Listing.{texts}
use Rattle.rec_check.specs.Term as term
use Rattle.rec_check.specs.declared.scope.Scope.{Scope}

abbrev pub seen : Scope → term.Scope
seen s = record { text = s.variables.now.bytes; symbols = s.symbols.now; variables = texts s.variables.now }
