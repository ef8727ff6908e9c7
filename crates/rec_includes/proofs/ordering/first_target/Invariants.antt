use Rattle.rec_includes.proofs.Common.{◌≡◌, drop, first_target}
use Rattle.rec_includes.proofs.ordering.first_target.Given as goal

-- those before it include none
abbrev pub invariant-loop-entry : goal.invariant-loop-entry
invariant-loop-entry l =
    first_target l.headers.bytes l.headers.names l.number (drop l.entry-index l.entries) ≡ first_target l.headers.bytes l.headers.names l.number l.entries
