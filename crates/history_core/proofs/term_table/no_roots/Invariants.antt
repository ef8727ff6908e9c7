use Rattle.std.proofs.Common.{◌≡◌, [], replicate}
use Rattle.history_core.proofs.term_table.no_roots.Given as goal

abbrev pub invariant-loop-caller : goal.invariant-loop-caller
invariant-loop-caller l = l.roots.items ≡ replicate l._caller []
