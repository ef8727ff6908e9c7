use Rattle.node_rows.specs.Opening.{UpTo}
use Rattle.node_rows.proofs.make.put_places.Given as goal

abbrev pub invariant-loop-i : goal.invariant-loop-i
invariant-loop-i l = record { up : UpTo l.sizes l.words l.i }
