use Rattle.node_rows.specs.Passes.{IsPass, IsOut}
use Rattle.node_rows.specs.Told.{Tells}
use Rattle.store_trials.proofs.creating.create_ten.Given as goal

abbrev pub invariant-loop-symbol : goal.invariant-loop-symbol
invariant-loop-symbol g l = IsPass l.store.table.shared.table_id l.store.sizes l.pass.seat.seat l.pass.seat.seats × IsOut l.pass.seat.seat.me.0 × Tells l.pass
