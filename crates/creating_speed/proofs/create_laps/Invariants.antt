use Rattle.node_rows.specs.Passes.{IsPass, IsOut}
use Rattle.node_rows.specs.Told.{Tells}
use Rattle.creating_speed.proofs.create_laps.Given as goal

abbrev pub invariant-loop : goal.invariant-loop
invariant-loop l = IsPass l.store.table.shared.table_id l.store.sizes l.pass.seat.seat l.pass.seat.seats × IsOut l.pass.seat.seat.me.0 × Tells l.pass
