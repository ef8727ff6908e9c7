use Rattle.std.specs.Prelude.{◌≡◌}
use Rattle.lock_core.specs.declared.parts.Phase.TheVariants.{Shared}
use Rattle.store_model.specs.Machine.{In}
use Rattle.node_rows.specs.Inside.{IsInside}
use Rattle.term_makers.proofs.maker.read_down.Given as goal

abbrev pub invariant-loop : goal.invariant-loop
invariant-loop l = record {
  inside : IsInside l.store l.pass;
  shared : l.pass.seat.seat.me.0.lock.phase ≡ Shared;
  uses : In l.row.0 l.pass.seat.seat.me.0.store.got;
}
