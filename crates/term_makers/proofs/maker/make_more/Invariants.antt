use Rattle.std.specs.Prelude.{◌≡◌}
use Rattle.lock_core.specs.declared.parts.Phase.TheVariants.{Shared}
use Rattle.store_model.specs.Machine.{In, protected_in}
use Rattle.node_rows.specs.Inside.{IsInside}
use Rattle.term_makers.proofs.maker.make_more.Given as goal

abbrev pub invariant-loop : goal.invariant-loop
invariant-loop l = record {
  inside : IsInside l.store l.pass;
  shared : l.pass.seat.seat.me.0.lock.phase ≡ Shared;
  uses : In l.row.0 l.pass.seat.seat.me.0.store.got;
  roots : protected_in l.pass.seat.seat.me.0.store ≡ protected_in l.initial.pass.seat.seat.me.0.store;
}
