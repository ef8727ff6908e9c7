use Rattle.std.specs.Prelude.{◌≡◌, take}
use Rattle.busy_forbidden.specs.Calls.{IsSame}
use Rattle.node_rows.specs.Inside.{IsInside}
use Rattle.node_rows.specs.Rows.{names}
use Rattle.root_sets.specs.Protected.{Keeps}
use Rattle.root_sets.proofs.storing.put_roots.Given as goal

abbrev pub invariant-loop-k : goal.invariant-loop-k
invariant-loop-k l = record {
  inside : IsInside l.store l.pass;
  same : IsSame l.fn.pass.seat.seat l.pass.seat.seat × (l.pass.seat.number ≡ l.fn.pass.seat.number);
  count : l.pass.root_count ≡ l.fn.pass.root_count;
  roots : take l.k l.pass.seat.seat.me.0.store.roots ≡ take l.k (names l.rows);
  keeps : Keeps l.fn.pass.seat.seat.me.0 l.pass.seat.seat.me.0;
}
