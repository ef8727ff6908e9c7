use Rattle.std.proofs.Common.{◌≡◌, map, vec_len}
use Rattle.std.specs.Prelude.{All}
use Rattle.node_rows.specs.Passes.{IsPass, IsOut}
use Rattle.node_rows.specs.Joining.{all_views}
use Rattle.node_rows.specs.Told.{view_of}
use Rattle.node_rows.proofs.closing.gather_all.Given as goal

abbrev pub invariant-loop-pass : goal.invariant-loop-pass
invariant-loop-pass l = record {
  first : IsPass l.store.table.shared.table_id l.store.sizes l.first.seat.seat l.first.seat.seats;
  number : l.first.seat.number ≡ l.initial.first.seat.number;
  passes : All (λ p. IsPass l.store.table.shared.table_id l.store.sizes p.seat.seat p.seat.seats × IsOut p.seat.seat.me.0) l.rest.items;
  view : all_views (view_of l.first) (map view_of l.rest.items) ≡ all_views (view_of l.initial.first) (map view_of l.initial.rest.items);
}

abbrev pub decreases-loop-pass : goal.decreases-loop-pass
decreases-loop-pass l = vec_len l.rest
