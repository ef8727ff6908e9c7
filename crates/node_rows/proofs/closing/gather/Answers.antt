use Rattle.std.proofs.Common.{sym, ap, subst, arith}
use Rattle.atomic_table.specs.Table.{Joins}
use Rattle.store_model.specs.declared.view.Sizes.{Sizes}
use Rattle.node_rows.specs.Joining.{ShowsJoined, both_views, spent_view}
use Rattle.node_rows.proofs.Joins.{joins_seat}
use Rattle.node_rows.proofs.closing.gather.Goals as goal

pub join_seat-requires : goal.join_seat-requires
join_seat-requires c =
    let seat = c.args.first.now.seat in
    let other = c.args.other.seat in
    let z : Sizes = c.args.store.now.sizes in
    let wide = seat.fits.wide in
    let words = ap (λ t. t.words) c.requires.first.table in (
      c.requires.first.table,
      c.requires.other.0.table,
      c.requires.other.0.none,
      omega arith,
      subst (λ (y : Sizes). Joins (ShowsJoined y) seat.seat.id seat.seat.me.0 other.seat.id other.seat.me.0 (both_views seat.seat.me.0 other.seat.me.0) spent_view) (sym c.requires.store.told)
          (joins_seat z seat.seat.id seat.seat.me.0 seat.number seat.fits.number other.seat.id other.seat.me.0 other.number other.fits.number c.requires.other.1.phase),
    )
