use Rattle.std.proofs.Common.{◌≡◌, sym, ap, subst, arith}
use Rattle.atomic_table.specs.Table.{Allows}
use Rattle.store_model.specs.declared.view.Sizes.{Sizes}
use Rattle.node_rows.specs.Joining.{ShowsJoined, TellsAll}
use Rattle.node_rows.proofs.Joins.{looks_at}
use Rattle.node_rows.proofs.closing.look.Goals as goal

pub load-requires : goal.load-requires
load-requires c =
    let seat = c.args.pass.now.seat in
    let t = c.args.store.now.table.shared.table_id in
    let z : Sizes = c.args.store.now.sizes in
    let wide = seat.fits.wide in
    let words = ap (λ t. t.words) c.requires.pass.table in (
      c.requires.pass.table,
      omega arith,
      subst (λ (y : Sizes). Allows (ShowsJoined y) t.slots seat.seat.id seat.seat.me 0 (λ n. n) (λ n me'. (me' ≡ seat.seat.me) × TellsAll seat.seat.me.0.sizes seat.seat.me.0)) (sym c.requires.store.told)
          (looks_at z t.slots seat.seat.id seat.seat.me seat.number 0 seat.fits.number c.requires.pass.sizes),
    )
