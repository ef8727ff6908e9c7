use Rattle.std.proofs.Common.{refl, ap, subst}
use Rattle.store_model.specs.declared.view.Sizes.{Sizes}
use Rattle.store_model.specs.declared.view.Place.TheVariants.{Claim}
use Rattle.node_rows.specs.Collecting.{HasStore}
use Rattle.node_rows.specs.Crowding.{HasCrowd}
use Rattle.node_rows.proofs.Crowding.{ended_kept}
use Rattle.node_rows.proofs.Own.{store_stands}
use Rattle.node_rows.proofs.Plays.{word_fits}
use Rattle.node_rows.proofs.Collects.{ends_claim}
use Rattle.node_rows.proofs.collecting.store_claim.Goals as goal

pub store-requires : goal.store-requires
store-requires c =
    let z : Sizes = c.args.table.now.shared.key in
    let t = c.args.table.now.shared.table_id in
    let seat = c.args.seat.now in (
      c.requires.of.table,
      word_fits t z seat.seat c.args.word Claim c.requires.of c.requires.word refl,
      ends_claim z t.slots seat.seat.id seat.seat.me seat.number c.args.word seat.fits.number c.requires.of.sizes c.requires.word c.requires.may,
    )

pub returns-clause-has_crowd : goal.returns-clause-has_crowd
returns-clause-has_crowd c =
    let seat = c.args.seat.now in
    subst (λ (z : Sizes). HasCrowd z seat.number c.store.new.seat.me.0) c.requires.of.sizes (c.store.ensures.2.2 seat.number seat.fits.number)

pub returns-clause-has_store : goal.returns-clause-has_store
returns-clause-has_store c =
    let seat = c.args.seat.now in
    subst (λ (z : Sizes). HasStore z seat.number c.store.new.seat.me.0.store) c.requires.of.sizes
    (store_stands seat.seat.me.0.sizes seat.number c.store.new.seat.me.0 (c.store.ensures.2.2 seat.number seat.fits.number))

pub returns-clause-crowd : goal.returns-clause-crowd
returns-clause-crowd c =
    let seat = c.args.seat.now in
    ended_kept seat.seat.me.0.sizes seat.number seat.seat.me.0 c.store.new.seat.me.0 (c.store.ensures.2.2 seat.number seat.fits.number) (ap (λ m. m.0) c.store.ensures.2.0)
