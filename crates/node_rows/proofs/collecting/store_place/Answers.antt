use Rattle.std.proofs.Common.{ℕ, sym, subst, ◌≡◌, refl}
use Rattle.atomic_table.specs.Table.{Allows}
use Rattle.store_model.specs.declared.view.Sizes.{Sizes}
use Rattle.store_model.specs.Machine.{Step, StoreAny}
use Rattle.node_rows.specs.Joining.{ShowsJoined}
use Rattle.node_rows.specs.Collecting.{MayCollect, collects, HasStore}
use Rattle.node_rows.proofs.Plays.{word_fits}
use Rattle.node_rows.proofs.Collects.{TellsCollect, stores_any}
use Rattle.node_rows.specs.Steps.{with_store}
use Rattle.node_rows.proofs.Stepped.{after_step, fits_after}
use Rattle.node_rows.proofs.collecting.store_place.Goals as goal

pub store-requires : goal.store-requires
store-requires g c =
    let z : Sizes = c.args.table.now.shared.key in
    let t = c.args.table.now.shared.table_id in
    let seat = c.args.seat.now in
    let p = c.args.place in
    let m = c.args.value in
    let may = subst (λ (n : ℕ). MayCollect z seat.number n seat.seat.me.0 (StoreAny p m) p c.args.word) c.requires.count c.requires.may in (
      c.requires.of.table,
      word_fits t z seat.seat c.args.word p c.requires.of may.word may.shown.1,
      subst (λ (y : Sizes × Step). Allows (ShowsJoined z) t.slots seat.seat.id seat.seat.me c.args.word (λ _. m) (λ _. TellsCollect y.0 y.1 seat.seat.me m)) (λ q. (sym c.requires.of.sizes q, sym c.requires.step q))
          (stores_any z t.slots seat.seat.id seat.seat.me seat.number c.args.word p m seat.fits.number may),
    )

pub invariant_of-seat : goal.invariant_of-seat
invariant_of-seat g c =
    let z = c.args.table.now.shared.key in
    let t = c.args.table.now.shared.table_id in
    let seat = c.args.seat.now in
    let e = c.store.ensures in
    record { fits = fits_after t z seat.seat c.store.new.seat _ c.requires.of e.0 e.1 e.2.0 seat.number seat.seats seat.fits }

pub returns : goal.returns
returns g c =
    let z = c.args.table.now.shared.key in
    let t = c.args.table.now.shared.table_id in
    let seat = c.args.seat.now in
    let e = c.store.ensures in
    let m = c.args.value in
    let is = subst (λ (y : Sizes × Step). c.store.new.seat.me ≡ (with_store seat.seat.me.0 ((collects y.0 y.1 seat.seat.me.0.store).moved m), seat.seat.me.1)) (λ q. (c.requires.of.sizes q, c.requires.step q)) e.2.0 in
    let s = after_step t z seat.seat c.store.new.seat _ c.requires.of e.0 e.1 is e.2.1 in
    record {
      of = s.of;
      same = (s.same, refl, refl);
      view = s.view;
      known = s.known;
      has_store = subst (λ (y : Sizes). HasStore y seat.number c.store.new.seat.me.0.store) c.requires.of.sizes (e.2.2 seat.number seat.fits.number);
    }
