use Rattle.store_model.specs.Machine.{LoadRoot}
use Rattle.node_rows.specs.Steps.{place_of}
use Rattle.node_rows.proofs.Plays.{word_fits, own_roots}
use Rattle.std.proofs.Common.{refl}
use Rattle.node_rows.proofs.Stepped.{after_step, fits_after}
use Rattle.node_rows.proofs.reading.load_root_as.Goals as goal

pub load-requires : goal.load-requires
load-requires g c =
    let z = c.args.table.now.shared.key in
    let t = c.args.table.now.shared.table_id in
    let seat = c.args.seat.now in
    let may = c.requires.may in (
      c.requires.of.table,
      word_fits t z seat.seat c.args.word (place_of seat.number (LoadRoot g.X.ChosenRoot.place) seat.seat.me.0.store) c.requires.of may.word may.there,
      own_roots z t.slots seat.seat.id seat.seat.me seat.number c.args.word g.X.ChosenRoot.place seat.fits.number may,
    )

pub invariant_of-seat : goal.invariant_of-seat
invariant_of-seat g c =
    let z = c.args.table.now.shared.key in
    let t = c.args.table.now.shared.table_id in
    let seat = c.args.seat.now in
    let e = c.load.ensures in
    record { fits = fits_after t z seat.seat c.load.new.seat _ c.requires.of e.0 e.1 e.2.0.0 seat.number seat.seats seat.fits }

pub returns : goal.returns
returns g c =
    let z = c.args.table.now.shared.key in
    let t = c.args.table.now.shared.table_id in
    let seat = c.args.seat.now in
    let e = c.load.ensures in
    let s = after_step t z seat.seat c.load.new.seat _ c.requires.of e.0 e.1 e.2.0.0 e.2.0.1 in
    record {
      of = s.of;
      same = (s.same, refl, refl);
      view = s.view;
      known = s.known;
      row = e.2.1;
    }
