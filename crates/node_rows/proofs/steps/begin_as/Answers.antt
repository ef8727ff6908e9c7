use Rattle.std.proofs.Common.{sym, subst, ◌≡◌, refl}
use Rattle.store_model.specs.declared.view.Place.TheVariants.{Bucket}
use Rattle.store_model.specs.Calls.{bucket}
use Rattle.node_rows.specs.Steps.{over, MayMake, with_store, begun}
use Rattle.term_model.specs.declared.Head.{Head}
use Rattle.std.specs.Prelude.{ℕ, List}
use Rattle.node_rows.proofs.Plays.{word_fits, begins_with}
use Rattle.node_rows.specs.Rows.{names}
use Rattle.node_rows.proofs.Stepped.{after_step, fits_after}
use Rattle.node_rows.proofs.steps.begin_as.Goals as goal

pub load-requires : goal.load-requires
load-requires g c = let f : Head = c.args.head in let rs : List ℕ = names c.args.arguments.now in (c.requires.of.table, word_fits c.args.table.now.shared.table_id c.args.table.now.shared.key c.args.seat.now.seat c.args.word (Bucket (bucket (over f rs) c.args.seat.now.seat.me.0.store.in_use)) c.requires.of c.requires.may.word c.requires.may.there, begins_with c.args.table.now.shared.key c.args.table.now.shared.table_id.slots c.args.seat.now.seat.id c.args.seat.now.seat.me c.args.seat.now.number c.args.word g.X.Wanted.head g.X.Wanted.arguments c.args.seat.now.fits.number (subst (λ (t : Head × List ℕ). MayMake c.args.table.now.shared.key c.args.seat.now.seat.me.0 t.0 t.1 c.args.word) (λ k. (sym c.requires.wanted.0 k, sym c.requires.wanted.1 k)) c.requires.may))

pub invariant_of-seat : goal.invariant_of-seat
invariant_of-seat g c =
    let z = c.args.table.now.shared.key in
    let t = c.args.table.now.shared.table_id in
    let seat = c.args.seat.now in
    let e = c.load.ensures in
    record { fits = fits_after t z seat.seat c.load.new.seat _ c.requires.of e.0 e.1 e.2.0 seat.number seat.seats seat.fits }

pub returns : goal.returns
returns g c =
    let z = c.args.table.now.shared.key in
    let t = c.args.table.now.shared.table_id in
    let seat = c.args.seat.now in
    let e = c.load.ensures in
    let is = subst (λ (y : Head × List ℕ). c.load.new.seat.me ≡ (with_store seat.seat.me.0 (begun seat.seat.me.0.store y.0 y.1 c.load.result), seat.seat.me.1)) (λ k. (c.requires.wanted.0 k, c.requires.wanted.1 k)) e.2.0 in
    let s = after_step t z seat.seat c.load.new.seat _ c.requires.of e.0 e.1 is e.2.1 in
    record {
      of = s.of;
      same = (s.same, refl, refl);
      view = s.view;
      known = s.known;
    }
