use Rattle.store_model.specs.declared.view.Sizes.{Sizes}
use Rattle.node_rows.proofs.Tellings.{told_left_as}
use Rattle.std.proofs.Common.{◌≤◌, vec_capacity, subst, ◌∙◌, sym, ap}
use Rattle.store_model.specs.declared.view.View.{View}
use Rattle.node_rows.proofs.Entering.{ends_exclusive, granted_closed, may_release, left_last}
use Rattle.node_rows.proofs.store.Store.leave_exclusive.Goals as goal

pub leave_exclusive-requires-clause-may : goal.leave_exclusive-requires-clause-may
leave_exclusive-requires-clause-may c =
    let seat = c.args.pass.now.seat in
    may_release seat.seat.me.0 seat.number seat.seats c.requires.ready.rest (granted_closed seat.seat.me.0.lock seat.number seat.seats seat.seat.table_id.words seat.fits c.requires.granted)

pub returns : goal.returns
returns c =
    let p = c.args.pass.now in
    let v = p.seat.seat.me.0 in
    let w = c.leave_exclusive.new.seat.seat.me.0 in
    let e = c.leave_exclusive.ensures in
    let was = c.requires.of.pass in
    let t = ends_exclusive p.seat.number p.seat.seats v w c.requires.ready.rest e.view in
    record {
      pass = record { table = e.of.0; sizes = t.sizes ∙ was.sizes; count = e.same.2 ∙ was.count; none = e.same.0.slots ∙ was.none };
      same = (e.same.0, e.same.1);
      left = t.store;
      out = record { phase = e.out.phase; away = t.away; roots = left_last v.store w.store t.store };
      told = told_left_as v.store w.store p.rows p.seen p.last p.marks t.store;
      crowd = t.crowd;
    }

pub invariant_of-pass : goal.invariant_of-pass
invariant_of-pass c =
    let p = c.args.pass.now in
    let t = ends_exclusive p.seat.number p.seat.seats p.seat.seat.me.0 c.leave_exclusive.new.seat.seat.me.0 c.requires.ready.rest c.leave_exclusive.ensures.view in
    record {
      counted = p.counted ∙ ap (λ (v : View). v.root_count) (sym t.store);
      sized = p.sized ∙ ap (λ (z : Sizes). z.rows) (sym t.sizes);
      nexts_fit = p.nexts_fit;
      heads_fit = subst (λ (z : Sizes). z.buckets ≤ vec_capacity p.heads) (sym t.sizes) p.heads_fit;
    }
