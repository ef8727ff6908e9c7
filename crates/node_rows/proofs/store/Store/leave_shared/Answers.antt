use Rattle.std.proofs.Common.{◌∙◌}
use Rattle.node_rows.proofs.Tellings.{told_left_as}
use Rattle.node_rows.proofs.Entering.{ends_shared, left_last}
use Rattle.node_rows.proofs.store.Store.leave_shared.Goals as goal

pub returns : goal.returns
returns c =
    let p = c.args.pass.now in
    let v = p.seat.seat.me.0 in
    let w = c.leave_shared.new.seat.seat.me.0 in
    let e = c.leave_shared.ensures in
    let was = c.requires.of.pass in
    let t = ends_shared v w c.requires.ready.rest e.view in
    record {
      pass = record { table = e.of.0; sizes = t.sizes ∙ was.sizes; count = e.same.2 ∙ was.count; none = e.same.0.slots ∙ was.none };
      same = (e.same.0, e.same.1);
      left = t.store;
      out = record { phase = e.out; away = t.away; roots = left_last v.store w.store t.store };
      told = told_left_as v.store w.store p.rows p.seen p.last p.marks t.store;
      crowd = t.crowd;
    }
