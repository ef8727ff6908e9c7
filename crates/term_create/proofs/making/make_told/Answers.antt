use Rattle.std.proofs.Common.{ℕ, refl, sym, ap, subst}
use Rattle.atomic_table.specs.declared.shared.Seat.{Seat}
use Rattle.store_model.specs.Machine.{widest}
use Rattle.store_model.specs.declared.view.Call.TheVariants.{Linking}
use Rattle.node_rows.specs.Rows.{names}
use Rattle.node_rows.specs.declared.view.NodeView.{NodeView}
use Rattle.node_rows.specs.Steps.{over, IsOf, Known}
use Rattle.term_create.specs.Stage.{Notes, SameSeat}
use Rattle.term_create.proofs.Costs.{told_cost}
use Rattle.term_create.proofs.Whole.{same_joined}
use Rattle.term_create.proofs.Told.{notes_on, noted_below, full_tells}
use Rattle.term_create.proofs.making.make_told.Goals as goal

pub tell-requires : goal.tell-requires
tell-requires g c =
    let f = c.args.head in
    let rs = names c.args.args.now in
    let v = c.args.pass.now.seat.seat.me.0 in
    let d = c.in-Ok.drawn in
    let n = c.publish_row-noted in
    noted_below c.args.store.now.sizes v n.new.seat.seat.me.0 f rs n.result c.requires.stay n.ensures.at.known
    (notes_on v c.draw_row.new.seat.seat.me.0 n.new.seat.seat.me.0 v.store.passed v.store.path (Linking (over f rs) d.from d.index d.row) f rs n.result c.in-Ok.ensures.view n.ensures.view)

pub returns-in-Ok : goal.returns-in-Ok
returns-in-Ok g c =
    let f = c.args.head in
    let rs = names c.args.args.now in
    let p = c.args.pass.now in
    let v = p.seat.seat.me.0 in
    let d = c.in-Ok.drawn in
    let n = c.publish_row-noted in
    let was = c.in-Ok.ensures in
    let e = c.tell.ensures in
    let z = c.args.store.now.sizes in
    let t = c.args.store.now.table.shared in
    let notes = notes_on v c.draw_row.new.seat.seat.me.0 n.new.seat.seat.me.0 v.store.passed v.store.path (Linking (over f rs) d.from d.index d.row) f rs n.result was.view n.ensures.view in
    let same = same_joined was.same n.ensures.same in
    record {
      of = subst (λ (s : Seat (Unit {0}) NodeView). IsOf t.table_id t.key s) (sym e.same.0) n.ensures.at.of;
      known = subst (λ (u : NodeView). Known z u.store) (sym e.view) n.ensures.at.known;
      same = subst (λ (y : Seat (Unit {0}) NodeView × ℕ × ℕ). SameSeat p.seat.seat y.0 p.seat.number y.1 p.seat.seats y.2) (λ k. (sym e.same.0 k, sym e.same.1 k, sym e.same.2 k)) same;
      loaded = e.loaded;
      told = e.told v f rs c.requires.told notes;
      view = (n.result, e.row, subst (λ (u : NodeView). Notes v u f rs n.result) (sym e.view) notes);
      all = tt;
      filled = tt;
      cost = told_cost (widest z) z.rows c.args.steps.now c.draw_row.new.steps n.new.steps v.store.passed c.draw_row.new.seat.seat.me.0.store.passed z.rows
          (ap (λ (u : NodeView). u.store.passed) was.view) was.cost n.ensures.cost;
    }

pub returns-in-Err : goal.returns-in-Err
returns-in-Err g c =
    let p = c.args.pass.now in
    let e = c.in-Err.ensures in
    record {
      of = e.at.of;
      known = e.at.known;
      same = e.same;
      loaded = (refl, refl);
      told = full_tells p.seat.seat.me.0 c.draw_row.new.seat.seat.me.0 c.args.head (names c.args.args.now) c.args.from p.rows p.seen p.last p.marks c.requires.told e.view;
      view = e.view;
      all = e.all;
      filled = e.filled;
      cost = e.cost;
    }
