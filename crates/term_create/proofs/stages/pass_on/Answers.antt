use Rattle.std.proofs.Common.{ap}
use Rattle.store_model.specs.declared.view.Call.TheVariants.{Passing}
use Rattle.node_rows.specs.declared.view.NodeView.{NodeView}
use Rattle.term_create.specs.Stage.{content}
use Rattle.term_create.proofs.Staged.{at_stage, moved_at}
use Rattle.term_create.proofs.stages.pass_on.Goals as goal

pub returns : goal.returns
returns g c =
    let a = c.args.asked.now in
    let v = c.args.seat.now.seat.me.0 in
    let s = c.go_load.new.seat in
    let n = c.go_load.result in
    let e = c.go_load.ensures in
    let d = c.args.walk in
    let o = c.requires.stage in
    record {
      at = at_stage a s.seat e.of e.known;
      same = record { same = e.same.0; number = e.same.1; seats = e.same.2 };
      view = record { word = o.word; found = o.found; differs = o.differs; view = moved_at v s.seat.me.0 (Passing (content a) d.drawn d.from d.old c.args.at (o.word, o.found)) n (ap (λ (q : NodeView). q.store.call) o.view) e.view };
      tick = c.tick.ensures;
    }
