use Rattle.std.proofs.Common.{◌+◌, Some, ap, subst}
use Rattle.store_model.specs.declared.view.Call.{Call}
use Rattle.store_model.specs.Machine.{arrived, widest}
use Rattle.node_rows.specs.Rows.{names}
use Rattle.node_rows.specs.declared.view.NodeView.{NodeView}
use Rattle.node_rows.specs.Steps.{Few}
use Rattle.term_create.specs.Stage.{content}
use Rattle.term_create.proofs.Told.{notes_on}
use Rattle.term_create.proofs.Whole.{same_joined}
use Rattle.term_create.proofs.Views.{based_on, lost, makes, relinks}
use Rattle.term_create.proofs.Costs.{made_cost, lost_cost}
use Rattle.term_create.proofs.making.publish_once.Goals as goal

pub publish-found-requires-clause-based : goal.publish-found-requires-clause-based
publish-found-requires-clause-based g c = based_on c.args.asked.now c.args.seat.now.seat.me.0 c.link.new.seat.seat.me.0 _ c.link.ensures.view c.requires.based

pub returns-then-found-drawn : goal.returns-then-found-drawn
returns-then-found-drawn g c =
    let d = c.args.drawn in
    let z = c.args.asked.now.store.now.sizes in
    let v = c.args.seat.now.seat.me.0 in
    let link = c.link in
    let u = c.publish-found in
    record {
      at = u.ensures.at;
      same = same_joined link.ensures.same u.ensures.same;
      view = makes v link.new.seat.seat.me.0 u.new.seat.seat.me.0 c.args.asked.now d.from d.index d.row u.result
          link.ensures.view u.ensures.view c.if-found-drawn.true c.requires.based c.requires.stage c.requires.at.known.later;
      cost = made_cost (widest z) z.rows c.args.steps.now link.new.steps u.new.steps v.store.passed
          (subst (λ (x : Call). Few z.rows v.store.passed x) c.requires.stage c.requires.at.known.few) link.ensures.tick u.ensures.tick;
    }

pub walk-requires-clause-stage : goal.walk-requires-clause-stage
walk-requires-clause-stage g c =
    let a = c.args.asked.now in
    let d = c.args.drawn in
    ap (λ (q : NodeView). q.store.call)
    (lost c.args.seat.now.seat.me.0 c.link.new.seat.seat.me.0 c.publish-found.new.seat.seat.me.0 a.head a d.from d.index d.row c.publish-found.result (a.base + d.index)
    c.link.ensures.view c.publish-found.ensures.view c.if-found-drawn.false)

pub returns-in-Some : goal.returns-in-Some
returns-in-Some g c =
    let a = c.args.asked.now in
    let d = c.args.drawn in
    let v = c.args.seat.now.seat.me.0 in
    let link = c.link in
    let p = c.publish-found in
    let u = p.new.seat.seat.me.0 in
    let w = c.walk.new.seat.seat.me.0 in
    let found = p.result in
    let e = lost v link.new.seat.seat.me.0 u a.head a d.from d.index d.row found (a.base + d.index) link.ensures.view p.ensures.view c.if-found-drawn.false in
    record {
      at = c.walk.ensures.at;
      same = same_joined link.ensures.same (same_joined p.ensures.same c.walk.ensures.same);
      view = notes_on v u w v.store.passed v.store.path (arrived (content a) (Some (d.index, d.row)) found d.from found) a.head (names a.args.now) c.in-Some.other e c.in-Some.ensures.view;
      cost = lost_cost (widest a.store.now.sizes) a.store.now.sizes.rows c.args.steps.now link.new.steps p.new.steps c.walk.new.steps v.store.passed u.store.passed
          (ap (λ (q : NodeView). q.store.passed) e) link.ensures.tick p.ensures.tick c.in-Some.ensures.cost;
    }

pub returns-in-None : goal.returns-in-None
returns-in-None g c =
    let a = c.args.asked.now in
    let d = c.args.drawn in
    let v = c.args.seat.now.seat.me.0 in
    let link = c.link in
    let p = c.publish-found in
    let u = p.new.seat.seat.me.0 in
    let w = c.walk.new.seat.seat.me.0 in
    let found = p.result in
    let e = lost v link.new.seat.seat.me.0 u a.head a d.from d.index d.row found (a.base + d.index) link.ensures.view p.ensures.view c.if-found-drawn.false in
    record {
      at = c.walk.ensures.at;
      same = same_joined link.ensures.same (same_joined p.ensures.same c.walk.ensures.same);
      view = relinks v u w (content a) (arrived (content a) (Some (d.index, d.row)) found d.from found) d.from d.index d.row found e c.in-None.ensures.view c.if-found-drawn.false;
      cost = lost_cost (widest a.store.now.sizes) w.store.passed c.args.steps.now link.new.steps p.new.steps c.walk.new.steps v.store.passed u.store.passed
          (ap (λ (q : NodeView). q.store.passed) e) link.ensures.tick p.ensures.tick c.in-None.ensures.cost;
    }
