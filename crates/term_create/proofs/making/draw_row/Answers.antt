use Rattle.std.proofs.Common.{arith, ◌≤◌, ◌<◌, ◌∙◌, ap, subst}
use Rattle.store_model.specs.declared.view.Call.TheVariants.{Counting}
use Rattle.std.proofs.lemmas.Bool.Decides.{nat_tests}
use Rattle.term_create.specs.Stage.{HoldsAllAlone, content}
use Rattle.term_create.proofs.Whole.{full_count, full_draw, count_holds, filled_before, count_fills, same_joined}
use Rattle.node_rows.specs.declared.view.NodeView.{NodeView}
use Rattle.term_create.proofs.Views.{on_call, based_on, drawing, placing}
use Rattle.term_create.proofs.making.draw_row.Goals as goal

pub returns-then-claim-count : goal.returns-then-claim-count
returns-then-claim-count g c =
    let a = c.args.asked.now in
    let seat = c.args.seat.now in
    let v = seat.seat.me.0 in
    let claim = c.read_claim-claim in
    let count = c.read_count-count in
    let t = c.if-claim-count.true in
    let l : count.result ≤ claim.result = grind (arith, nat_tests) in
    record {
      at = count.ensures.at;
      same = same_joined claim.ensures.same count.ensures.same;
      view = full_count v claim.new.seat.seat.me.0 count.new.seat.seat.me.0 (content a) c.args.from claim.result count.result claim.ensures.view count.ensures.view l;
      all = subst (HoldsAllAlone a) claim.ensures.view (count.ensures.alone l);
      filled = filled_before a seat.number claim.new.seat.number claim.ensures.same.number v claim.new.seat.seat.me.0 v.store.passed v.store.path (Counting (content a) c.args.from claim.result) claim.ensures.view (count.ensures.filled l);
      cost = omega (arith, claim.ensures.tick, count.ensures.tick);
    }

pub returns-then-index-count : goal.returns-then-index-count
returns-then-index-count g c =
    let a = c.args.asked.now in
    let seat = c.args.seat.now in
    let v = seat.seat.me.0 in
    let claim = c.read_claim-claim in
    let count = c.read_count-count in
    let index = c.draw-index in
    let t = c.if-index-count.true in
    let u = c.if-claim-count.false in
    let less : claim.result < count.result = grind (arith, nat_tests) in
    let l : count.result ≤ index.result = grind (arith, nat_tests) in
    record {
      at = index.ensures.at;
      same = same_joined (same_joined claim.ensures.same count.ensures.same) index.ensures.same;
      view = full_draw v claim.new.seat.seat.me.0 count.new.seat.seat.me.0 index.new.seat.seat.me.0 (content a) c.args.from claim.result count.result index.result claim.ensures.view count.ensures.view index.ensures.view less l;
      all = count_holds a v claim.new.seat.seat.me.0 count.new.seat.seat.me.0 (content a) c.args.from claim.result count.result claim.ensures.view count.ensures.view less (index.ensures.alone l);
      filled = count_fills a seat.number count.new.seat.number (count.ensures.same.number ∙ claim.ensures.same.number)
          v claim.new.seat.seat.me.0 count.new.seat.seat.me.0 (content a) c.args.from claim.result count.result claim.ensures.view count.ensures.view less (index.ensures.filled l);
      cost = omega (arith, claim.ensures.tick, count.ensures.tick, index.ensures.tick);
    }

pub draw-index-requires-clause-stage : goal.draw-index-requires-clause-stage
draw-index-requires-clause-stage g c =
    let v = c.args.seat.now.seat.me.0 in
    let claim = c.read_claim-claim in
    let count = c.read_count-count in
    let l : claim.result < count.result = omega (arith, c.if-claim-count.false) in
    ap (λ (q : NodeView). q.store.call) (drawing v claim.new.seat.seat.me.0 count.new.seat.seat.me.0 (content c.args.asked.now) c.args.from claim.result count.result claim.ensures.view count.ensures.view l)

pub read_place-row-requires-clause-stage : goal.read_place-row-requires-clause-stage
read_place-row-requires-clause-stage g c =
    let v = c.args.seat.now.seat.me.0 in
    let claim = c.read_claim-claim in
    let count = c.read_count-count in
    let a = content c.args.asked.now in
    let l : claim.result < count.result = omega (arith, c.if-claim-count.false) in
    let m : c.draw-index.result < count.result = omega (arith, c.if-index-count.false) in
    ap (λ (q : NodeView). q.store.call)
    (placing v count.new.seat.seat.me.0 c.draw-index.new.seat.seat.me.0 a c.args.from count.result c.draw-index.result
    (drawing v claim.new.seat.seat.me.0 count.new.seat.seat.me.0 a c.args.from claim.result count.result claim.ensures.view count.ensures.view l) c.draw-index.ensures.view m)

pub fill_row-requires-clause-based : goal.fill_row-requires-clause-based
fill_row-requires-clause-based g c =
    let v = c.args.seat.now.seat.me.0 in
    let claim = c.read_claim-claim in
    let count = c.read_count-count in
    let a = content c.args.asked.now in
    let l : claim.result < count.result = omega (arith, c.if-claim-count.false) in
    let m : c.draw-index.result < count.result = omega (arith, c.if-index-count.false) in
    based_on c.args.asked.now v c.read_place-row.new.seat.seat.me.0 _
    (on_call v c.draw-index.new.seat.seat.me.0 c.read_place-row.new.seat.seat.me.0 _ _
    (placing v count.new.seat.seat.me.0 c.draw-index.new.seat.seat.me.0 a c.args.from count.result c.draw-index.result
    (drawing v claim.new.seat.seat.me.0 count.new.seat.seat.me.0 a c.args.from claim.result count.result claim.ensures.view count.ensures.view l) c.draw-index.ensures.view m)
    c.read_place-row.ensures.view) c.requires.based

pub returns : goal.returns
returns g c =
    let v = c.args.seat.now.seat.me.0 in
    let claim = c.read_claim-claim in
    let count = c.read_count-count in
    let index = c.draw-index in
    let row = c.read_place-row in
    let fill = c.fill_row in
    let a = content c.args.asked.now in
    let l : claim.result < count.result = omega (arith, c.if-claim-count.false) in
    let m : index.result < count.result = omega (arith, c.if-index-count.false) in
    record {
      at = fill.ensures.at;
      same = same_joined (same_joined (same_joined claim.ensures.same count.ensures.same) index.ensures.same) (same_joined row.ensures.same fill.ensures.same);
      view = on_call v row.new.seat.seat.me.0 fill.new.seat.seat.me.0 _ _
          (on_call v index.new.seat.seat.me.0 row.new.seat.seat.me.0 _ _
          (placing v count.new.seat.seat.me.0 index.new.seat.seat.me.0 a c.args.from count.result index.result
          (drawing v claim.new.seat.seat.me.0 count.new.seat.seat.me.0 a c.args.from claim.result count.result claim.ensures.view count.ensures.view l) index.ensures.view m)
          row.ensures.view) fill.ensures.view;
      all = tt;
      filled = tt;
      cost = omega (arith, claim.ensures.tick, count.ensures.tick, index.ensures.tick, row.ensures.tick, fill.ensures.cost);
    }
