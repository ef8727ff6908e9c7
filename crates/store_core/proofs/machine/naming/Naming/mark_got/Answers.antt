use Rattle.std.proofs.Common.{◌<◌, [], length, get_or, ◌∙◌, arith}
use Rattle.store_model.specs.Shown.{shown}
use Rattle.store_core.proofs.Naming.{got_read, get_or_any, marked_more}
use Rattle.store_core.proofs.machine.naming.Naming.mark_got.Goals as goal

pub visit-requires : goal.visit-requires
visit-requires c =
    let there : c.loop-k.k < length c.in_ok-rows.rows.items = (let e = c.in_ok-rows.rows.ok.0 in let l = c.len-k-end.ensures in let t = c.loop-k-test.true in omega arith) in
    got_read (shown c.args.table.now.sizes c.args.table.now.words.items) c.args.seat c.args.view.now c.in_ok-rows.rows.items c.loop-k.k c.index.result.now c.from.result c.in_ok-rows.ensures there c.index.ensures c.from.ensures

pub loop-k-preserved : goal.loop-k-preserved
loop-k-preserved c =
    let i = c.loop-k.invariant in
    let v = c.in_ok-visit.ensures in
    let xs = c.in_ok-rows.rows.items in
    let there : c.loop-k.k < length c.in_ok-rows.rows.items = (let e = c.in_ok-rows.rows.ok.0 in let l = c.len-k-end.ensures in let t = c.loop-k-test.true in omega arith) in
    record {
      rows = i.rows;
      marked = marked_more c.loop-k.self.marks.items c.visit.new.self.marks.items (λ j. get_or xs j 0) c.loop-k.k c.from.result v.visits.kept i.marked v.marked (c.from.ensures ∙ (c.index.ensures ∙ get_or_any xs c.loop-k.k c.index.result.now there));
      halfway = λ h. v.halfway [] (i.halfway h);
    }
