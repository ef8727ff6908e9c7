use Rattle.std.proofs.Common.{ℕ, ◌<◌, [], arith}
use Rattle.store_model.specs.declared.view.Place.TheVariants.{RootCount, Root}
use Rattle.store_model.specs.Shown.{shown}
use Rattle.store_core.proofs.Naming.{root_named, marked_more}
use Rattle.store_core.proofs.machine.naming.Naming.mark_protected.Goals as goal

pub visit-requires : goal.visit-requires
visit-requires c =
    let w = shown c.args.table.now.sizes c.args.table.now.words.items in
    let below : c.loop-k.k < shown c.args.table.now.sizes c.args.table.now.words.items (RootCount c.args.seat) = (let a = c.load.ensures in let b = c.in_ok-count.ensures in let t = c.loop-k-test.true in omega arith) in
    root_named w c.args.seat c.args.view.now c.loop-k.k c.load-row.result below c.load-row.ensures

pub loop-k-preserved : goal.loop-k-preserved
loop-k-preserved c =
    let i = c.loop-k.invariant in
    let v = c.in_ok-visit.ensures in
    let f : ℕ → ℕ = (λ j. shown c.args.table.now.sizes c.args.table.now.words.items (Root c.args.seat j)) in
    record {
      kept = λ r m. v.visits.kept r (i.kept r m);
      marked = marked_more c.loop-k.self.marks.items c.visit.new.self.marks.items f c.loop-k.k c.load-row.result v.visits.kept i.marked v.marked c.load-row.ensures;
      halfway = λ h. v.halfway [] (i.halfway h);
    }
