use Rattle.std.proofs.Common.{◌≡◌, ℕ, ◌+◌, ◌<◌, [], ◌∷◌, ◌∙◌, arith}
use Rattle.store_model.specs.declared.view.Place.TheVariants.{RowWord}
use Rattle.store_model.specs.Shown.{shown}
use Rattle.store_core.proofs.Naming.{argument_named, looked, are_marked, marked_more, visits_on}
use Rattle.store_core.proofs.machine.naming.Naming.mark_arguments.Goals as goal

pub visit-requires : goal.visit-requires
visit-requires c =
    let w = shown c.args.table.now.sizes c.args.table.now.words.items in
    let below : c.loop-k.k < shown c.args.table.now.sizes c.args.table.now.words.items (RowWord c.args.row 1) = (let a = c.load.ensures in let b = c.in_ok-count.ensures in let t = c.loop-k-test.true in omega arith) in
    argument_named w c.args.seat c.args.view.now c.args.row c.loop-k.k c.load-argument.result c.requires below c.load-argument.ensures

pub loop-k-preserved : goal.loop-k-preserved
loop-k-preserved c =
    let i = c.loop-k.invariant in
    let v = c.in_ok-visit.ensures in
    let f : ℕ → ℕ = (λ j. shown c.args.table.now.sizes c.args.table.now.words.items (RowWord c.args.row (j + 2))) in
    record {
      visits = visits_on _ c.loop-k.self.marks.items _ _ c.loop-k.self.waiting.items _ i.visits v.visits;
      marked = marked_more c.loop-k.self.marks.items c.visit.new.self.marks.items f c.loop-k.k c.load-argument.result v.visits.kept i.marked v.marked c.load-argument.ensures;
      halfway = λ h. v.halfway (c.args.row ∷ []) (i.halfway h);
    }

pub returns-clause-halfway : goal.returns-clause-halfway
returns-clause-halfway c = λ h.
    let w = shown c.args.table.now.sizes c.args.table.now.words.items in
    let count : c.in_ok-count.count ≡ shown c.args.table.now.sizes c.args.table.now.words.items (RowWord c.args.row 1) = c.in_ok-count.ensures ∙ c.load.ensures in
    looked w c.args.seat c.args.view.now c.loop-k.self.marks.items c.loop-k.self.waiting.items c.args.row (c.loop-k.invariant.halfway h)
    (are_marked w c.args.seat c.args.view.now c.loop-k.self.marks.items c.args.row c.in_ok-count.count count (λ j l. c.loop-k.invariant.marked j (let t = c.loop-k-test.false in omega arith)))
