use Rattle.term_file.specs.Walking.{Fits}
use Rattle.term_file.proofs.Walks.{begun, popped}
use Rattle.term_file.proofs.walk.visited_from.Goals as goal

pub loop-frame-init : goal.loop-frame-init
loop-frame-init c =
    let b = begun c.args.table.now c.arguments-arguments.ensures.lesser c.args.root c.requires c.clear.new.self.items c.push.new.self.items c.clear.ensures.items c.in_ok-push.ensures.items in
    record { comes = b.comes c.args.came; fit = b.fit }

pub step-requires-clause-fits : goal.step-requires-clause-fits
step-requires-clause-fits c = (popped (Fits c.args.table.now) c.loop-frame.frames.items c.pop.new.self.items c.in-Some.frame c.in-Some.ensures.items c.loop-frame.invariant.fit).1
