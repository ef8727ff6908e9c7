use Rattle.term_file.proofs.Walks.{skipped, entered}
use Rattle.term_file.proofs.walk.descend.Goals as goal

pub returns-then-next-visited : goal.returns-then-next-visited
returns-then-next-visited c =
    let s = skipped c.args.table.now c.requires.lesser c.args.frames.now.items c.args.frame c.args.next c.args.visited c.requires.fit c.requires.fits c.requires.more c.requires.next c.push.new.self.items c.if-next-visited.true c.in_ok-push.ensures.items in
    record { comes = s.comes; fit = s.fit; less = s.less; memory = tt }

pub returns : goal.returns
returns c =
    let s = entered c.args.table.now c.requires.lesser c.args.frames.now.items c.args.frame c.args.next c.args.visited c.requires.fit c.requires.fits c.requires.more c.requires.next c.push.new.self.items c.push-2.new.self.items c.in_ok-push.ensures.items c.in_ok-push-2.ensures.items in
    record { comes = s.comes; fit = s.fit; less = s.less; memory = tt }
