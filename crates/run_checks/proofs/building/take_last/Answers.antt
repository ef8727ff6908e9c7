use Rattle.std.proofs.Common.{◌-◌, arith}
use Rattle.term_file.proofs.Pushing.{cut_last}
use Rattle.run_checks.proofs.building.take_last.Goals as goal

pub returns : goal.returns
returns c =
    let size = c.len.ensures in
    let count = c.requires in
    cut_last c.args.stack.now.items c.deref.result.now c.in_ok-taken.taken.items c.truncate.new.self.items (c.len.result - c.args.count) c.args.count c.deref.ensures.value (omega (arith, size, count)) (c.in_ok-taken.ensures.items_if_clones_equal (λ x y e. e)) c.truncate.ensures.items
