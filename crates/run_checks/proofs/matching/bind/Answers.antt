use Rattle.std.proofs.Common.{arith}
use Rattle.run_checks.specs.Held.{term_at}
use Rattle.run_checks.proofs.Bound.{bound_there, newly_bound}
use Rattle.run_checks.proofs.Matches.{not_yet}
use Rattle.run_checks.proofs.matching.bind.Goals as goal

pub returns-then-place-len : goal.returns-then-place-len
returns-then-place-len c =
    bound_there c.args.table.now c.args.variable c.args.number c.index.result.now c.args.bound.now.items c.are_equal.result c.requires.bound_there (omega arith) c.index.ensures c.are_equal.ensures

pub returns-then-place-len-2 : goal.returns-then-place-len-2
returns-then-place-len-2 c = not_yet (term_at c.args.table.now) c.args.bound.now.items c.args.variable c.args.number (omega arith)

pub returns : goal.returns
returns c =
    newly_bound c.args.table.now c.args.variable c.args.number c.args.bound.now.items c.push.new.self.items c.requires.bound_there c.requires.there (omega arith) c.in_ok-push.ensures.items
