use Rattle.std.proofs.Common.{arith, sym}
use Rattle.run_checks.proofs.Bound.{opened, other_count, opened_onto, all_opened}
use Rattle.run_checks.proofs.matching.open.Goals as goal

pub returns-clause-opened : goal.returns-clause-opened
returns-clause-opened c =
    sym (opened c.args.table.now c.args.number c.at.result.0 c.args.symbol c.args.count c.at.result.1.now c.at.ensures.term (omega arith) (omega arith))

pub returns-clause-pushed : goal.returns-clause-pushed
returns-clause-pushed c = opened_onto c.args.table.now c.args.number c.at.result.0 c.at.result.1.now c.args.stack.now.items c.push_all.new.stack.items c.at.ensures.term c.in_ok-push_all.ensures

pub returns-clause-stack_there : goal.returns-clause-stack_there
returns-clause-stack_there c = all_opened c.args.table.now c.at.result.1.now c.args.stack.now.items c.push_all.new.stack.items c.requires.stack_there c.at.ensures.there c.in_ok-push_all.ensures

pub returns-then-arguments-count-clause-opened : goal.returns-then-arguments-count-clause-opened
returns-then-arguments-count-clause-opened c =
    sym (other_count c.args.table.now c.args.number c.at.result.0 c.args.symbol c.args.count c.at.result.1.now c.at.ensures.term c.if-arguments-count.true)
