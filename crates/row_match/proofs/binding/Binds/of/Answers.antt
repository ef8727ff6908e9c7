use Rattle.std.proofs.Common.{◌≤◌, ap, arith, rules}
use Rattle.term_model.specs.Tree.{nodes}
use Rattle.row_match.proofs.Room.{room_more, room_of_all}
use Rattle.row_match.proofs.binding.Binds.of.Goals as goal

pub loop-rule-init : goal.loop-rule-init
loop-rule-init c = λ k d l. absurd (omega arith)

pub loop-rule-preserved : goal.loop-rule-preserved
loop-rule-preserved c =
    room_more c.rules-rule-items.result.now c.loop-rule.rule-index c.rule-item.result c.loop-rule.room c.max-room.result c.loop-rule-test.true c.rule-item.is
    (search rules) (let n = ap nodes c.left.ensures in let m : c.node_count.result ≤ c.max-room.result = search rules in omega (arith, n, m, c.node_count.ensures.nodes)) c.loop-rule.invariant

pub returns-clause-room : goal.returns-clause-room
returns-clause-room c =
    room_of_all c.args.plan.now.rules c.rules-rule-items.result.now c.loop-rule.rule-index c.loop-rule.room c.rules-rule-items.ensures.rules (omega (arith, c.loop-rule-test.false)) c.loop-rule.invariant
