use Rattle.rec_check.proofs.Common.{arith, common_steps}
use Rattle.rec_reader.specs.Few.{HasFewLeftNodes}
use Rattle.rec_check.proofs.Readable.{All-at}
use Rattle.rec_check.proofs.spelling.rules_of.Goals as goal
use Rattle.rec_check.proofs.spelling.rules_of.Goals.{in-Some+in_ok-add_rules, in_default}

pub add_rules-requires-clause-few : goal.add_rules-requires-clause-few
add_rules-requires-clause-few c = grind (arith, common_steps, All-at c.args.text.now HasFewLeftNodes)

pub loop-number-preserved : goal.loop-number-preserved
loop-number-preserved c = elim c.match-specification_at.branch [ in-Some+in_ok-add_rules w ↦ grind (arith, common_steps) | in_default w ↦ grind (arith, common_steps) ]
