use Rattle.rec_offences.proofs.Common.{arith, length-append, common_steps, drop_at, drop_all, default_in}
use Rattle.rec_offences.proofs.Levels.{at_append}
use Rattle.rec_offences.proofs.numbered.count_rules.Goals as goal

pub loop-number-preserved : goal.loop-number-preserved
loop-number-preserved c = grind (arith, common_steps, drop_at, default_in, at_append, length-append)

pub returns : goal.returns
returns c = grind (arith, common_steps, drop_all)
