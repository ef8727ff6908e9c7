use Rattle.rec_offences.proofs.Common.{arith, rules, on_ok_weaker}
use Rattle.rec_offences.specs.Grouped.{used_group}
use Rattle.rec_offences.proofs.Leasts.{noted_after, three_after, last_first}
use Rattle.rec_offences.proofs.checking.note_used.Goals as goal

pub returns : goal.returns
unfolding used_group
returns c = search (rules, arith, on_ok_weaker, three_after, noted_after, last_first)
