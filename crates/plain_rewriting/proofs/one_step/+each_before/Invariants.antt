use Rattle.std.proofs.Common.{◌-◌, length}
use Rattle.plain_rewriting.proofs.one_step.+each_before.Given as goal

abbrev pub decreases-each_before : goal.decreases-each_before
decreases-each_before l = length l.firsts.now - l.from
