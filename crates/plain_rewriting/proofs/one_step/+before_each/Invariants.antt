use Rattle.std.proofs.Common.{◌-◌, length}
use Rattle.plain_rewriting.proofs.one_step.+before_each.Given as goal

abbrev pub decreases-before_each : goal.decreases-before_each
decreases-before_each l = length l.rests.now - l.from
