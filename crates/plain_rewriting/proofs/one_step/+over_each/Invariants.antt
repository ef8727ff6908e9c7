use Rattle.std.proofs.Common.{◌-◌, length}
use Rattle.plain_rewriting.proofs.one_step.+over_each.Given as goal

abbrev pub decreases-over_each : goal.decreases-over_each
decreases-over_each l = length l.args.now - l.from
