use Rattle.std.proofs.Common.{◌-◌, length}
use Rattle.plain_rewriting.proofs.one_step.+at_root.Given as goal

abbrev pub decreases-at_root : goal.decreases-at_root
decreases-at_root l = length l.rules.now - l.from
