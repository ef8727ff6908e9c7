use Rattle.std.proofs.Common.{◌-◌, length}
use Rattle.plain_rewriting.proofs.outward.+use_first.Given as goal

abbrev pub decreases-use_first : goal.decreases-use_first
decreases-use_first l = length l.rules.now - l.from
