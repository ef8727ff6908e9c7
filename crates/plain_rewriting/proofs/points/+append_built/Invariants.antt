use Rattle.std.proofs.Common.{◌-◌, length}
use Rattle.plain_rewriting.proofs.points.+append_built.Given as goal

abbrev pub decreases-append_built : goal.decreases-append_built
decreases-append_built l = length l.points.now - l.from
