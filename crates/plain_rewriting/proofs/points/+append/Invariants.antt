use Rattle.std.proofs.Common.{◌-◌, length}
use Rattle.plain_rewriting.proofs.points.+append.Given as goal

abbrev pub decreases-append : goal.decreases-append
decreases-append l = length l.terms.now - l.from
