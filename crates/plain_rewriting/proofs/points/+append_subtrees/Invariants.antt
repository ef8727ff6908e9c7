use Rattle.std.proofs.Common.{◌-◌, length}
use Rattle.plain_rewriting.proofs.points.+append_subtrees.Given as goal

abbrev pub decreases-append_subtrees : goal.decreases-append_subtrees
decreases-append_subtrees l = length l.terms.now - l.from
