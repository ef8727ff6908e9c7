use Rattle.std.proofs.Common.{◌-◌, length}
use Rattle.plain_rewriting.proofs.points.+most_in_hand.Given as goal

abbrev pub decreases-most_in_hand : goal.decreases-most_in_hand
decreases-most_in_hand l = length l.points.now - l.from
