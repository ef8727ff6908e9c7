use Rattle.std.proofs.Common.{◌-◌, length}
use Rattle.innermost.specs.Trail.{HasShared}
use Rattle.innermost.proofs.trail.find_shared.Given as goal

abbrev pub invariant-shared : goal.invariant-shared
invariant-shared l = HasShared l.from l.to l.at

abbrev pub decreases-shared : goal.decreases-shared
decreases-shared l = length l.from - l.at
