use Rattle.std.proofs.Common.{◌≡◌, ◌-◌, ℕ, List, length}
use Rattle.innermost.specs.Trail.{IsTrail}
use Rattle.innermost.proofs.trail.follow.Given as goal

abbrev pub invariant-frames : goal.invariant-frames
invariant-frames l =
    record {
      cursor : l.trail.cursor.items ≡ l.fn.trail.cursor.items;
      at : l.at ≡ length l.trail.marks.items;
      trail : (base : List ℕ) → IsTrail l.steps base l.frames l.fn.trail → IsTrail l.steps base l.frames l.trail;
    }

abbrev pub decreases-frames : goal.decreases-frames
decreases-frames l = length l.frames - l.at
