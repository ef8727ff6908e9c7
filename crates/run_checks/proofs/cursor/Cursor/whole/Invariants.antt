use Rattle.std.proofs.Common.{◌≡◌, length}
use Rattle.run_checks.specs.Held.{Grows}
use Rattle.run_checks.specs.Standing.{IsStanding, whole_of}
use Rattle.run_checks.proofs.cursor.Cursor.whole.Given as goal

abbrev pub invariant-frames : goal.invariant-frames
invariant-frames l = record {
  grows : Grows l.fn.table l.table;
  standing : IsStanding l.table l.self;
  whole : whole_of l.table l.self ≡ whole_of l.fn.table l.fn.self;
}

abbrev pub decreases-frames : goal.decreases-frames
decreases-frames l = length l.self.frames.items
