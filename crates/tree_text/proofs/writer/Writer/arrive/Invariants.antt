use Rattle.std.proofs.Common.{◌≡◌, length}
use Rattle.tree_text.specs.Canonical.{spelling}
use Rattle.tree_text.specs.Writing.{arrive, AreHeld}
use Rattle.tree_text.proofs.writer.Writer.arrive.Given as goal

abbrev pub invariant-loop-frame : goal.invariant-loop-frame
invariant-loop-frame l = record {
  arrived : arrive (spelling l.symbols) l.self.frames l.self ≡ arrive (spelling l.symbols) l.fn.self.frames l.fn.self;
  held : AreHeld l.symbols l.self.frames;
}

abbrev pub decreases-loop-frame : goal.decreases-loop-frame
decreases-loop-frame l = length l.self.frames
