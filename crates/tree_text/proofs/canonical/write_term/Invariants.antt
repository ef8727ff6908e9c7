use Rattle.std.proofs.Common.{◌≡◌, ◌≤◌, ◌+◌, [], length, take, reverse}
use Rattle.tree_text.specs.Canonical.{spelling}
use Rattle.tree_text.specs.Writing.{all_written, AreHeld}
use Rattle.tree_text.proofs.Writings.{writer}
use Rattle.tree_text.proofs.canonical.write_term.Given as goal

abbrev pub invariant-loop-at : goal.invariant-loop-at
invariant-loop-at l = record {
  within : l.at ≤ length l.items;
  written : all_written (spelling l.symbols) (reverse (take l.at l.items)) l.writer ≡ all_written (spelling l.symbols) (reverse l.items) (writer [] [] 0);
  held : AreHeld l.symbols l.writer.frames;
  cells : l.writer.cells + l.at ≤ length l.items;
}

abbrev pub decreases-loop-at : goal.decreases-loop-at
decreases-loop-at l = l.at
