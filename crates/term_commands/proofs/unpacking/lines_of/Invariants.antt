use Rattle.std.proofs.Common.{◌≡◌, ◌≤◌, ◌++◌, ◌&&◌, drop}
use Rattle.term_commands.specs.Unpacking.{lines, all_written}
use Rattle.term_commands.proofs.unpacking.lines_of.Given as goal

-- with the lines that are left it is all
abbrev pub invariant-loop-root : goal.invariant-loop-root
invariant-loop-root l = record {
  written : l.written ≤ 16777216;
  text : l.text.items ++ lines l.written l.shared.symbols (drop l.root l.shared.trees) ≡ lines 0 l.shared.symbols l.shared.trees;
  whole : (l.whole && all_written l.written (drop l.root l.shared.trees)) ≡ all_written 0 l.shared.trees;
}
