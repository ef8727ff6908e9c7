use Rattle.std.proofs.Common.{◌≡◌, ◌+◌, ◌-◌, ◌≤◌, length, drop}
use Rattle.term_syntax.specs.Tokens.{front_length}
use Rattle.tree_text.specs.NameBytes.{continues_name}
use Rattle.term_syntax.proofs.scanner.name_end.Given as goal

abbrev pub invariant-loop-at : goal.invariant-loop-at
invariant-loop-at l = record {
  within : l.at ≤ length l.bytes;
  counted : l.at + front_length continues_name (drop l.at l.bytes) ≡ l.start + front_length continues_name (drop l.start l.bytes);
}

abbrev pub decreases-loop-at : goal.decreases-loop-at
decreases-loop-at l = length l.bytes - l.at
