use Rattle.std.proofs.Common.{◌≡◌, ◌-◌, ◌≤◌, length, drop}
use Rattle.rec_reader.specs.Tokens.{tokens_from, tokens_of}
use Rattle.rec_reader.proofs.Reading.{after_tokens}
use Rattle.rec_reader.proofs.scanner.tokens.Given as goal

abbrev pub invariant-loop-at : goal.invariant-loop-at
invariant-loop-at l = record {
  within : l.at ≤ length l.bytes;
  read : after_tokens l.items.items (tokens_from l.at 0 (drop l.at l.bytes)) ≡ tokens_of l.bytes;
}

abbrev pub decreases-loop-at : goal.decreases-loop-at
decreases-loop-at l = length l.bytes - l.at
