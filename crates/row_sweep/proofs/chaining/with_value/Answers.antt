use Rattle.hash_buckets.specs.Hash.{mixed}
use Rattle.std.proofs.Common.{arith, ℕ, ap, ◌∙◌}
use Rattle.row_sweep.proofs.Sound.{row_is_below}
use Rattle.row_sweep.proofs.chaining.with_value.Goals as goal

pub row_word_of-value-requires-clause-below : goal.row_word_of-value-requires-clause-below
row_word_of-value-requires-clause-below c = let s = c.args.seat.now in row_is_below c.args.sweep.now s.seat s.number s.seats c.requires.at c.args.row c.requires.reached

pub row_word_of-value-requires-clause-within : goal.row_word_of-value-requires-clause-within
row_word_of-value-requires-clause-within c = omega arith

pub returns : goal.returns
returns c = record {
  at = c.row_word_of-value.ensures.at;
  again = c.row_word_of-value.ensures.again;
  hash = c.with_word.ensures ∙ ap (λ (n : ℕ). mixed c.args.first n) c.row_word_of-value.ensures.value;
}
