use Rattle.hash_buckets.specs.Hash.{mixed}
use Rattle.std.proofs.Common.{ℕ, ap, ◌∙◌}
use Rattle.row_sweep.proofs.chaining.with_argument.Goals as goal

pub returns : goal.returns
returns c = record {
  at = c.child_of-argument.ensures.at;
  again = c.child_of-argument.ensures.again;
  hash = c.with_word.ensures ∙ ap (λ (n : ℕ). mixed c.args.hash n) (c.from.ensures ∙ c.child_of-argument.ensures.value);
}
