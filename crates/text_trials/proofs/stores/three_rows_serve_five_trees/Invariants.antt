use Rattle.std.proofs.Common.{◌≡◌, true}
use Rattle.text_trials.proofs.stores.three_rows_serve_five_trees.Given as goal

abbrev pub invariant-loop-symbol : goal.invariant-loop-symbol
invariant-loop-symbol g l = l.store.inside ≡ true
