use Rattle.std.proofs.Common.{◌≡◌, true}
use Rattle.text_trials.proofs.stores.five_rows_serve_the_lists_of_two_integers.Given as goal

abbrev pub invariant-loop-number : goal.invariant-loop-number
invariant-loop-number g l = record { inside : l.store.inside ≡ true; widest : l.store.widest ≡ 2 }
