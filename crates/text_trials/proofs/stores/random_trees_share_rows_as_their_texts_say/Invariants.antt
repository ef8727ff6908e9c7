use Rattle.std.proofs.Common.{◌≡◌, true}
use Rattle.text_trials.proofs.stores.random_trees_share_rows_as_their_texts_say.Given as goal

abbrev pub invariant-loop : goal.invariant-loop
invariant-loop g l = record { inside : l.store.inside ≡ true; widest : l.store.widest ≡ 2 }
