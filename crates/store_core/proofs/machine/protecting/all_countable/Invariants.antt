use Rattle.std.proofs.Common.{◌⊎◌, ℕ, ◌<◌}
use Rattle.store_model.specs.declared.view.Place.TheVariants.{Root}
use Rattle.store_model.specs.Shown.{shown}
use Rattle.store_core.specs.Naming.{IsMarked}
use Rattle.store_core.proofs.machine.protecting.all_countable.Given as goal

abbrev pub invariant-loop-k : goal.invariant-loop-k
invariant-loop-k l = (j : ℕ) → j < l.k → (j < l.sight.view.now.root_count) ⊎ IsMarked l.marks (shown l.sight.table.now.sizes l.sight.table.now.words.items (Root l.sight.seat j))
