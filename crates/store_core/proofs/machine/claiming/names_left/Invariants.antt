use Rattle.std.proofs.Common.{◌≡◌}
use Rattle.store_model.specs.declared.view.Place.TheVariants.{FreePlace}
use Rattle.store_model.specs.Steps.{rows_left}
use Rattle.store_model.specs.Shown.{shown}
use Rattle.store_core.proofs.machine.claiming.names_left.Given as goal

abbrev pub invariant-loop-row : goal.invariant-loop-row
invariant-loop-row l = l.kept ≡ rows_left (λ i. shown l.table.sizes l.table.words.items (FreePlace i)) l.count l.row
