use Rattle.std.proofs.Common.{◌≡◌, false}
use Rattle.store_model.specs.declared.view.Place.TheVariants.{FreePlace}
use Rattle.store_model.specs.Steps.{is_free}
use Rattle.store_model.specs.Shown.{shown}
use Rattle.store_core.proofs.machine.claiming.is_free.Given as goal

abbrev pub invariant-loop-i : goal.invariant-loop-i
invariant-loop-i l = is_free (λ i. shown l.table.sizes l.table.words.items (FreePlace i)) l.i l.row ≡ false
