use Rattle.std.proofs.Common.{sym, ◌∙◌}
use Rattle.store_model.specs.declared.view.Place.TheVariants.{FreePlace}
use Rattle.store_model.specs.Shown.{shown}
use Rattle.store_core.proofs.Deciding.{free_here}
use Rattle.store_core.proofs.machine.claiming.is_free.Goals as goal

pub returns-then-load-from : goal.returns-then-load-from
returns-then-load-from c = sym (free_here (λ i. shown c.args.table.now.sizes c.args.table.now.words.items (FreePlace i)) c.args.count c.args.row c.loop-i.i c.loop-i-test.true (sym c.load.ensures ∙ (c.if-load-from.true ∙ c.from.ensures)))
