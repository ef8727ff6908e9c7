use Rattle.std.proofs.Common.{◌∙◌}
use Rattle.term_model.proofs.Order.{items_spelled, well_formed_spelled}
use Rattle.term_model.proofs.flattened.Flat.items.Goals as goal

pub returns-clause-items : goal.returns-clause-items
returns-clause-items c = c.deref.ensures.value ∙ items_spelled c.self.inside.items.items c.args.self.now c.self.invariant c.self.view_is

pub returns-clause-well_formed : goal.returns-clause-well_formed
returns-clause-well_formed c = well_formed_spelled c.self.inside.items.items c.args.self.now c.self.invariant c.self.view_is
