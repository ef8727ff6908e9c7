use Rattle.std.proofs.Common.{refl, ◌∙◌, rules, arith}
use Rattle.std.proofs.lemmas.Grind.{common_steps}
use Rattle.store_model.specs.declared.view.Place.TheVariants.{Base}
use Rattle.store_model.specs.Machine as machine
use Rattle.store_model.specs.Machine.{based}
use Rattle.store_core.specs.Planning.{state_seen}
use Rattle.store_model.proofs.Basics.{write_same}
use Rattle.store_core.proofs.Made.{two, made_view}
use Rattle.store_core.proofs.machine.locking.plan_load_base.Goals as goal

pub returns : goal.returns
returns c = (
  first_of (search rules, grind (arith, common_steps)),
  tt,
  made_view c.args.sight.now machine.LoadBase c.of_nothing.result c.base_on.new.view c.of_nothing.ensures refl (write_same (state_seen c.args.sight.now).words Base)
      (c.in_ok-base_on.ensures ∙ two based c.args.view.now c.args.sight.now.view.now c.load-base.result ((state_seen c.args.sight.now).words Base) c.requires c.load-base.ensures),
)
