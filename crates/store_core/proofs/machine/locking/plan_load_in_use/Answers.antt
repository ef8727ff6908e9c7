use Rattle.std.proofs.Common.{refl, ◌∙◌, rules, arith}
use Rattle.std.proofs.lemmas.Grind.{common_steps}
use Rattle.store_model.specs.declared.view.Place.TheVariants.{InUse}
use Rattle.store_model.specs.Machine as machine
use Rattle.store_model.specs.Machine.{ready}
use Rattle.store_core.specs.Planning.{state_seen}
use Rattle.store_model.proofs.Basics.{write_same}
use Rattle.store_core.proofs.Made.{two, made_view}
use Rattle.store_core.proofs.machine.locking.plan_load_in_use.Goals as goal

pub returns : goal.returns
returns c = (
  first_of (search rules, grind (arith, common_steps)),
  tt,
  made_view c.args.sight.now machine.LoadInUse c.of_nothing.result c.make_ready.new.view c.of_nothing.ensures refl (write_same (state_seen c.args.sight.now).words InUse)
      (c.make_ready.ensures ∙ two ready c.args.view.now c.args.sight.now.view.now c.in_ok-in_use.in_use ((state_seen c.args.sight.now).words InUse) c.requires (c.in_ok-in_use.ensures ∙ c.load.ensures)),
)
