use Rattle.std.proofs.Common.{refl, ◌∙◌, rules, arith}
use Rattle.std.proofs.lemmas.Grind.{common_steps}
use Rattle.store_model.specs.declared.view.Place.TheVariants.{Root}
use Rattle.store_model.specs.Machine as machine
use Rattle.store_model.specs.Machine.{with_got}
use Rattle.store_core.specs.Planning.{state_seen}
use Rattle.store_model.proofs.Basics.{write_same}
use Rattle.store_core.proofs.Made.{two, made_view}
use Rattle.store_core.proofs.machine.protecting.plan_load_root.Goals as goal

pub returns : goal.returns
returns c = (
  first_of (search rules, grind (arith, common_steps)),
  tt,
  made_view c.args.sight.now (machine.LoadRoot c.args.k) c.of_nothing.result c.add_got.new.view c.of_nothing.ensures refl (write_same (state_seen c.args.sight.now).words (Root c.args.sight.now.seat c.args.k))
      (c.in_ok-add_got.ensures ∙ two with_got c.args.view.now c.args.sight.now.view.now c.in_ok-row.row ((state_seen c.args.sight.now).words (Root c.args.sight.now.seat c.args.k)) c.requires (c.in_ok-row.ensures ∙ c.load.ensures)),
)
