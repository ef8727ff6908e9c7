use Rattle.std.proofs.Common.{refl, ◌∙◌, rules, arith}
use Rattle.std.proofs.lemmas.Grind.{common_steps}
use Rattle.store_model.specs.declared.view.Place.TheVariants.{RowWord}
use Rattle.store_model.specs.Machine as machine
use Rattle.store_model.specs.Machine.{knowing}
use Rattle.store_core.specs.Planning.{state_seen}
use Rattle.store_model.proofs.Basics.{write_same}
use Rattle.store_core.proofs.Made.{two, made_view}
use Rattle.store_core.proofs.machine.protecting.plan_read_word.Goals as goal

pub returns : goal.returns
returns c = (
  first_of (search rules, grind (arith, common_steps)),
  tt,
  made_view c.args.sight.now (machine.ReadWord c.args.row c.args.word) c.of_nothing.result c.know.new.view c.of_nothing.ensures refl (write_same (state_seen c.args.sight.now).words (RowWord c.args.row c.args.word))
      (c.in_ok-know.ensures ∙ two (λ v n. knowing v c.args.row c.args.word n) c.args.view.now c.args.sight.now.view.now c.load-value.result ((state_seen c.args.sight.now).words (RowWord c.args.row c.args.word)) c.requires c.load-value.ensures),
)
