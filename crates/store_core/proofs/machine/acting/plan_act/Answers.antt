use Rattle.std.proofs.Common.{ap, ◌∙◌, rules, arith}
use Rattle.std.proofs.lemmas.Grind.{common_steps}
use Rattle.store_model.specs.declared.view.View.{View}
use Rattle.store_model.specs.Machine.{action}
use Rattle.store_core.proofs.Made.{went_view}
use Rattle.store_core.proofs.machine.acting.plan_act.Goals as goal

pub returns-then-word-found : goal.returns-then-word-found
returns-then-word-found c = (
  first_of (search rules, grind (arith, common_steps)),
  first_of (search rules, grind (arith, common_steps)),
  went_view c.args.sight.now c.of_nothing.result c.in_ok-place.place c.load-found.result c.in_ok-word.word c.move_on.new.view c.in_ok-place.ensures c.load-found.ensures c.in_ok-word.ensures
      (c.in_ok-move_on.ensures ∙ ap (λ (v : View). (action v v.call).moved c.load-found.result) c.requires) c.if-word-found.true c.of_nothing.ensures,
)
