use Rattle.std.proofs.Common.{ℕ, refl, ap, ◌∙◌, rules, arith}
use Rattle.std.proofs.lemmas.Grind.{common_steps}
use Rattle.store_model.specs.Machine as machine
use Rattle.store_model.specs.Machine.{with_call}
use Rattle.store_model.specs.declared.view.View.{View}
use Rattle.store_core.specs.Planning.{state_seen}
use Rattle.store_model.proofs.Basics.{write_same}
use Rattle.store_core.proofs.Made.{made_view}
use Rattle.std.proofs.Common.{◌++◌, ◌∷◌, []}
use Rattle.store_model.specs.Steps.{loading, loads}
use Rattle.store_core.proofs.machine.collecting.plan_load_any.Goals as goal

pub returns : goal.returns
returns c =
    let g = c.args.sight.now in (
      first_of (search rules, grind (arith, common_steps)),
      tt,
      made_view g (machine.LoadAny c.args.place) c.of_nothing.result c.add_load.new.view c.of_nothing.ensures refl (write_same (state_seen c.args.sight.now).words c.args.place)
          (c.in_ok-add_load.ensures ∙ (ap (λ (v : View). with_call v (loading c.args.sight.now.table.now.sizes (loads v.call ++ (c.args.place, c.load-value.result) ∷ []))) c.requires ∙ ap (λ (n : ℕ). with_call c.args.sight.now.view.now (loading c.args.sight.now.table.now.sizes (loads c.args.sight.now.view.now.call ++ (c.args.place, n) ∷ []))) c.load-value.ensures)),
    )
