use Rattle.std.proofs.Common.{ℕ, refl, ap, ◌∙◌, rules, arith}
use Rattle.std.proofs.lemmas.Grind.{common_steps}
use Rattle.std.specs.Prelude.{IsTrue}
use Rattle.store_model.specs.declared.view.Place.TheVariants.{Bucket}
use Rattle.store_model.specs.declared.view.View.{View}
use Rattle.store_model.specs.Machine as machine
use Rattle.store_model.specs.Machine.{begins}
use Rattle.store_core.specs.Planning.{state_seen}
use Rattle.store_model.proofs.Basics.{write_same}
use Rattle.store_core.proofs.Made.{made_view}
use Rattle.store_model.specs.Calls.{bucket}
use Rattle.store_core.proofs.machine.beginning.plan_begin.Goals as goal

pub returns : goal.returns
returns c =
    let g = c.args.sight.now in
    let yes : IsTrue c.in_ok-may_load_bucket.field-0 = first_of (search rules, grind (arith, common_steps)) in
    let may = c.in_ok-may_load_bucket.ensures.0 yes in (
      may.0,
      may.1,
      made_view g (machine.Begin c.args.content) c.of_nothing.result c.begin_walk.new.view c.of_nothing.ensures refl (write_same (state_seen c.args.sight.now).words (Bucket (bucket c.args.content c.args.sight.now.view.now.in_use)))
          (c.in_ok-begin_walk.ensures ∙ (ap (λ (v : View). (begins v c.args.content).moved c.load.result) c.requires
          ∙ ap (begins c.args.sight.now.view.now c.args.content).moved (c.load.ensures ∙ ap (λ (b : ℕ). (state_seen c.args.sight.now).words (Bucket b)) may.1))),
    )
