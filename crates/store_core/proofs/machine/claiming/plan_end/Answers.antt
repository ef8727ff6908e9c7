use Rattle.std.proofs.Common.{refl, ap, ◌∙◌, rules, arith}
use Rattle.std.proofs.lemmas.Grind.{common_steps}
use Rattle.store_model.specs.declared.view.Place.TheVariants.{Base, InUse, Claim}
use Rattle.store_model.specs.declared.view.View.{View}
use Rattle.store_model.specs.Machine as machine
use Rattle.store_core.specs.Planning.{state_seen}
use Rattle.store_core.proofs.Made.{made_word}
use Rattle.std.specs.Prelude.{IsTrue, pred}
use Rattle.store_model.specs.Collection.{collected}
use Rattle.store_core.proofs.machine.claiming.plan_end.Goals as goal

pub returns : goal.returns
returns c = λ s ending.
    let w = (state_seen c.args.sight.now).words in
    let yes : IsTrue c.in_ok-may_end.field-0 = first_of (search rules, grind (arith, common_steps)) in (
      (c.in_ok-may_end.ensures s c.args.sight.now.seat ending).0 yes,
      first_of (search rules, grind (arith, common_steps)),
      made_word c.args.sight.now machine.StoreClaim c.of_word.result Claim 0 c.collect.new.view c.of_word.ensures refl refl
          (c.in_ok-collect.ensures ∙ (ap (λ (v : View). collected v ((state_seen c.args.sight.now).words Base) (pred ((state_seen c.args.sight.now).words Base)) ((state_seen c.args.sight.now).words InUse) c.in_ok-kept.kept) c.requires
          ∙ ap (collected c.args.sight.now.view.now (w Base) (pred (w Base)) (w InUse)) c.in_ok-kept.ensures)),
    )
