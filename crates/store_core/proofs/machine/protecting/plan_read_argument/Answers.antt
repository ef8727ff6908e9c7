use Rattle.std.proofs.Common.{◌≡◌, ℕ, suc, ◌-◌, refl, sym, subst, ◌∙◌, rules, arith}
use Rattle.std.proofs.lemmas.Grind.{common_steps}
use Rattle.store_model.specs.declared.view.Place.TheVariants.{RowWord}
use Rattle.store_model.specs.Machine as machine
use Rattle.store_model.specs.Machine.{with_got, knowing}
use Rattle.store_core.specs.Planning.{state_seen}
use Rattle.store_model.proofs.Basics.{write_same}
use Rattle.store_core.proofs.Made.{two, made_view}
use Rattle.store_core.proofs.machine.protecting.plan_read_argument.Goals as goal

pub returns : goal.returns
returns c =
    let g = c.args.sight.now in
    let w = (state_seen c.args.sight.now).words in
    let same : suc (suc (c.args.word - 2)) ≡ c.args.word = (let l = c.requires.word in omega arith) in
    let view : c.add_got.new.view ≡ with_got (knowing c.args.sight.now.view.now c.args.row c.args.word ((state_seen c.args.sight.now).words (RowWord c.args.row c.args.word))) ((state_seen c.args.sight.now).words (RowWord c.args.row c.args.word)) =
    c.in_ok-add_got.ensures ∙ two with_got c.know.new.view (knowing c.args.sight.now.view.now c.args.row c.args.word ((state_seen c.args.sight.now).words (RowWord c.args.row c.args.word))) c.in_ok-argument.argument ((state_seen c.args.sight.now).words (RowWord c.args.row c.args.word))
    (c.in_ok-know.ensures ∙ two (λ v n. knowing v c.args.row c.args.word n) c.args.view.now c.args.sight.now.view.now c.load-value.result ((state_seen c.args.sight.now).words (RowWord c.args.row c.args.word)) c.requires.own c.load-value.ensures)
    (c.in_ok-argument.ensures ∙ c.load-value.ensures) in (
      first_of (search rules, grind (arith, common_steps)),
      tt,
      made_view g (machine.ReadArgument c.args.row (c.args.word - 2)) c.of_nothing.result c.add_got.new.view c.of_nothing.ensures refl (write_same w (RowWord c.args.row (suc (suc (c.args.word - 2)))))
          (subst (λ (m : ℕ). c.add_got.new.view ≡ with_got (knowing c.args.sight.now.view.now c.args.row m ((state_seen c.args.sight.now).words (RowWord c.args.row m))) ((state_seen c.args.sight.now).words (RowWord c.args.row m))) (sym same) view),
    )
