use Rattle.std.proofs.Common.{◌≡◌, ℕ, ap, sym, subst, ◌∙◌, add-one}
use Rattle.store_model.specs.Staying.{joined, joined_often}
use Rattle.store_core.proofs.machine.staying.rows_led_to.Goals as goal

pub loop-look-preserved : goal.loop-look-preserved
loop-look-preserved c =
    let ws = c.args.words.now in
    subst (λ (n : ℕ). c.in_ok-rows.rows.items ≡ joined_often ws n c.args.rows.items) (sym (add-one c.loop-look._look))
    (c.in_ok-rows.ensures ∙ ap (joined ws ws) c.loop-look.invariant)
