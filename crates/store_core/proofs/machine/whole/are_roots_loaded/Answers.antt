use Rattle.std.proofs.Common.{◌≡◌, ℕ, ◌∙◌, subst, ⊎_elim, arith}
use Rattle.std.proofs.lemmas.Bool.{cases_lt}
use Rattle.store_model.specs.declared.view.Place.TheVariants.{RootCount}
use Rattle.store_model.specs.Shown.{shown}
use Rattle.store_core.specs.Lines.{LoadsLine}
use Rattle.store_core.specs.declared.machine.whole.Line.TheVariants.{Roots}
use Rattle.store_core.proofs.machine.whole.are_roots_loaded.Goals as goal

pub loop-seat-preserved : goal.loop-seat-preserved
loop-seat-preserved c =
    let w = shown c.args.table.now.sizes c.args.table.now.words.items in
    let ls = c.args.loads.now in
    let i = c.loop-seat.seat in
    let here : LoadsLine w ls (Roots i) (w (RootCount i)) = subst (λ (n : ℕ). LoadsLine w ls (Roots i) n) (c.in_ok-count.ensures ∙ c.load.ensures) c.if-not-is_line_loaded.ensures in
    λ j l. ⊎_elim (λ a. c.loop-seat.invariant j a)
    (λ a. let same : c.loop-seat.seat ≡ j = omega arith in subst (λ (k : ℕ). LoadsLine w ls (Roots k) (w (RootCount k))) same here) (cases_lt j i)
