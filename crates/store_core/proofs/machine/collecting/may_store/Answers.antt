use Rattle.std.proofs.Common.{List, ℕ, sym, subst, ◌∙◌}
use Rattle.std.specs.Prelude.{IfOk, IsTrue, ◌↔◌}
use Rattle.store_model.specs.declared.view.Place.{Place}
use Rattle.store_model.specs.declared.view.Call.{Call}
use Rattle.store_model.specs.Steps.{MayStore, IsWhole}
use Rattle.store_model.specs.Shown.{shown}
use Rattle.store_core.proofs.machine.collecting.may_store.Goals as goal

pub returns-in_ok-loads-in-Loading : goal.returns-in_ok-loads-in-Loading
returns-in_ok-loads-in-Loading c =
    let g = c.args.sight.now in
    subst (λ (x : Call). IfOk c.is_whole.result (λ b. IsTrue b ↔ MayStore g.table.now.sizes (shown g.table.now.sizes g.table.now.words.items) x)) (sym c.in-Loading.is)
    (subst (λ (ls : List (Place × ℕ)). IfOk c.is_whole.result (λ b. IsTrue b ↔ IsWhole g.table.now.sizes (shown g.table.now.sizes g.table.now.words.items) ls)) (c.as_slice.ensures.value ∙ c.in_ok-loads-in-Loading.ensures) c.is_whole.ensures)
