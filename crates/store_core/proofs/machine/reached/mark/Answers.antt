use Rattle.std.proofs.Common.{List, ℕ, true, false, sym, subst, set}
use Rattle.store_model.specs.Marks.{Adds}
use Rattle.store_core.proofs.MarkedPlaces.{read_mark}
use Rattle.store_core.proofs.Reached.{adds_new}
use Rattle.store_core.proofs.machine.reached.mark.Goals as goal

pub returns : goal.returns
returns c =
    let m = c.args.marking.now in
    let row = c.args.row in
    subst (λ (ws : List ℕ). Adds (λ _. row) 1 m.marked.items m.waiting.items (set m.marked.items row true) ws) (sym c.in_ok-push.ensures.items)
    (adds_new m.marked.items m.waiting.items row c.requires (read_mark m.marked.items row c.index.result.now false c.requires c.index.ensures c.if-index.false))
