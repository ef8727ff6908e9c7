use Rattle.std.proofs.Common.{ℕ}
use Rattle.store_model.specs.declared.view.Place.{Place}
use Rattle.store_model.specs.Shown.{shown}
use Rattle.store_core.proofs.Outcomes.{at_false, at_true}
use Rattle.store_core.proofs.Reached.{halfway_root, protected_past}
use Rattle.store_core.proofs.machine.reached.with_protected.Goals as goal

pub returns-then-not-branch : goal.returns-then-not-branch
returns-then-not-branch c =
    let z = c.args.table.now.sizes in
    let w : Place → ℕ = shown z c.args.table.now.words.items in
    protected_past z w c.loop-seat.seat (at_false _ _ _ c.if-not-branch.true c.in_ok-mark_list.ensures)

pub loop-seat-preserved : goal.loop-seat-preserved
loop-seat-preserved c =
    let z = c.args.table.now.sizes in
    let w : Place → ℕ = shown z c.args.table.now.words.items in
    let m = c.loop-seat in
    let n = c.mark_list.new.marking in
    halfway_root z w m.seat m.marking.marked.items n.marked.items m.marking.waiting.items n.waiting.items m.invariant (at_true _ _ _ c.if-not-branch.false c.in_ok-mark_list.ensures)
