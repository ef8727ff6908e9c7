use Rattle.std.proofs.Common.{◌≡◌, ℕ, List, [], ◌∷◌, ◌++◌, subst, arith}
use Rattle.store_model.specs.declared.view.Place.{Place}
use Rattle.store_model.specs.Shown.{shown}
use Rattle.store_model.specs.Marks.{Halfway}
use Rattle.store_core.proofs.Outcomes.{at_false, at_true}
use Rattle.store_core.proofs.HasContents.{none_of}
use Rattle.store_core.proofs.Reached.{halfway_row, halfway_done, argument_past, no_roots}
use Rattle.store_core.proofs.machine.reached.with_arguments.Goals as goal

pub returns-then-not-branch : goal.returns-then-not-branch
returns-then-not-branch c =
    let z = c.args.table.now.sizes in
    let w : Place → ℕ = shown z c.args.table.now.words.items in
    let m = c.loop-row.marking in
    let us = c.pop.new.self.items in
    let before : Halfway z w z.seats m.marked.items (us ++ c.in-Some.row ∷ []) = subst (λ (xs : List ℕ). Halfway z w z.seats m.marked.items xs) c.in-Some.ensures.items c.loop-row.invariant in
    argument_past z w z.seats c.in-Some.row m.marked.items us before (at_false _ _ _ c.if-not-branch.true c.in_ok-mark_list.ensures)

pub loop-row-preserved : goal.loop-row-preserved
loop-row-preserved c =
    let z = c.args.table.now.sizes in
    let w : Place → ℕ = shown z c.args.table.now.words.items in
    let m = c.loop-row.marking in
    let n = c.mark_list.new.marking in
    let us = c.pop.new.self.items in
    let before : Halfway z w z.seats m.marked.items (us ++ c.in-Some.row ∷ []) = subst (λ (xs : List ℕ). Halfway z w z.seats m.marked.items xs) c.in-Some.ensures.items c.loop-row.invariant in
    halfway_row z w z.seats c.in-Some.row m.marked.items n.marked.items us n.waiting.items before (at_true _ _ _ c.if-not-branch.false c.in_ok-mark_list.ensures)

pub returns : goal.returns
returns c =
    let z = c.args.table.now.sizes in
    let w : Place → ℕ = shown z c.args.table.now.words.items in
    let m = c.loop-row.marking in
    let empty : m.waiting.items ≡ [] = none_of m.waiting.items (let e = c.in_default.ensures.cases.0 in let o = m.waiting.ok.0 in omega arith) in
    halfway_done z w (no_roots z c.args.table.now.words.items) m.marked.items (subst (λ (xs : List ℕ). Halfway z w z.seats m.marked.items xs) empty c.loop-row.invariant)
