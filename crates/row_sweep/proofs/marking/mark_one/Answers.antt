use Rattle.std.proofs.Common.{ℕ, sym, subst}
use Rattle.mark_phase.specs.Reachable.{AddsReached, IsClosed}
use Rattle.store_model.specs.declared.view.Place.{Place}
use Rattle.store_model.specs.Steps.{ReachesByWords, protected_row}
use Rattle.row_sweep.specs.Gathered.{sizes_of, words_of}
use Rattle.row_sweep.specs.Marked.{children_of, row_of}
use Rattle.row_sweep.specs.Read.{again_in_turn}
use Rattle.row_sweep.proofs.Reaches.{closed_marks, marks_root}
use Rattle.row_sweep.proofs.marking.mark_one.Goals as goal

pub mark_root-requires-clause-reached : goal.mark_root-requires-clause-reached
mark_root-requires-clause-reached c =
    let w = words_of c.args.seat.now.seat in
    let e = c.root_of-row.ensures in
    subst (λ (u : Place → ℕ). ReachesByWords u c.root_of-row.result) (sym e.again.words) (subst (ReachesByWords w) (sym e.value) (protected_row c.args.j c.args.k c.requires.within))

pub mark_root-requires-clause-size : goal.mark_root-requires-clause-size
mark_root-requires-clause-size c = c.requires.marks.size

pub mark_root-requires-clause-closed : goal.mark_root-requires-clause-closed
mark_root-requires-clause-closed c =
    let w = words_of c.args.seat.now.seat in
    let e = c.root_of-row.ensures in
    subst (λ (u : Place → ℕ). IsClosed (children_of u) c.args.marks.now) (sym e.again.words) (closed_marks w (sizes_of c.args.sweep.now).rows c.args.j c.args.k c.args.marks.now c.requires.marks)

pub returns : goal.returns
returns c =
    let a = c.args.seat.now in
    let t = c.root_of-row.new.seat in
    let s = c.mark_root.new.seat in
    let w = words_of c.args.seat.now.seat in
    let e = c.root_of-row.ensures in
    record {
      at = c.mark_root.ensures.at;
      again = again_in_turn c.args.sweep.now a.seat a.number a.seats t.seat t.number t.seats s.seat s.number s.seats c.root_of-row.ensures.again c.mark_root.ensures.again;
      marks = marks_root w (sizes_of c.args.sweep.now).rows c.args.j c.args.k c.args.marks.now c.mark_root.new.marks c.requires.within c.requires.marks
          (subst (λ (n : ℕ). AddsReached (children_of w) (row_of n) c.args.marks.now c.mark_root.new.marks) e.value
          (subst (λ (u : Place → ℕ). AddsReached (children_of u) (row_of c.root_of-row.result) c.args.marks.now c.mark_root.new.marks) e.again.words c.mark_root.ensures.marked));
    }
