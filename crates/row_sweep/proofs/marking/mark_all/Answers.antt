use Rattle.std.proofs.Common.{◌≡◌, ℕ, ◌+◌, Bool, false, List, sym, ap, ◌∙◌, subst, arith}
use Rattle.std.specs.Prelude.{replicate}
use Rattle.store_model.specs.declared.view.Sizes.{Sizes}
use Rattle.store_model.specs.declared.view.Place.{Place}
use Rattle.row_sweep.specs.Gathered.{sizes_of, words_of}
use Rattle.row_sweep.specs.Marked.{MarksTo}
use Rattle.row_sweep.specs.Read.{again_itself, again_in_turn}
use Rattle.row_sweep.proofs.Reaches.{marks_none, marks_reached}
use Rattle.row_sweep.proofs.Sound.{protected_below}
use Rattle.row_sweep.proofs.marking.mark_all.Goals as goal

pub loop-j-init : goal.loop-j-init
loop-j-init c = let s = c.args.seat.now in let z = sizes_of c.args.sweep.now in record {
  at = c.requires.at;
  again = again_itself c.args.sweep.now s.seat s.number s.seats;
  marks = subst (λ (m : List Bool). MarksTo (words_of s.seat) z.rows 0 0 m) (sym (c.clear.ensures ∙ ap (λ (n : ℕ). replicate n false) c.requires.size)) (marks_none (words_of s.seat) z.rows);
}

pub mark_seat-requires-clause-marks : goal.mark_seat-requires-clause-marks
mark_seat-requires-clause-marks c =
    let i = c.loop-j.invariant in
    subst (λ (w : Place → ℕ). MarksTo w (sizes_of c.args.sweep.now).rows c.loop-j.j 0 c.loop-j.marks) (sym i.again.words) i.marks

pub loop-j-preserved : goal.loop-j-preserved
loop-j-preserved c =
    let a = c.args.seat.now in
    let t = c.loop-j.seat in
    let s = c.mark_seat.new.seat in
    let i = c.loop-j.invariant in
    let e = c.mark_seat.ensures in record {
      at = e.at;
      again = again_in_turn c.args.sweep.now a.seat a.number a.seats t.seat t.number t.seats s.seat s.number s.seats i.again e.again;
      marks = subst (λ (w : Place → ℕ). MarksTo w (sizes_of c.args.sweep.now).rows (c.loop-j.j + 1) 0 c.mark_seat.new.marks) i.again.words e.marks;
    }

pub returns : goal.returns
returns c =
    let s = c.args.seat.now in
    let z = sizes_of c.args.sweep.now in
    let d = ap (λ (y : Sizes). y.seats) c.args.sweep.now.at.told in
    let last : c.loop-j.j ≡ z.seats = omega arith in
    record {
      at = c.loop-j.invariant.at;
      again = c.loop-j.invariant.again;
      marks = marks_reached (words_of s.seat) z.rows z.seats c.loop-j.marks (subst (λ (j : ℕ). MarksTo (words_of s.seat) z.rows j 0 c.loop-j.marks) last c.loop-j.invariant.marks)
          (protected_below c.args.sweep.now s.seat s.number s.seats c.requires.at);
    }
