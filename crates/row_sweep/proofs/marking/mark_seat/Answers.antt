use Rattle.std.proofs.Common.{ℕ, ◌+◌, sym, ap, subst, arith}
use Rattle.store_model.specs.declared.view.Place.{Place}
use Rattle.store_model.specs.declared.view.Place.TheVariants.{RootCount}
use Rattle.row_sweep.specs.Gathered.{sizes_of, words_of}
use Rattle.row_sweep.specs.Marked.{MarksTo}
use Rattle.row_sweep.specs.Read.{again_in_turn}
use Rattle.row_sweep.proofs.Reaches.{marks_seat}
use Rattle.row_sweep.proofs.marking.mark_seat.Goals as goal

pub loop-k-init : goal.loop-k-init
loop-k-init c = let s = c.args.seat.now in record {
  at = c.root_count_of-count.ensures.at;
  again = c.root_count_of-count.ensures.again;
  marks = c.requires.marks;
}

pub mark_one-requires-clause-within : goal.mark_one-requires-clause-within
mark_one-requires-clause-within c = let w = ap (λ (f : Place → ℕ). f (RootCount c.args.j)) c.loop-k.invariant.again.words in let e = c.root_count_of-count.ensures.value in omega arith

pub mark_one-requires-clause-marks : goal.mark_one-requires-clause-marks
mark_one-requires-clause-marks c =
    let i = c.loop-k.invariant in
    subst (λ (w : Place → ℕ). MarksTo w (sizes_of c.args.sweep.now).rows c.args.j c.loop-k.k c.loop-k.marks) (sym i.again.words) i.marks

pub loop-k-preserved : goal.loop-k-preserved
loop-k-preserved c =
    let a = c.args.seat.now in
    let t = c.loop-k.seat in
    let s = c.mark_one.new.seat in
    let i = c.loop-k.invariant in
    let e = c.mark_one.ensures in record {
      at = e.at;
      again = again_in_turn c.args.sweep.now a.seat a.number a.seats t.seat t.number t.seats s.seat s.number s.seats i.again e.again;
      marks = subst (λ (w : Place → ℕ). MarksTo w (sizes_of c.args.sweep.now).rows c.args.j (c.loop-k.k + 1) c.mark_one.new.marks) i.again.words e.marks;
    }

pub returns : goal.returns
returns c =
    let s = c.args.seat.now in
    let z = sizes_of c.args.sweep.now in
    let e = c.root_count_of-count.ensures.value in
    record {
      at = c.loop-k.invariant.at;
      again = c.loop-k.invariant.again;
      marks = marks_seat (words_of s.seat) z.rows c.args.j c.loop-k.marks (subst (λ (k : ℕ). MarksTo (words_of s.seat) z.rows c.args.j k c.loop-k.marks) (omega arith) c.loop-k.invariant.marks);
    }
