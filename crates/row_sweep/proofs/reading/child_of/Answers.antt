use Rattle.std.proofs.Common.{◌≡◌, ℕ, suc, ◌+◌, ap, arith}
use Rattle.store_model.specs.declared.view.Sizes.{Sizes}
use Rattle.store_model.specs.declared.view.Place.TheVariants.{RowWord}
use Rattle.store_model.specs.Steps.{argument_row}
use Rattle.row_sweep.specs.Gathered.{words_of}
use Rattle.row_sweep.proofs.Sound.{row_is_below, row_counts_few}
use Rattle.row_sweep.proofs.reading.child_of.Goals as goal

pub overflow_add-j : goal.overflow_add-j
overflow_add-j c =
    let s = c.args.seat.now in
    let f = row_counts_few c.args.sweep.now s.seat s.number s.seats c.requires.at c.args.row c.requires.reached in
    let l = c.requires.below in
    let d = ap (λ (z : Sizes). z.arity) c.args.sweep.now.at.told in
    let m = c.args.sweep.now.may.arity in omega arith

pub row_word_of-requires-clause-below : goal.row_word_of-requires-clause-below
row_word_of-requires-clause-below c = let s = c.args.seat.now in row_is_below c.args.sweep.now s.seat s.number s.seats c.requires.at c.args.row c.requires.reached

pub row_word_of-requires-clause-within : goal.row_word_of-requires-clause-within
row_word_of-requires-clause-within c = let s = c.args.seat.now in let f = row_counts_few c.args.sweep.now s.seat s.number s.seats c.requires.at c.args.row c.requires.reached in let l = c.requires.below in omega arith

pub overflow_cast-result : goal.overflow_cast-result
overflow_cast-result c =
    let s = c.args.seat.now in
    let e = c.row_word_of.ensures.value in
    let two : c.args.j + 2 ≡ suc (suc c.args.j) = omega arith in
    let at = ap (λ (q : ℕ). words_of s.seat (RowWord c.args.row q)) two in
    let f = row_is_below c.args.sweep.now s.seat s.number s.seats c.requires.at (words_of s.seat (RowWord c.args.row (suc (suc c.args.j)))) (argument_row c.args.row c.args.j c.requires.reached c.requires.below) in
    let d = ap (λ (z : Sizes). z.rows) c.args.sweep.now.at.told in
    let m = c.args.sweep.now.may.rows.1 in omega arith

pub returns : goal.returns
returns c = record {
  at = c.row_word_of.ensures.at;
  again = c.row_word_of.ensures.again;
  value = c.row_word_of.ensures.value;
}
