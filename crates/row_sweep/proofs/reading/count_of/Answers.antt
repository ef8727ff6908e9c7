use Rattle.std.proofs.Common.{ap, arith}
use Rattle.store_model.specs.declared.view.Sizes.{Sizes}
use Rattle.row_sweep.proofs.Sound.{row_is_below, row_counts_few}
use Rattle.row_sweep.proofs.reading.count_of.Goals as goal

pub row_word_of-requires-clause-below : goal.row_word_of-requires-clause-below
row_word_of-requires-clause-below c = let s = c.args.seat.now in row_is_below c.args.sweep.now s.seat s.number s.seats c.requires.at c.args.row c.requires.reached

pub overflow_cast-result : goal.overflow_cast-result
overflow_cast-result c =
    let s = c.args.seat.now in
    let e = c.row_word_of.ensures.value in
    let f = row_counts_few c.args.sweep.now s.seat s.number s.seats c.requires.at c.args.row c.requires.reached in
    let d = ap (λ (z : Sizes). z.arity) c.args.sweep.now.at.told in
    let m = c.args.sweep.now.may.arity in omega arith

pub returns : goal.returns
returns c = record {
  at = c.row_word_of.ensures.at;
  again = c.row_word_of.ensures.again;
  value = c.row_word_of.ensures.value;
  few = let s = c.args.seat.now in let e = c.row_word_of.ensures.value in let f = row_counts_few c.args.sweep.now s.seat s.number s.seats c.requires.at c.args.row c.requires.reached in omega arith;
}
