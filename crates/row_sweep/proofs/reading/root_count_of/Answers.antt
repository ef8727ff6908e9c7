use Rattle.row_sweep.proofs.Worded.{there_in, word_at}
use Rattle.store_model.specs.declared.view.Place.TheVariants.{RootCount}
use Rattle.std.proofs.Common.{ap, arith}
use Rattle.store_model.specs.declared.view.Sizes.{Sizes}
use Rattle.row_sweep.proofs.Gathering.{root_words_few}
use Rattle.row_sweep.proofs.reading.root_count_of.Goals as goal

pub overflow_cast-result : goal.overflow_cast-result
overflow_cast-result c = let s = c.args.seat.now in let e = c.reload.ensures.value in let f = root_words_few c.args.sweep.now s.seat s.number s.seats c.requires.at c.args.j c.requires.below in let d = ap (λ (z : Sizes). z.depth) c.args.sweep.now.at.told in let m = c.args.sweep.now.may.depth in omega arith

pub returns : goal.returns
returns c = record {
  at = c.reload.ensures.at;
  again = c.reload.ensures.again;
  value = c.reload.ensures.value;
  few = let s = c.args.seat.now in let e = c.reload.ensures.value in let f = root_words_few c.args.sweep.now s.seat s.number s.seats c.requires.at c.args.j c.requires.below in omega arith;
}

pub reload-requires : goal.reload-requires
reload-requires c = record {
  at = c.requires.at;
  loaded = c.requires.at.all.root_counts c.args.j c.requires.below;
  there = there_in c.args.sweep.now (RootCount c.args.j) c.root_count_word-word.ensures.there;
  word = word_at c.args.sweep.now (RootCount c.args.j) c.root_count_word-word.result c.root_count_word-word.ensures.word;
}
