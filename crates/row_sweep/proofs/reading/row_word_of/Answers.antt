use Rattle.row_sweep.proofs.Worded.{there_as, word_as}
use Rattle.store_model.specs.declared.view.Place.TheVariants.{RowWord}
use Rattle.std.proofs.Common.{ℕ}
use Rattle.row_sweep.proofs.reading.row_word_of.Goals as goal

pub reload-requires : goal.reload-requires
reload-requires c = record {
  at = c.requires.at;
  loaded = c.requires.at.all.row_words c.args.row c.args.k c.requires.below c.requires.within;
  there = there_as c.args.sweep.now (λ (r : ℕ). RowWord r c.args.k) c.from.result c.args.row c.from.ensures c.word_in-word.ensures.there;
  word = word_as c.args.sweep.now (λ (r : ℕ). RowWord r c.args.k) c.from.result c.args.row c.from.ensures c.word_in-word.result c.word_in-word.ensures.word;
}

pub returns : goal.returns
returns c = record {
  at = c.reload.ensures.at;
  again = c.reload.ensures.again;
  value = c.reload.ensures.value;
}
