use Rattle.row_sweep.proofs.Worded.{there_as, word_as}
use Rattle.store_model.specs.declared.view.Place.TheVariants.{Next}
use Rattle.row_sweep.proofs.reading.next_of.Goals as goal

pub reload-requires : goal.reload-requires
reload-requires c = record {
  at = c.requires.at;
  loaded = c.requires.at.all.nexts c.args.row c.requires.below;
  there = there_as c.args.sweep.now Next c.from.result c.args.row c.from.ensures c.next_place-word.ensures.there;
  word = word_as c.args.sweep.now Next c.from.result c.args.row c.from.ensures c.next_place-word.result c.next_place-word.ensures.word;
}

pub returns : goal.returns
returns c = record {
  at = c.reload.ensures.at;
  again = c.reload.ensures.again;
  value = c.reload.ensures.value;
}
