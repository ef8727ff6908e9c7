use Rattle.row_sweep.proofs.Worded.{there_as, word_as}
use Rattle.store_model.specs.declared.view.Place.TheVariants.{FreePlace}
use Rattle.row_sweep.proofs.Compares.{place_loaded}
use Rattle.row_sweep.proofs.reading.place_of.Goals as goal

pub reload-requires : goal.reload-requires
reload-requires c = record {
  at = c.requires.at;
  loaded = let s = c.args.seat.now in place_loaded c.args.sweep.now s.seat s.number s.seats c.requires.at c.args.i c.requires.below;
  there = there_as c.args.sweep.now FreePlace c.from.result c.args.i c.from.ensures c.free_place_word-word.ensures.there;
  word = word_as c.args.sweep.now FreePlace c.from.result c.args.i c.from.ensures c.free_place_word-word.result c.free_place_word-word.ensures.word;
}

pub returns : goal.returns
returns c = record {
  at = c.reload.ensures.at;
  again = c.reload.ensures.again;
  value = c.reload.ensures.value;
}
