use Rattle.row_sweep.proofs.Worded.{there_as, word_as}
use Rattle.store_model.specs.declared.view.Place.TheVariants.{FreePlace}
use Rattle.row_sweep.proofs.loading.load_place.Goals as goal

pub load-requires : goal.load-requires
load-requires c =
    let s = c.args.sweep.now in
    record {
      at = c.requires.at;
      there = there_as s FreePlace c.from.result c.args.i c.from.ensures c.free_place_word-word.ensures.there;
      word = word_as s FreePlace c.from.result c.args.i c.from.ensures c.free_place_word-word.result c.free_place_word-word.ensures.word;
    }

pub returns : goal.returns
returns c = record { at = c.load.ensures.at; more = c.load.ensures.more; loaded = (c.load.result, c.load.ensures.loaded) }
