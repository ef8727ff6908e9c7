use Rattle.row_sweep.proofs.Worded.{there_as, word_as}
use Rattle.store_model.specs.declared.view.Place.TheVariants.{Root}
use Rattle.row_sweep.proofs.loading.load_root.Goals as goal

pub load-requires : goal.load-requires
load-requires c =
    let s = c.args.sweep.now in
    record {
      at = c.requires.at;
      there = there_as s (Root c.args.j) c.from.result c.args.k c.from.ensures c.root_word-word.ensures.there;
      word = word_as s (Root c.args.j) c.from.result c.args.k c.from.ensures c.root_word-word.result c.root_word-word.ensures.word;
    }

pub returns : goal.returns
returns c = record { at = c.load.ensures.at; more = c.load.ensures.more; loaded = (c.load.result, c.load.ensures.loaded) }
