use Rattle.row_sweep.proofs.Worded.{word_at}
use Rattle.store_model.specs.declared.view.Place.TheVariants.{InUse}
use Rattle.std.proofs.Common.{refl}
use Rattle.row_sweep.proofs.loading.load_in_use.Goals as goal

pub load-requires : goal.load-requires
load-requires c =
    let s = c.args.sweep.now in
    record {
      at = c.requires.at;
      there = refl;
      word = word_at s InUse c.in_use_word-word.result c.in_use_word-word.ensures.word;
    }

pub returns : goal.returns
returns c = record { at = c.load.ensures.at; more = c.load.ensures.more; loaded = (c.load.result, c.load.ensures.loaded) }
