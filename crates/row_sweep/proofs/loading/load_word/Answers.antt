use Rattle.row_sweep.proofs.Worded.{of_store, there_in, word_at}
use Rattle.store_model.specs.Shown.{index_of}
use Rattle.store_model.specs.Machine.{widest}
use Rattle.store_model.specs.declared.view.Place.TheVariants.{RowWord}
use Rattle.store_model.specs.declared.view.Sizes.{Sizes}
use Rattle.std.proofs.Common.{◌≡◌, ◌<◌, ◌+◌}
use Rattle.row_sweep.proofs.loading.load_word.Goals as goal

pub word_from-word-requires : goal.word_from-word-requires
word_from-word-requires c =
    let s = c.args.sweep.now in
    record {
      store = s.at.small;
      row = of_store s (λ (z : Sizes). c.args.row < z.rows) c.requires.below;
      within = of_store s (λ (z : Sizes). c.args.k < widest z + 2) c.requires.within;
      first = of_store s (λ (z : Sizes). c.args.first ≡ index_of z (RowWord c.args.row 0)) c.requires.first;
    }

pub load-requires : goal.load-requires
load-requires c =
    let s = c.args.sweep.now in
    record {
      at = c.requires.at;
      there = there_in s (RowWord c.args.row c.args.k) c.word_from-word.ensures.there;
      word = word_at s (RowWord c.args.row c.args.k) c.word_from-word.result c.word_from-word.ensures.word;
    }

pub returns : goal.returns
returns c = record { at = c.load.ensures.at; more = c.load.ensures.more; loaded = (c.load.result, c.load.ensures.loaded) }
