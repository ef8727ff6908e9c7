use Rattle.row_sweep.proofs.Worded.{there_in, word_at}
use Rattle.store_model.specs.declared.view.Place.TheVariants.{RootCount}
use Rattle.row_sweep.proofs.Gathering.{loaded_few}
use Rattle.row_sweep.proofs.loading.load_count.Goals as goal

pub returns : goal.returns
returns c = record {
  at = c.load.ensures.at;
  more = c.load.ensures.more;
  loaded = c.load.ensures.loaded;
  few = let s = c.load.new.seat in loaded_few c.args.sweep.now s.seat s.number s.seats c.load.ensures.at c.args.j c.load.result c.load.ensures.loaded;
}

pub load-requires : goal.load-requires
load-requires c =
    let s = c.args.sweep.now in
    record {
      at = c.requires.at;
      there = there_in s (RootCount c.args.j) c.root_count_word-word.ensures.there;
      word = word_at s (RootCount c.args.j) c.root_count_word-word.result c.root_count_word-word.ensures.word;
    }
