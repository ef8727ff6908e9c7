use Rattle.row_sweep.proofs.Worded.{there_as, word_as}
use Rattle.store_model.specs.declared.view.Place.TheVariants.{Bucket}
use Rattle.row_sweep.proofs.reading.head_of.Goals as goal

pub reload-requires : goal.reload-requires
reload-requires c = record {
  at = c.requires.at;
  loaded = c.requires.at.all.buckets c.args.b c.requires.below;
  there = there_as c.args.sweep.now Bucket c.from.result c.args.b c.from.ensures c.bucket_word-word.ensures.there;
  word = word_as c.args.sweep.now Bucket c.from.result c.args.b c.from.ensures c.bucket_word-word.result c.bucket_word-word.ensures.word;
}

pub returns : goal.returns
returns c = record {
  at = c.reload.ensures.at;
  again = c.reload.ensures.again;
  value = c.reload.ensures.value;
}
