use Rattle.row_sweep.proofs.Worded.{there_as, word_as}
use Rattle.std.proofs.Common.{ap, arith}
use Rattle.store_model.specs.declared.view.Sizes.{Sizes}
use Rattle.store_model.specs.declared.view.Place.TheVariants.{Root}
use Rattle.store_model.specs.Steps.{protected_row}
use Rattle.row_sweep.specs.Gathered.{words_of}
use Rattle.row_sweep.proofs.Gathering.{root_words_few}
use Rattle.row_sweep.proofs.Sound.{protected_loaded, row_is_below}
use Rattle.row_sweep.proofs.reading.root_of.Goals as goal

pub root_word-word-requires : goal.root_word-word-requires
root_word-word-requires c =
    let s = c.args.seat.now in
    let f = root_words_few c.args.sweep.now s.seat s.number s.seats c.requires.at c.args.j c.requires.below in
    let d = ap (λ (z : Sizes). z.depth) c.args.sweep.now.at.told in
    let t = ap (λ (z : Sizes). z.seats) c.args.sweep.now.at.told in
    let l = c.requires.below in
    let m = c.requires.within in (c.args.sweep.now.at.small, omega arith, omega arith)

pub reload-requires : goal.reload-requires
reload-requires c = record {
  at = c.requires.at;
  loaded = let s = c.args.seat.now in protected_loaded c.args.sweep.now s.seat s.number s.seats c.requires.at c.args.j c.args.k c.requires.within;
  there = there_as c.args.sweep.now (Root c.args.j) c.from.result c.args.k c.from.ensures c.root_word-word.ensures.there;
  word = word_as c.args.sweep.now (Root c.args.j) c.from.result c.args.k c.from.ensures c.root_word-word.result c.root_word-word.ensures.word;
}

pub overflow_cast-result : goal.overflow_cast-result
overflow_cast-result c =
    let s = c.args.seat.now in
    let e = c.reload.ensures.value in
    let f = row_is_below c.args.sweep.now s.seat s.number s.seats c.requires.at (words_of s.seat (Root c.args.j c.args.k)) (protected_row c.args.j c.args.k c.requires.within) in
    let d = ap (λ (z : Sizes). z.rows) c.args.sweep.now.at.told in
    let m = c.args.sweep.now.may.rows.1 in omega arith

pub returns : goal.returns
returns c = record {
  at = c.reload.ensures.at;
  again = c.reload.ensures.again;
  value = c.reload.ensures.value;
}
