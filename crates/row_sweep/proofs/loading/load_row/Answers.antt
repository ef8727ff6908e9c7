use Rattle.row_sweep.proofs.Worded.{word_as}
use Rattle.std.proofs.Common.{ℕ}
use Rattle.store_model.specs.declared.view.Place.TheVariants.{RowWord}
use Rattle.row_sweep.specs.Gathered.{loads_of}
use Rattle.row_sweep.proofs.Gathering.{loaded_on}
use Rattle.row_sweep.proofs.Loads.{more_in_turn}
use Rattle.row_sweep.proofs.loading.load_row.Goals as goal

pub returns : goal.returns
returns c =
    let a = c.args.seat.now in
    let b = c.load_words.new.seat in
    let d = c.load_links.new.seat in
    record {
      at = c.load_links.ensures.at;
      more = more_in_turn a.seat a.number a.seats b.seat b.number b.seats d.seat d.number d.seats c.load_words.ensures.more c.load_links.ensures.more;
      loaded = let b = c.load_words.new.seat in let d = c.load_links.new.seat in record {
        words = λ k l. loaded_on (loads_of b.seat) (loads_of d.seat) (RowWord c.args.row k) c.load_links.ensures.more.extends (c.load_words.ensures.loaded k l);
        birth = c.load_links.ensures.birth;
        next = c.load_links.ensures.next;
      };
    }

pub load_words-requires : goal.load_words-requires
load_words-requires c =
    let s = c.args.sweep.now in
    record { at = c.requires.at; below = c.requires.below; first = word_as s (λ (r : ℕ). RowWord r 0) c.from.result c.args.row c.from.ensures c.word_in-first.result c.word_in-first.ensures.word; count = c.requires.count }

pub load_links-requires : goal.load_links-requires
load_links-requires c =
    let s = c.args.sweep.now in
    record { at = c.load_words.ensures.at; below = c.requires.below; first = word_as s (λ (r : ℕ). RowWord r 0) c.from.result c.args.row c.from.ensures c.word_in-first.result c.word_in-first.ensures.word }
