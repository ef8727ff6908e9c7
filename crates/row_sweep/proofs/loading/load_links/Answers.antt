use Rattle.row_sweep.proofs.Worded.{of_store, there_in, word_at}
use Rattle.store_model.specs.Shown.{index_of}
use Rattle.store_model.specs.declared.view.Sizes.{Sizes}
use Rattle.std.proofs.Common.{◌≡◌, ◌<◌}
use Rattle.store_model.specs.declared.view.Place.TheVariants.{Birth, RowWord, Next}
use Rattle.row_sweep.specs.Gathered.{loads_of}
use Rattle.row_sweep.proofs.Gathering.{loaded_on}
use Rattle.row_sweep.proofs.Loads.{more_in_turn}
use Rattle.row_sweep.proofs.loading.load_links.Goals as goal

pub returns : goal.returns
returns c =
    let a = c.args.seat.now in
    let b = c.load.new.seat in
    let d = c.load-2.new.seat in
    record {
      at = c.load-2.ensures.at;
      more = more_in_turn a.seat a.number a.seats b.seat b.number b.seats d.seat d.number d.seats c.load.ensures.more c.load-2.ensures.more;
      birth = loaded_on (loads_of b.seat) (loads_of d.seat) (Birth c.args.row) c.load-2.ensures.more.extends (c.load.result, c.load.ensures.loaded);
      next = (c.load-2.result, c.load-2.ensures.loaded);
    }

pub birth_from-birth-requires : goal.birth_from-birth-requires
birth_from-birth-requires c =
    let s = c.args.sweep.now in
    record {
      store = s.at.small;
      row = of_store s (λ (z : Sizes). c.args.row < z.rows) c.requires.below;
      first = of_store s (λ (z : Sizes). c.args.first ≡ index_of z (RowWord c.args.row 0)) c.requires.first;
    }

pub load-requires : goal.load-requires
load-requires c =
    let s = c.args.sweep.now in
    record { at = c.requires.at; there = there_in s (Birth c.args.row) c.birth_from-birth.ensures.there; word = word_at s (Birth c.args.row) c.birth_from-birth.result c.birth_from-birth.ensures.word }

pub next_from-next-requires : goal.next_from-next-requires
next_from-next-requires c =
    let s = c.args.sweep.now in
    record {
      store = s.at.small;
      row = of_store s (λ (z : Sizes). c.args.row < z.rows) c.requires.below;
      first = of_store s (λ (z : Sizes). c.args.first ≡ index_of z (RowWord c.args.row 0)) c.requires.first;
    }

pub load-requires-2 : goal.load-requires-2
load-requires-2 c =
    let s = c.args.sweep.now in
    record { at = c.load.ensures.at; there = there_in s (Next c.args.row) c.next_from-next.ensures.there; word = word_at s (Next c.args.row) c.next_from-next.result c.next_from-next.ensures.word }
