use Rattle.std.proofs.Common.{ℕ, arith}
use Rattle.store_model.specs.declared.view.Place.TheVariants.{RowWord}
use Rattle.store_model.specs.ByView.{IsLoaded}
use Rattle.row_sweep.specs.Gathered.{loads_of}
use Rattle.row_sweep.proofs.Loads.{more_itself, more_in_turn}
use Rattle.row_sweep.proofs.Gathering.{below_more, loaded_on}
use Rattle.row_sweep.proofs.loading.load_words.Goals as goal

pub loop-k-init : goal.loop-k-init
loop-k-init c = let s = c.args.seat.now in record { at = c.requires.at; more = more_itself s.seat s.number s.seats; loaded = λ q l. absurd (omega arith) }

pub loop-k-preserved : goal.loop-k-preserved
loop-k-preserved c =
    let a = c.args.seat.now in
    let t = c.loop-k.seat in
    let s = c.load_word.new.seat in
    let i = c.loop-k.invariant in
    let e = c.load_word.ensures in
    record {
      at = e.at;
      more = more_in_turn a.seat a.number a.seats t.seat t.number t.seats s.seat s.number s.seats i.more e.more;
      loaded = below_more (λ (q : ℕ). IsLoaded (RowWord c.args.row q) (loads_of t.seat)) (λ (q : ℕ). IsLoaded (RowWord c.args.row q) (loads_of s.seat)) c.loop-k.k i.loaded (λ q. loaded_on (loads_of t.seat) (loads_of s.seat) (RowWord c.args.row q) e.more.extends) e.loaded;
    }

pub returns : goal.returns
returns c = record {
  at = c.loop-k.invariant.at;
  more = c.loop-k.invariant.more;
  loaded = λ q l. c.loop-k.invariant.loaded q (let e = c.requires.count in omega arith);
}
