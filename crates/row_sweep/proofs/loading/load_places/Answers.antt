use Rattle.std.proofs.Common.{ℕ, arith}
use Rattle.store_model.specs.declared.view.Place.TheVariants.{FreePlace}
use Rattle.store_model.specs.ByView.{IsLoaded}
use Rattle.row_sweep.specs.Gathered.{loads_of}
use Rattle.row_sweep.proofs.Loads.{more_itself, more_in_turn}
use Rattle.row_sweep.proofs.Gathering.{below_more, loaded_on}
use Rattle.row_sweep.proofs.loading.load_places.Goals as goal

pub loop-i-init : goal.loop-i-init
loop-i-init c = let s = c.args.seat.now in record { at = c.requires.at; more = more_itself s.seat s.number s.seats; loaded = λ q l. absurd (omega arith) }

pub loop-i-preserved : goal.loop-i-preserved
loop-i-preserved c =
    let a = c.args.seat.now in
    let t = c.loop-i.seat in
    let s = c.load_place.new.seat in
    let i = c.loop-i.invariant in
    let e = c.load_place.ensures in
    record {
      at = e.at;
      more = more_in_turn a.seat a.number a.seats t.seat t.number t.seats s.seat s.number s.seats i.more e.more;
      loaded = below_more (λ (q : ℕ). IsLoaded (FreePlace q) (loads_of t.seat)) (λ (q : ℕ). IsLoaded (FreePlace q) (loads_of s.seat)) c.loop-i.i i.loaded (λ q. loaded_on (loads_of t.seat) (loads_of s.seat) (FreePlace q) e.more.extends) e.loaded;
    }

pub overflow_cast-i-end : goal.overflow_cast-i-end
overflow_cast-i-end c = let m = c.args.sweep.now.may.rows.1 in let f = c.args.sweep.now.few in omega arith

pub returns : goal.returns
returns c = record {
  at = c.loop-i.invariant.at;
  more = c.loop-i.invariant.more;
  loaded = λ q l. c.loop-i.invariant.loaded q (let m = c.args.sweep.now.may.rows.1 in let f = c.args.sweep.now.few in omega arith);
}
