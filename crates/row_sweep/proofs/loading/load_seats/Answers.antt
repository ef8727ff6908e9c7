use Rattle.std.proofs.Common.{ℕ, ap, arith}
use Rattle.store_model.specs.declared.view.Sizes.{Sizes}
use Rattle.row_sweep.specs.Loaded.{HasRoots}
use Rattle.row_sweep.specs.Gathered.{loads_of}
use Rattle.row_sweep.proofs.Loads.{more_itself, more_in_turn}
use Rattle.row_sweep.proofs.Gathering.{below_more, roots_on}
use Rattle.row_sweep.proofs.loading.load_seats.Goals as goal

pub loop-j-init : goal.loop-j-init
loop-j-init c = let s = c.args.seat.now in record { at = c.requires.at; more = more_itself s.seat s.number s.seats; loaded = λ q l. absurd (omega arith) }

pub loop-j-preserved : goal.loop-j-preserved
loop-j-preserved c =
    let a = c.args.seat.now in
    let t = c.loop-j.seat in
    let s = c.load_seat.new.seat in
    let i = c.loop-j.invariant in
    let e = c.load_seat.ensures in
    record {
      at = e.at;
      more = more_in_turn a.seat a.number a.seats t.seat t.number t.seats s.seat s.number s.seats i.more e.more;
      loaded = below_more (λ (q : ℕ). HasRoots (loads_of t.seat) q) (λ (q : ℕ). HasRoots (loads_of s.seat) q) c.loop-j.j i.loaded (λ q. roots_on (loads_of t.seat) (loads_of s.seat) q e.more.extends) e.loaded;
    }

pub returns : goal.returns
returns c = record {
  at = c.loop-j.invariant.at;
  more = c.loop-j.invariant.more;
  loaded = λ j l.
      let told = ap (λ (z : Sizes). z.seats) c.args.sweep.now.at.told in
      let past = c.loop-j-test.false in
      c.loop-j.invariant.loaded j (omega arith);
}
