use Rattle.std.proofs.Common.{ℕ, ap, arith}
use Rattle.store_model.specs.declared.view.Sizes.{Sizes}
use Rattle.row_sweep.specs.Loaded.{HasRow}
use Rattle.row_sweep.specs.Gathered.{loads_of, sizes_of}
use Rattle.row_sweep.proofs.Loads.{more_itself, more_in_turn}
use Rattle.row_sweep.proofs.Gathering.{below_more, row_on}
use Rattle.row_sweep.proofs.loading.load_rows.Goals as goal

pub loop-row-init : goal.loop-row-init
loop-row-init c = let s = c.args.seat.now in record { at = c.requires.at; more = more_itself s.seat s.number s.seats; loaded = λ q l. absurd (omega arith) }

pub loop-row-preserved : goal.loop-row-preserved
loop-row-preserved c =
    let a = c.args.seat.now in
    let t = c.loop-row.seat in
    let s = c.load_row.new.seat in
    let i = c.loop-row.invariant in
    let e = c.load_row.ensures in
    record {
      at = e.at;
      more = more_in_turn a.seat a.number a.seats t.seat t.number t.seats s.seat s.number s.seats i.more e.more;
      loaded = below_more (λ (q : ℕ). HasRow (sizes_of c.args.sweep.now) (loads_of t.seat) q) (λ (q : ℕ). HasRow (sizes_of c.args.sweep.now) (loads_of s.seat) q) c.loop-row.row i.loaded (λ q. row_on (sizes_of c.args.sweep.now) (loads_of t.seat) (loads_of s.seat) q e.more.extends) e.loaded;
    }

pub returns : goal.returns
returns c = record {
  at = c.loop-row.invariant.at;
  more = c.loop-row.invariant.more;
  loaded = λ q l. c.loop-row.invariant.loaded q (let d = ap (λ (z : Sizes). z.rows) c.args.sweep.now.at.told in omega arith);
}
