use Rattle.std.proofs.Common.{ℕ, ap, arith}
use Rattle.store_model.specs.declared.view.Sizes.{Sizes}
use Rattle.store_model.specs.declared.view.Place.TheVariants.{Bucket}
use Rattle.store_model.specs.ByView.{IsLoaded}
use Rattle.row_sweep.specs.Gathered.{loads_of}
use Rattle.row_sweep.proofs.Loads.{more_itself, more_in_turn}
use Rattle.row_sweep.proofs.Gathering.{below_more, loaded_on}
use Rattle.row_sweep.proofs.loading.load_buckets.Goals as goal

pub loop-b-init : goal.loop-b-init
loop-b-init c = let s = c.args.seat.now in record { at = c.requires.at; more = more_itself s.seat s.number s.seats; loaded = λ q l. absurd (omega arith) }

pub loop-b-preserved : goal.loop-b-preserved
loop-b-preserved c =
    let a = c.args.seat.now in
    let t = c.loop-b.seat in
    let s = c.load_bucket.new.seat in
    let i = c.loop-b.invariant in
    let e = c.load_bucket.ensures in
    record {
      at = e.at;
      more = more_in_turn a.seat a.number a.seats t.seat t.number t.seats s.seat s.number s.seats i.more e.more;
      loaded = below_more (λ (q : ℕ). IsLoaded (Bucket q) (loads_of t.seat)) (λ (q : ℕ). IsLoaded (Bucket q) (loads_of s.seat)) c.loop-b.b i.loaded (λ q. loaded_on (loads_of t.seat) (loads_of s.seat) (Bucket q) e.more.extends) e.loaded;
    }

pub returns : goal.returns
returns c = record {
  at = c.loop-b.invariant.at;
  more = c.loop-b.invariant.more;
  loaded = λ q l. c.loop-b.invariant.loaded q (let d = ap (λ (z : Sizes). z.buckets) c.args.sweep.now.at.told in omega arith);
}
