use Rattle.std.proofs.Common.{ℕ, ap, arith}
use Rattle.store_model.specs.declared.view.Sizes.{Sizes}
use Rattle.store_model.specs.declared.view.Place.TheVariants.{Root, RootCount}
use Rattle.store_model.specs.ByView.{IsLoaded}
use Rattle.row_sweep.specs.Gathered.{loads_of}
use Rattle.row_sweep.proofs.Loads.{more_in_turn}
use Rattle.row_sweep.proofs.Gathering.{below_more, loaded_on}
use Rattle.row_sweep.proofs.loading.load_seat.Goals as goal

pub loop-k-init : goal.loop-k-init
loop-k-init c = record { at = c.load_count-count.ensures.at; more = c.load_count-count.ensures.more; count = c.load_count-count.ensures.loaded; loaded = λ q l. absurd (omega arith) }

pub loop-k-preserved : goal.loop-k-preserved
loop-k-preserved c =
    let a = c.args.seat.now in
    let t = c.loop-k.seat in
    let s = c.load_root.new.seat in
    let i = c.loop-k.invariant in
    let e = c.load_root.ensures in
    record {
      at = e.at;
      more = more_in_turn a.seat a.number a.seats t.seat t.number t.seats s.seat s.number s.seats i.more e.more;
      count = e.more.extends (RootCount c.args.j) c.load_count-count.result c.loop-k.invariant.count;
      loaded = below_more (λ (q : ℕ). IsLoaded (Root c.args.j q) (loads_of t.seat)) (λ (q : ℕ). IsLoaded (Root c.args.j q) (loads_of s.seat)) c.loop-k.k i.loaded (λ q. loaded_on (loads_of t.seat) (loads_of s.seat) (Root c.args.j q) e.more.extends) e.loaded;
    }

pub overflow_cast-k-end : goal.overflow_cast-k-end
overflow_cast-k-end c = let f = c.load_count-count.ensures.few in let d = ap (λ (z : Sizes). z.depth) c.args.sweep.now.at.told in let m = c.args.sweep.now.may.depth in omega arith

pub returns : goal.returns
returns c = record {
  at = c.loop-k.invariant.at;
  more = c.loop-k.invariant.more;
  loaded = record {
    count = c.load_count-count.result;
    loaded = c.loop-k.invariant.count;
    roots = λ q l. c.loop-k.invariant.loaded q (let f = c.load_count-count.ensures.few in let d = ap (λ (z : Sizes). z.depth) c.args.sweep.now.at.told in let m = c.args.sweep.now.may.depth in omega arith);
  };
}
