use Rattle.std.proofs.Common.{ℕ, get_or, refl, ap, arith}
use Rattle.store_model.specs.declared.view.Place.TheVariants.{Bucket}
use Rattle.row_sweep.specs.Compared.{told_by}
use Rattle.row_sweep.specs.Stored.{seen_of}
use Rattle.row_sweep.proofs.Writes.{stores_itself, stores_in_turn, heads_more, heads_rest, head_others}
use Rattle.row_sweep.proofs.storing.store_heads.Goals as goal

pub loop-b-init : goal.loop-b-init
loop-b-init c = let s = c.args.seat.now in record { at = c.requires.at; more = stores_itself s.seat s.number s.seats; heads = λ b l. absurd (omega arith); rest = λ b l. refl; others = λ p is. refl }

pub loop-b-preserved : goal.loop-b-preserved
loop-b-preserved c =
    let a = c.args.seat.now in
    let t = c.loop-b.seat in
    let s = c.store_head.new.seat in
    let i = c.loop-b.invariant in
    let e = c.store_head.ensures in
    let cell = get_or c.args.heads.now c.loop-b.b 0 in
    let n = told_by (seen_of t.seat (Bucket c.loop-b.b)) (get_or c.args.heads.now c.loop-b.b 0) in record {
      at = e.at;
      more = stores_in_turn a.seat a.number a.seats t.seat t.number t.seats s.seat s.number s.seats i.more e.more;
      heads = heads_more (seen_of a.seat) (seen_of t.seat) (seen_of s.seat) c.loop-b.b n c.args.in_use (omega arith) e.words c.args.heads.now (ap (λ (x : ℕ). told_by x cell) (i.rest c.loop-b.b (omega arith))) i.heads;
      rest = heads_rest (seen_of a.seat) (seen_of t.seat) (seen_of s.seat) c.loop-b.b n c.args.in_use (omega arith) e.words i.rest;
      others = head_others (seen_of a.seat) (seen_of t.seat) (seen_of s.seat) c.loop-b.b n c.args.in_use (omega arith) e.words i.others;
    }

pub returns : goal.returns
returns c = record {
  at = c.loop-b.invariant.at;
  more = c.loop-b.invariant.more;
  heads = λ b l. c.loop-b.invariant.heads b (let past = c.loop-b-test.false in omega arith);
  others = c.loop-b.invariant.others;
}
