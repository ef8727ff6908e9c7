use Rattle.std.proofs.Common.{◌∙◌, ◌-◌, refl, arith, subst, ◌≡◌}
use Rattle.root_sets.specs.Protected.{Moved}
use Rattle.root_sets.proofs.Keeping.{keeps_all, keeps_on, same_pass, same_twice}
use Rattle.root_sets.proofs.Ends.{moved_none, moved_more}
use Rattle.root_sets.proofs.sets.copy_roots.Goals as goal

pub loop-k-init : goal.loop-k-init
loop-k-init c = let v = c.args.pass.now.seat.seat.me.0 in record {
  inside = c.requires.inside;
  same = same_pass c.args.pass.now;
  count = refl;
  moved = moved_none v.store.roots (c.args.pass.now.root_count - c.args.top) c.args.from;
  keeps = keeps_all v;
}

pub loop-k-preserved : goal.loop-k-preserved
loop-k-preserved c =
    let v = c.args.pass.now.seat.seat.me.0 in
    let u = c.loop-k.pass.seat.seat.me.0 in
    let w = c.copy_root.new.pass.seat.seat.me.0 in
    let i = c.loop-k.invariant in
    let e = c.copy_root.ensures in
    record {
      inside = e.inside;
      same = same_twice c.args.pass.now c.loop-k.pass c.copy_root.new.pass i.same e.same;
      count = e.count ∙ i.count;
      moved = moved_more v.store.roots u.store.roots w.store.roots (c.args.pass.now.root_count - c.args.top) c.args.from c.loop-k.k i.moved (let f = c.requires.below in omega arith)
          (let a = c.requires.inside.ready.known.roots in let b = c.requires.inside.ready.known.root_count in let d = c.args.pass.now.counted in let f = c.requires.below in omega arith) e.roots;
      keeps = keeps_on v u w i.keeps e.keeps;
    }

pub returns : goal.returns
returns c =
    let v = c.args.pass.now.seat.seat.me.0.store in
    let u = c.loop-k.pass.seat.seat.me.0.store in
    let i = c.loop-k.invariant in
    let past = c.loop-k-test.false in
    let last = c.loop-k.auto.k-end in
    let e : c.loop-k.k ≡ c.args.top = omega (arith, past, last) in
    record {
      inside = i.inside;
      same = i.same;
      count = i.count;
      moved = subst (Moved v.roots u.roots (c.args.pass.now.root_count - c.args.top) c.args.from) e i.moved;
      keeps = i.keeps;
    }
