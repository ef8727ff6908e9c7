use Rattle.std.proofs.Common.{◌≡◌, ◌∙◌, ◌+◌, ◌-◌, ◌<◌, length, ap, arith, inl}
use Rattle.std.proofs.lemmas.Bool.Decides.{nat_tests}
use Rattle.node_rows.specs.declared.view.NodeView.{NodeView}
use Rattle.store_model.specs.Machine.{protected_in}
use Rattle.root_sets.proofs.Keeping.{keeps_all, keeps_on, keeps_counted, same_pass, same_twice}
use Rattle.root_sets.proofs.Ends.{ends_moved, ends_all}
use Rattle.root_sets.proofs.Pushing.{counted}
use Rattle.root_sets.proofs.sets.keep_roots.Goals as goal

pub returns-then-from-top : goal.returns-then-from-top
returns-then-from-top c =
    let v = c.args.pass.now.seat.seat.me.0 in
    let n = counted c.args.store.now.sizes v.store c.requires.inside.ready.known in
    let a = c.args.pass.now.counted in
    let b = c.requires.within in
    let t = c.if-from-top.true in
    let e : c.args.from + c.args.top ≡ length (protected_in v.store) = grind (arith, nat_tests) in
    record {
      inside = c.requires.inside;
      same = same_pass c.args.pass.now;
      rows = ends_all (protected_in v.store) c.args.from c.args.top e;
      keeps = keeps_all v;
    }

pub copy_roots-requires : goal.copy_roots-requires
copy_roots-requires c =
    let n = counted c.args.store.now.sizes c.args.pass.now.seat.seat.me.0.store c.requires.inside.ready.known in
    let a = c.args.pass.now.counted in
    let b = c.requires.within in
    let f = c.if-from-top.false in
    record { inside = c.requires.inside; below = grind (arith, nat_tests) }

pub set_count-requires : goal.set_count-requires
set_count-requires c =
    let known = c.requires.inside.ready.known in
    let n = counted c.args.store.now.sizes c.args.pass.now.seat.seat.me.0.store known in
    let b = c.requires.within in
    let r = known.root_count in
    let e = c.copy_roots.ensures in
    let same = e.count in
    let a = c.args.pass.now.counted in
    let d = c.copy_roots.new.pass.counted in
    record {
      inside = e.inside;
      few = omega (arith, n, b, r);
      uses = λ k l. inl (omega (arith, l, n, b, a, d, same));
    }

pub returns : goal.returns
returns c =
    let v = c.args.pass.now.seat.seat.me.0 in
    let u = c.copy_roots.new.pass.seat.seat.me.0 in
    let w = c.set_count.new.pass.seat.seat.me.0 in
    let z = c.args.store.now.sizes in
    let known = c.requires.inside.ready.known in
    let n = counted z v.store known in
    let a = c.args.pass.now.counted in
    let b = c.requires.within in
    let f = c.if-from-top.false in
    let last = c.args.pass.now.root_count - c.args.top in
    let m : last + c.args.top ≡ v.store.root_count = omega arith in
    let l : c.args.from < last = grind (arith, nat_tests) in
    let r = known.roots in
    let s = known.root_count in
    let d = c.copy_roots.ensures in
    let e = c.set_count.ensures in
    record {
      inside = e.inside;
      same = same_twice c.args.pass.now c.copy_roots.new.pass c.set_count.new.pass d.same e.same;
      rows = ap (λ (q : NodeView). protected_in q.store) e.view ∙ ends_moved v.store.roots u.store.roots v.store.root_count last c.args.from c.args.top d.moved m l (omega arith);
      keeps = keeps_on v u w d.keeps (keeps_counted u w (c.args.from + c.args.top) e.view);
    }
