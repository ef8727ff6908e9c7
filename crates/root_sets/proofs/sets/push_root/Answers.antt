use Rattle.std.proofs.Common.{◌≡◌, ◌+◌, ◌<◌, length, refl, sym, true≢false, arith}
use Rattle.std.proofs.lemmas.Bool.Decides.{nat_tests}
use Rattle.store_model.specs.Machine.{protected_in}
use Rattle.root_sets.proofs.Keeping.{keeps_all, keeps_on, keeps_rooted, keeps_counted, same_pass, same_twice}
use Rattle.root_sets.proofs.Pushing.{counted, push_uses, push_rows}
use Rattle.root_sets.proofs.sets.push_root.Goals as goal

pub returns-then-pass-store : goal.returns-then-pass-store
returns-then-pass-store c =
    let v = c.args.pass.now.seat.seat.me.0 in
    let n = counted c.args.store.now.sizes v.store c.requires.inside.ready.known in
    let a = c.args.pass.now.counted in
    let t = c.if-pass-store.true in
    let e : length (protected_in v.store) ≡ c.args.store.now.sizes.depth = grind (arith, nat_tests) in
    record {
      inside = c.requires.inside;
      same = same_pass c.args.pass.now;
      rows = tt;
      deep = ((λ h. e), λ h. refl);
      unchanged = refl;
      keeps = keeps_all v;
    }

pub set_root-requires : goal.set_root-requires
set_root-requires c =
    let a = c.args.pass.now.counted in
    let b = c.requires.inside.ready.known.root_count in
    let f = c.if-pass-store.false in
    record {
      inside = c.requires.inside;
      below = grind (arith, nat_tests);
      uses = c.requires.uses;
    }

pub set_count-requires : goal.set_count-requires
set_count-requires c =
    let v = c.args.pass.now.seat.seat.me.0 in
    let u = c.set_root.new.pass.seat.seat.me.0 in
    let known = c.requires.inside.ready.known in
    let a = c.args.pass.now.counted in
    let b = known.root_count in
    let f = c.if-pass-store.false in
    let l : c.args.pass.now.root_count < c.args.store.now.sizes.depth = grind (arith, nat_tests) in
    let e = c.set_root.ensures in
    record {
      inside = e.inside;
      few = omega arith;
      uses = push_uses c.args.store.now.sizes v u c.args.pass.now.root_count c.args.row.0 known a l e.view
          ((keeps_rooted v u c.args.pass.now.root_count c.args.row.0 e.view).uses c.args.row.0 c.requires.uses);
    }

pub returns : goal.returns
returns c =
    let v = c.args.pass.now.seat.seat.me.0 in
    let u = c.set_root.new.pass.seat.seat.me.0 in
    let w = c.set_count.new.pass.seat.seat.me.0 in
    let known = c.requires.inside.ready.known in
    let a = c.args.pass.now.counted in
    let b = known.root_count in
    let f = c.if-pass-store.false in
    let n = counted c.args.store.now.sizes v.store known in
    let l : c.args.pass.now.root_count < c.args.store.now.sizes.depth = grind (arith, nat_tests) in
    let d = c.set_root.ensures in
    let e = c.set_count.ensures in
    record {
      inside = e.inside;
      same = same_twice c.args.pass.now c.set_root.new.pass c.set_count.new.pass d.same e.same;
      rows = push_rows c.args.store.now.sizes v u w c.args.pass.now.root_count c.args.row.0 known a l d.view e.view;
      deep = ((λ h. absurd (true≢false (sym h))), λ h. absurd (omega arith));
      unchanged = tt;
      keeps = keeps_on v u w (keeps_rooted v u c.args.pass.now.root_count c.args.row.0 d.view) (keeps_counted u w (c.args.pass.now.root_count + 1) e.view);
    }
