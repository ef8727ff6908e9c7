use Rattle.std.proofs.Common.{◌∙◌, ℕ, set, refl, sym, ap, subst, arith, take, ◌≡◌, length}
use Rattle.std.proofs.Math.Seq.{take-length}
use Rattle.store_model.specs.Machine.{In}
use Rattle.node_rows.specs.Rows.{names}
use Rattle.root_sets.proofs.Keeping.{keeps_all, keeps_on, each_kept, each_got, same_pass, same_twice}
use Rattle.root_sets.proofs.Ends.{put_more}
use Rattle.root_sets.proofs.Numbers.{name_at, names_long}
use Rattle.root_sets.proofs.storing.put_roots.Goals as goal

pub loop-k-init : goal.loop-k-init
loop-k-init c = let v = c.args.pass.now.seat.seat.me.0 in record {
  inside = c.requires.inside;
  same = same_pass c.args.pass.now;
  count = refl;
  roots = refl;
  keeps = keeps_all v;
}

pub put_root-requires : goal.put_root-requires
put_root-requires c =
    let v = c.args.pass.now.seat.seat.me.0 in
    let u = c.loop-k.pass.seat.seat.me.0 in
    let rows = names c.args.rows.now in
    let long = names_long c.args.rows.now in
    record {
      inside = c.loop-k.invariant.inside;
      below = omega arith;
      uses = subst (λ (r : ℕ). In r u.store.got) (sym (name_at c.args.rows.now c.loop-k.k))
          (each_got u.store.got rows c.loop-k.k (each_kept v u rows c.loop-k.invariant.keeps c.requires.uses) (omega arith));
    }

pub loop-k-preserved : goal.loop-k-preserved
loop-k-preserved c =
    let v = c.args.pass.now.seat.seat.me.0 in
    let u = c.loop-k.pass.seat.seat.me.0 in
    let w = c.put_root.new.pass.seat.seat.me.0 in
    let i = c.loop-k.invariant in
    let e = c.put_root.ensures in
    let wide = i.inside.ready.known.roots in
    let few = c.requires.few in
    let long = names_long c.args.rows.now in
    record {
      inside = e.inside;
      same = same_twice c.args.pass.now c.loop-k.pass c.put_root.new.pass i.same e.same;
      count = e.count ∙ i.count;
      roots = put_more u.store.roots w.store.roots (names c.args.rows.now) c.loop-k.k i.roots (e.roots ∙ ap (λ (r : ℕ). set u.store.roots c.loop-k.k r) (name_at c.args.rows.now c.loop-k.k)) (omega arith) (omega arith);
      keeps = keeps_on v u w i.keeps e.keeps;
    }

pub returns : goal.returns
returns c =
    let u = c.loop-k.pass.seat.seat.me.0 in
    let i = c.loop-k.invariant in
    let rows = names c.args.rows.now in
    let past = c.loop-k-test.false in
    let end = c.count_rows-k-end.ensures in
    let last = c.loop-k.auto.k-end in
    let e : c.loop-k.k ≡ length c.args.rows.now = omega (arith, past, end, last) in
    record {
      inside = i.inside;
      same = i.same;
      count = i.count;
      roots = subst (λ (n : ℕ). take n u.store.roots ≡ take n rows) e i.roots ∙ (ap (λ (n : ℕ). take n rows) (sym (names_long c.args.rows.now)) ∙ take-length rows);
      keeps = i.keeps;
    }
