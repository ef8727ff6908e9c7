use Rattle.std.proofs.Common.{length, sym, ap, subst, ◌∙◌, arith}
use Rattle.store_model.specs.declared.view.Sizes.{Sizes}
use Rattle.row_sweep.specs.Collected.{EndsSo}
use Rattle.row_sweep.proofs.Whole.{whole_entries, whole_seen}
use Rattle.row_sweep.proofs.collecting.collect_on.Goals as goal

pub sweep_all-kept-requires-clause-size : goal.sweep_all-kept-requires-clause-size
sweep_all-kept-requires-clause-size c = let p = c.args.pass.now in c.requires.size ∙ (p.sized ∙ ap (λ (z : Sizes). z.rows) c.requires.at.alone.of.sizes)

pub fill_up-requires : goal.fill_up-requires
fill_up-requires c =
    let p = c.args.pass.now in
    let of = ap (λ (z : Sizes). z.rows) c.requires.at.alone.of.sizes in
    let told = ap (λ (z : Sizes). z.rows) c.args.sweep.now.at.told in omega (arith, p.nexts_fit, p.sized, of, told)

pub sweep_all-kept-requires-clause-nexts : goal.sweep_all-kept-requires-clause-nexts
sweep_all-kept-requires-clause-nexts c =
    ap length c.deref_mut.ensures.value ∙ (c.fill_up.ensures.length ∙ sym (ap (λ (z : Sizes). z.rows) c.args.sweep.now.at.told))

pub sweep_all-kept-requires-clause-heads : goal.sweep_all-kept-requires-clause-heads
sweep_all-kept-requires-clause-heads c =
    ap length c.deref_mut-2.ensures.value ∙ (c.fill_up-2.ensures.length ∙ sym (ap (λ (z : Sizes). z.buckets) c.args.sweep.now.at.told))

pub returns : goal.returns
returns c =
    let r = c.sweep_all-kept.result in
    let p = c.args.pass.now in
    let b = c.sweep_all-kept.new.seat in
    let e = c.sweep_all-kept.ensures.ends in
    record {
      ends = let a = c.args.pass.now.seat in
          subst (λ s. EndsSo c.args.sweep.now a.seat a.number a.seats s.seat s.number s.seats r.live r.buckets) (sym c.tell_collect.ensures.seat.0) (c.sweep_all-kept.new.marks, c.sweep_all-kept.ensures.ends);
      base = c.tell_collect.ensures.seat.1;
      in_use = c.tell_collect.ensures.seat.2 ∙ c.from.ensures;
      told = let a = p.seat in
          c.tell_collect.ensures.told a.seat.me.0.store.entries e.kept
          (whole_entries c.args.sweep.now a.seat a.number a.seats b.seat b.number b.seats c.sweep_all-kept.new.marks r.live r.buckets e)
          (whole_seen c.args.sweep.now a.seat a.number a.seats b.seat b.number b.seats c.sweep_all-kept.new.marks r.live r.buckets e)
          (e.size ∙ sym (p.sized ∙ ap (λ (z : Sizes). z.rows) c.requires.at.alone.of.sizes))
          (λ q. e.marked q.0);
    }
