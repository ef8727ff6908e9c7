use Rattle.std.proofs.Common.{◌+◌, ◌≤◌, ◌^◌, sym, ap, ◌∙◌, subst, arith}
use Rattle.store_model.specs.declared.view.Sizes.{Sizes}
use Rattle.store_model.specs.Invariant.{span}
use Rattle.node_rows.specs.declared.store.Store.{Store}
use Rattle.node_rows.specs.declared.view.NodeView.{NodeView}
use Rattle.node_rows.specs.Steps.{Known}
use Rattle.row_sweep.proofs.Whole.{pass_alone, whole_only, whole_kept, whole_collects, whole_ready, whole_pass}
use Rattle.row_sweep.proofs.Sweeping.{ends_after}
use Rattle.row_sweep.proofs.collecting.collect.Goals as goal

pub overflow_cast-in_use : goal.overflow_cast-in_use
overflow_cast-in_use c = let r = c.requires.inside.ready in let k = r.known.within r.rest.stay in let e = r.has_in_use in let m = c.requires.inside.store.may.buckets.1 in omega arith

pub begin-requires-clause-alone : goal.begin-requires-clause-alone
begin-requires-clause-alone c = let a = c.args.pass.now.seat in let i = c.requires.inside in
    pass_alone c.args.store.now a.seat a.number a.seats i.store i.pass c.requires.granted i.ready.rest c.requires.last_roots

pub begin-requires-clause-known : goal.begin-requires-clause-known
begin-requires-clause-known c = let i = c.requires.inside in subst (λ (z : Sizes). Known z c.args.pass.now.seat.seat.me.0.store) (sym i.store.told) i.ready.known

pub collect_on-requires-clause-in_use : goal.collect_on-requires-clause-in_use
collect_on-requires-clause-in_use c = c.requires.inside.ready.has_in_use ∙ sym (ap (λ (v : NodeView). v.store.in_use) c.begin.ensures.stays.only)

pub returns-in-Ok-clause-inside : goal.returns-in-Ok-clause-inside
returns-in-Ok-clause-inside c =
    let a = c.args.pass.now.seat in
    let b = c.begin.new.seat in
    let p = c.collect_on.new.pass in
    let sweep = c.in-Ok.sweep in
    let live = c.collect_on.result.live in
    let buckets = c.collect_on.result.buckets in
    let e = ends_after sweep a.seat a.number a.seats b.seat b.number b.seats p.seat.seat p.seat.number p.seat.seats c.collect_on.ensures.ends.0 live buckets c.begin.ensures.stays c.collect_on.ensures.ends.1 in
    let same = ap (λ (s : Store). s.table.shared.key) c.in-Ok.ensures.store ∙ c.requires.inside.store.told in
    record {
      store = c.requires.inside.store;
      pass = whole_pass sweep a.seat a.number a.seats p.seat.seat p.seat.number p.seat.seats c.collect_on.ensures.ends.0 live buckets e c.args.store.now.table.shared.table_id c.args.store.now.sizes c.requires.inside.pass;
      ready = whole_ready sweep a.seat a.number a.seats p.seat.seat p.seat.number p.seat.seats c.collect_on.ensures.ends.0 live buckets e c.args.store.now.sizes p.base p.in_use same c.collect_on.ensures.base c.collect_on.ensures.in_use;
      told = c.collect_on.ensures.told;
    }

pub returns-in-Ok-clause-same : goal.returns-in-Ok-clause-same
returns-in-Ok-clause-same c =
    let a = c.args.pass.now.seat in
    let b = c.begin.new.seat in
    let p = c.collect_on.new.pass in
    let sweep = c.in-Ok.sweep in
    let live = c.collect_on.result.live in
    let buckets = c.collect_on.result.buckets in
    let e = ends_after sweep a.seat a.number a.seats b.seat b.number b.seats p.seat.seat p.seat.number p.seat.seats c.collect_on.ensures.ends.0 live buckets c.begin.ensures.stays c.collect_on.ensures.ends.1 in
    let same = ap (λ (s : Store). s.table.shared.key) c.in-Ok.ensures.store ∙ c.requires.inside.store.told in
    (e.same, e.number)

pub returns-in-Ok-clause-only : goal.returns-in-Ok-clause-only
returns-in-Ok-clause-only c =
    let a = c.args.pass.now.seat in
    let b = c.begin.new.seat in
    let p = c.collect_on.new.pass in
    let sweep = c.in-Ok.sweep in
    let live = c.collect_on.result.live in
    let buckets = c.collect_on.result.buckets in
    let e = ends_after sweep a.seat a.number a.seats b.seat b.number b.seats p.seat.seat p.seat.number p.seat.seats c.collect_on.ensures.ends.0 live buckets c.begin.ensures.stays c.collect_on.ensures.ends.1 in
    let same = ap (λ (s : Store). s.table.shared.key) c.in-Ok.ensures.store ∙ c.requires.inside.store.told in
    whole_only sweep a.seat a.number a.seats p.seat.seat p.seat.number p.seat.seats c.collect_on.ensures.ends.0 live buckets e

pub returns-in-Ok-clause-collects : goal.returns-in-Ok-clause-collects
returns-in-Ok-clause-collects c =
    let a = c.args.pass.now.seat in
    let b = c.begin.new.seat in
    let p = c.collect_on.new.pass in
    let sweep = c.in-Ok.sweep in
    let live = c.collect_on.result.live in
    let buckets = c.collect_on.result.buckets in
    let e = ends_after sweep a.seat a.number a.seats b.seat b.number b.seats p.seat.seat p.seat.number p.seat.seats c.collect_on.ensures.ends.0 live buckets c.begin.ensures.stays c.collect_on.ensures.ends.1 in
    let same = ap (λ (s : Store). s.table.shared.key) c.in-Ok.ensures.store ∙ c.requires.inside.store.told in
    let room = subst (λ (s : Store). sweep.base + sweep.claim + 1 + span s.sizes ≤ 2 ^ 62) c.in-Ok.ensures.store sweep.room in
    whole_collects sweep a.seat a.number a.seats p.seat.seat p.seat.number p.seat.seats c.collect_on.ensures.ends.0 live buckets e c.args.store.now.sizes same c.in-Ok.ensures.base room c.in-Ok.ensures.loads

pub returns-in-Ok-clause-crowd : goal.returns-in-Ok-clause-crowd
returns-in-Ok-clause-crowd c =
    let a = c.args.pass.now.seat in
    let b = c.begin.new.seat in
    let p = c.collect_on.new.pass in
    let sweep = c.in-Ok.sweep in
    let live = c.collect_on.result.live in
    let buckets = c.collect_on.result.buckets in
    let e = ends_after sweep a.seat a.number a.seats b.seat b.number b.seats p.seat.seat p.seat.number p.seat.seats c.collect_on.ensures.ends.0 live buckets c.begin.ensures.stays c.collect_on.ensures.ends.1 in
    whole_kept sweep a.seat a.number a.seats p.seat.seat p.seat.number p.seat.seats c.collect_on.ensures.ends.0 live buckets e

pub returns-in-Err-clause-same : goal.returns-in-Err-clause-same
returns-in-Err-clause-same c = (c.begin.ensures.stays.same, c.begin.ensures.stays.number)

pub returns-in-Ok-clause-seats : goal.returns-in-Ok-clause-seats
returns-in-Ok-clause-seats c =
    let a = c.args.pass.now.seat in
    let b = c.begin.new.seat in
    let p = c.collect_on.new.pass in
    let e = ends_after c.in-Ok.sweep a.seat a.number a.seats b.seat b.number b.seats p.seat.seat p.seat.number p.seat.seats c.collect_on.ensures.ends.0 c.collect_on.result.live c.collect_on.result.buckets c.begin.ensures.stays c.collect_on.ensures.ends.1 in
    e.seats

pub returns-in-Err-clause-seats : goal.returns-in-Err-clause-seats
returns-in-Err-clause-seats c = c.begin.ensures.stays.seats
