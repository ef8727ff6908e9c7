use Rattle.std.proofs.Common.{◌∙◌, ◌<◌, sym, ap, arith}
use Rattle.node_rows.specs.Steps.{with_store}
use Rattle.store_model.specs.Machine.{with_got}
use Rattle.root_sets.proofs.Pushing.{counted, root_is, loaded_below}
use Rattle.root_sets.proofs.sets.root_at.Goals as goal

pub load_root-row-requires : goal.load_root-row-requires
load_root-row-requires c = record {
  inside = c.requires.inside;
  below =
      let n = counted c.args.store.now.sizes c.args.pass.now.seat.seat.me.0.store c.requires.inside.ready.known in
      let a = c.args.pass.now.counted in omega arith;
}

pub row_of-requires : goal.row_of-requires
row_of-requires c =
    loaded_below c.args.store.now.sizes c.args.pass.now.seat.seat.me.0 c.load_root-row.new.pass.seat.seat.me.0 c.load_root-row.result c.load_root-row.ensures.inside.ready.rest c.load_root-row.ensures.inside.ready.known c.load_root-row.ensures.view

pub returns : goal.returns
returns c =
    let v = c.args.pass.now.seat.seat.me.0 in
    let n = counted c.args.store.now.sizes v.store c.requires.inside.ready.known in
    let e = c.load_root-row.ensures in
    record {
      inside = e.inside;
      same = e.same;
      row = c.row_of.ensures ∙ (e.row ∙ root_is v.store c.args.i (let a = c.requires.below in let l : c.args.i < v.store.root_count = omega arith in l));
      gets = e.view ∙ ap (λ r. with_store v (with_got v.store r)) (sym c.row_of.ensures);
    }
