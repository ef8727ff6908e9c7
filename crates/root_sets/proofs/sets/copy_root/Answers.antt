use Rattle.std.proofs.Common.{◌∙◌, ℕ, inl, refl, set, ap, sym, subst, arith}
use Rattle.store_model.specs.Machine.{In}
use Rattle.node_rows.specs.declared.view.NodeView.{NodeView}
use Rattle.root_sets.proofs.Keeping.{keeps_got, keeps_rooted, keeps_on, same_twice}
use Rattle.root_sets.proofs.sets.copy_root.Goals as goal

pub set_root-requires : goal.set_root-requires
set_root-requires c = record {
  inside = c.load_root-row.ensures.inside;
  below = let a = c.requires.below in let b = c.requires.inside.ready.known.root_count in let d = c.args.pass.now.counted in omega arith;
  uses = subst (λ (u : NodeView). In c.load_root-row.result u.store.got) (sym c.load_root-row.ensures.view) (inl refl);
}

pub returns : goal.returns
returns c =
    let v = c.args.pass.now.seat.seat.me.0 in
    let u = c.load_root-row.new.pass.seat.seat.me.0 in
    let w = c.set_root.new.pass.seat.seat.me.0 in
    let a = c.load_root-row.ensures in
    let b = c.set_root.ensures in
    record {
      inside = b.inside;
      same = same_twice c.args.pass.now c.load_root-row.new.pass c.set_root.new.pass a.same b.same;
      count = b.count ∙ a.count;
      roots = ap (λ (q : NodeView). q.store.roots) b.view
          ∙ (ap (λ (q : NodeView). set q.store.roots c.args.to c.load_root-row.result) a.view ∙ ap (λ (r : ℕ). set v.store.roots c.args.to r) a.row);
      keeps = keeps_on v u w (keeps_got v u c.load_root-row.result a.view) (keeps_rooted u w c.args.to c.load_root-row.result b.view);
    }
