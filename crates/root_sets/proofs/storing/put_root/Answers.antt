use Rattle.std.proofs.Common.{◌∙◌, List, ℕ, set, ap}
use Rattle.node_rows.specs.declared.view.NodeView.{NodeView}
use Rattle.root_sets.proofs.Keeping.{keeps_on, keeps_rooted, same_twice}
use Rattle.root_sets.proofs.Ends.{same_set}
use Rattle.root_sets.proofs.storing.put_root.Goals as goal

pub returns-then-has_root : goal.returns-then-has_root
returns-then-has_root c =
    let e = c.has_root.ensures in
    record {
      inside = e.inside;
      same = e.same;
      count = e.count;
      roots = same_set c.args.pass.now.seat.seat.me.0.store.roots c.has_root.new.pass.seat.seat.me.0.store.roots c.args.k c.args.row e.roots (e.has c.if-has_root.true);
      keeps = e.keeps;
    }

pub set_root-requires : goal.set_root-requires
set_root-requires c = record {
  inside = c.has_root.ensures.inside;
  below = c.requires.below;
  uses = c.has_root.ensures.keeps.uses c.args.row c.requires.uses;
}

pub returns : goal.returns
returns c =
    let v = c.args.pass.now.seat.seat.me.0 in
    let u = c.has_root.new.pass.seat.seat.me.0 in
    let w = c.set_root.new.pass.seat.seat.me.0 in
    let a = c.has_root.ensures in
    let b = c.set_root.ensures in
    record {
      inside = b.inside;
      same = same_twice c.args.pass.now c.has_root.new.pass c.set_root.new.pass a.same b.same;
      count = b.count ∙ a.count;
      roots = ap (λ (q : NodeView). q.store.roots) b.view ∙ ap (λ (rs : List ℕ). set rs c.args.k c.args.row) a.roots;
      keeps = keeps_on v u w a.keeps (keeps_rooted u w c.args.k c.args.row b.view);
    }
