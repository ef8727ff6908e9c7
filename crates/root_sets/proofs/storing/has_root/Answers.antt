use Rattle.std.proofs.Common.{refl, sym, ap, rules, true≢false}
use Rattle.node_rows.specs.declared.view.NodeView.{NodeView}
use Rattle.root_sets.proofs.Keeping.{keeps_all, keeps_got, same_pass}
use Rattle.root_sets.proofs.storing.has_root.Goals as goal

pub returns-then-k-pass : goal.returns-then-k-pass
returns-then-k-pass c = record {
  inside = c.requires.inside;
  same = same_pass c.args.pass.now;
  count = refl;
  roots = refl;
  has = λ h. absurd (true≢false (sym h));
  keeps = keeps_all c.args.pass.now.seat.seat.me.0;
}

pub returns : goal.returns
returns c =
    let e = c.load_root.ensures in
    record {
      inside = e.inside;
      same = e.same;
      count = e.count;
      roots = ap (λ (u : NodeView). u.store.roots) e.view;
      has = search rules;
      keeps = keeps_got c.args.pass.now.seat.seat.me.0 c.load_root.new.pass.seat.seat.me.0 c.load_root.result e.view;
    }
