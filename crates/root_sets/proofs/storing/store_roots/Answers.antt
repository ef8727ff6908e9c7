use Rattle.std.proofs.Common.{ℕ, List, ◌∙◌, ap, take, arith}
use Rattle.node_rows.specs.Rows.{names}
use Rattle.node_rows.specs.declared.view.NodeView.{NodeView}
use Rattle.store_model.specs.Machine.{protected_in}
use Rattle.root_sets.proofs.Keeping.{keeps_on, keeps_counted, each_kept, same_twice}
use Rattle.root_sets.proofs.Pushing.{rows_use}
use Rattle.root_sets.proofs.Numbers.{names_long}
use Rattle.root_sets.proofs.storing.store_roots.Goals as goal

pub set_count-requires : goal.set_count-requires
set_count-requires c =
    let v = c.args.pass.now.seat.seat.me.0 in
    let u = c.put_roots.new.pass.seat.seat.me.0 in
    let rows : List ℕ = names c.args.rows.now in
    let long = names_long c.args.rows.now in
    let n = c.count_rows.ensures in
    record {
      inside = c.put_roots.ensures.inside;
      few = omega arith;
      uses = λ k l. rows_use u.store.got rows u.store.roots u.store.root_count (each_kept v u rows c.put_roots.ensures.keeps c.requires.uses) (ap (λ (n : ℕ). take n u.store.roots) long ∙ c.put_roots.ensures.roots) k (omega arith);
    }

pub returns : goal.returns
returns c =
    let v = c.args.pass.now.seat.seat.me.0 in
    let u = c.put_roots.new.pass.seat.seat.me.0 in
    let w = c.set_count.new.pass.seat.seat.me.0 in
    let a = c.put_roots.ensures in
    let b = c.set_count.ensures in
    record {
      inside = b.inside;
      same = same_twice c.args.pass.now c.put_roots.new.pass c.set_count.new.pass a.same b.same;
      rows = ap (λ (q : NodeView). protected_in q.store) b.view ∙ (ap (λ (n : ℕ). take n u.store.roots) c.count_rows.ensures ∙ a.roots);
      keeps = keeps_on v u w a.keeps (keeps_counted u w c.count_rows.result b.view);
    }
