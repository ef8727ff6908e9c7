use Rattle.std.proofs.Common.{inl, ◌<◌, arith, subst, sym, refl}
use Rattle.std.proofs.lemmas.Bool.Decides.{nat_tests}
use Rattle.store_model.specs.ByView.{KnowsWord}
use Rattle.node_rows.specs.declared.view.NodeView.{NodeView}
use Rattle.store_trials.proofs.creating.read_child.Goals as goal

pub child_of-child-requires-clause-argument : goal.child_of-child-requires-clause-argument
child_of-child-requires-clause-argument c =
    let m = c.count_of in
    let t = c.if-j-count_of.false in
    record {
      count = m.result;
      known = subst (λ (u : NodeView). KnowsWord c.args.row.0 1 m.result u.store.knows) (sym m.ensures.reads) (inl (refl, refl, refl));
      below = let l : c.args.j < m.result = grind (arith, nat_tests) in l;
    }
