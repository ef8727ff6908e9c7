use Rattle.terms_calls.proofs.Growing.{grown}
use Rattle.terms_calls.proofs.calls.build_pair.Goals as goal

pub returns-clause-ok : goal.returns-clause-ok
returns-clause-ok g c =
    grown _ _ _ _ c.args.leaf c.args.node
    c.in_ok-build.ensures.ok c.in_ok-build.ensures.trees
    c.in_ok-build-2.ensures.ok c.in_ok-build-2.ensures.trees
    c.in_ok-build-3.ensures.ok c.in_ok-build-3.ensures.trees

pub returns-clause-same : goal.returns-clause-same
returns-clause-same g c =
    let turn = g.met.T.Terms.same_in_turn in
    turn _ _ _ (turn _ _ _ c.in_ok-build.ensures.same c.in_ok-build-2.ensures.same) c.in_ok-build-3.ensures.same
