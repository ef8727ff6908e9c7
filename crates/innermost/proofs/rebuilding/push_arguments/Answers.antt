use Rattle.std.proofs.Common.{◌≡◌, ◌-◌, length, drop, refl, sym, ◌∙◌, ap, subst, arith, Some}
use Rattle.std.specs.Prelude.{slice_get}
use Rattle.term_model.specs.Tree.{Tree, arguments}
use Rattle.terms_api.specs.Terms.{Store, IsHeld, tree_at, pushed}
use Rattle.innermost.specs.Rebuilding.{Pushes}
use Rattle.innermost.proofs.Pushing.{pushes_more, pushes_tree, pushes_kept, pushes_height, length_taken, take_next}
use Rattle.innermost.proofs.rebuilding.push_arguments.Goals as goal

pub arguments-preserved : goal.arguments-preserved
arguments-preserved g c =
    let s = g.T.Terms.store c.args.terms.now in
    let now = g.T.Terms.store c.arguments.terms in
    let new = g.T.Terms.store c.put.new.self in
    let row = c.args.row in
    let i = c.arguments.invariant in
    let child = c.child-argument.ensures in
    let r = c.child-argument.result in
    let at : slice_get (arguments (tree_at s row)) c.arguments.at ≡ Some (tree_at now r) = subst (λ (t : Tree). slice_get (arguments t) c.arguments.at ≡ Some (tree_at now r)) (pushes_tree s now _ row i.pushed) child.tree in
    let put = c.put.ensures.pushed ∙ ap (λ (q : Store). pushed q r) child.unchanged in
    record {
      low = omega (arith, i.low);
      high = omega (arith, c.arguments-test.true);
      inside = ap (λ (q : Store). q.inside) put ∙ i.inside;
      pushed = subst (Pushes s new) (sym (take_next c.args.from c.arguments.at (arguments (tree_at s row)) (tree_at now r) i.low at)) (pushes_more s now new _ r (tree_at now r) i.pushed put refl);
      sound = c.put.ensures.sound;
      same = g.met.T.Terms.same_in_turn _ _ _ (g.met.T.Terms.same_in_turn _ _ _ i.same child.same) c.put.ensures.same;
    }

pub returns-clause-same : goal.returns-clause-same
returns-clause-same g c = c.arguments.invariant.same

pub child-argument-requires-clause-held : goal.child-argument-requires-clause-held
child-argument-requires-clause-held g c =
    let s = g.T.Terms.store c.args.terms.now in
    let now = g.T.Terms.store c.arguments.terms in
    let i = c.arguments.invariant in
    pushes_kept s now _ c.args.row i.pushed c.requires.held

pub child-argument-requires-clause-below : goal.child-argument-requires-clause-below
child-argument-requires-clause-below g c =
    let s = g.T.Terms.store c.args.terms.now in
    let now = g.T.Terms.store c.arguments.terms in
    let i = c.arguments.invariant in
    let n = ap (λ (t : Tree). length (arguments t)) (pushes_tree s now _ c.args.row i.pushed) in
    omega (arith, n, c.requires.within, c.arguments-test.true)

pub put-requires : goal.put-requires
put-requires g c =
    let s = g.T.Terms.store c.args.terms.now in
    let now = g.T.Terms.store c.arguments.terms in
    let i = c.arguments.invariant in
    let h = pushes_height s now _ i.pushed in
    let u = ap (λ (q : Store). length q.stack) c.child-argument.ensures.unchanged in
    let r = ap (λ (q : Store). q.room) c.child-argument.ensures.unchanged in
    let t = length_taken (c.arguments.at - c.args.from) (drop c.args.from (arguments (tree_at s c.args.row))) in
    record {
      inside = ap (λ (q : Store). q.inside) c.child-argument.ensures.unchanged ∙ c.arguments.invariant.inside;
      held = subst (λ (q : Store). IsHeld q c.child-argument.result) (sym c.child-argument.ensures.unchanged) c.child-argument.ensures.held;
      place = omega (arith, h.0, h.1, u, r, t, c.requires.places, c.arguments-test.true, i.low);
    }
