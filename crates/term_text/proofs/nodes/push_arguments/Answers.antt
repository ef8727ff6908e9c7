use Rattle.std.proofs.Common.{◌≡◌, ◌∙◌, length, sym, subst, arith}
use Rattle.std.specs.Prelude.{All}
use Rattle.std.proofs.lemmas.List.Elements.{All-push}
use Rattle.term_model.specs.Tree.{arguments}
use Rattle.terms_api.specs.Terms.{IsHeld, tree_at}
use Rattle.term_text.proofs.Rows.{child_there, held_there, argument_counted, arguments_counted}
use Rattle.term_text.proofs.nodes.push_arguments.Goals as goal

pub loop-j-preserved : goal.loop-j-preserved
loop-j-preserved g c =
    let s = g.T.Terms.store c.args.terms.now in
    let i = c.loop-j.invariant in
    let q = c.child-argument.result in
    let child = c.child-argument.ensures in
    let items = c.in_ok-push.ensures.items in
    record {
      store = child.unchanged ∙ i.store;
      same = g.met.T.Terms.same_in_turn _ _ _ i.same child.same;
      nodes = argument_counted s c.args.row q c.loop-j.j c.args.stack.now.items c.loop-j.stack.items _ i.nodes (child_there s _ c.args.row q c.loop-j.j i.store child.tree) items;
      held = subst (All (IsHeld s)) (sym items) (All-push (IsHeld s) c.loop-j.stack.items q i.held (held_there s _ q i.store child.held));
    }

pub returns-clause-nodes : goal.returns-clause-nodes
returns-clause-nodes g c =
    let s = g.T.Terms.store c.args.terms.now in
    let end : c.loop-j.j ≡ length (arguments (tree_at s c.args.row)) = omega (arith, c.count-j-end.ensures.count) in
    arguments_counted s c.args.row c.loop-j.j c.args.stack.now.items c.loop-j.stack.items c.loop-j.invariant.nodes end

pub returns-in_err-push-clause-same : goal.returns-in_err-push-clause-same
returns-in_err-push-clause-same g c = g.met.T.Terms.same_in_turn _ _ _ c.loop-j.invariant.same c.child-argument.ensures.same
