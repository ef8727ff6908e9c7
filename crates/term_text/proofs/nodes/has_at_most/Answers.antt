use Rattle.std.proofs.Common.{◌≡◌, ◌+◌, ◌∙◌, true, Some, All, sym, subst, arith}
use Rattle.term_model.proofs.Subtrees.{some_nodes}
use Rattle.std.proofs.lemmas.List.Elements.{All-pop}
use Rattle.terms_api.specs.Terms.{Store, IsHeld, tree_at}
use Rattle.term_text.specs.Nodes.{nodes_at, nodes_of_rows}
use Rattle.term_text.proofs.Rows.{nodes_popped}
use Rattle.term_text.proofs.nodes.has_at_most.Goals as goal

pub returns-then-left-eq0-clause-exact : goal.returns-then-left-eq0-clause-exact
returns-then-left-eq0-clause-exact g c =
    let s = g.T.Terms.store c.args.terms.now in
    let top = nodes_popped s _ _ c.in-Some.top c.in-Some.ensures.items in
    let some = some_nodes (tree_at s c.in-Some.top) in
    let all = c.rows.invariant.nodes in
    (λ h. absurd (cc), λ h. absurd (omega (arith, top, some, all, h)))

pub returns-in_err-push_arguments-clause-same : goal.returns-in_err-push_arguments-clause-same
returns-in_err-push_arguments-clause-same g c = g.met.T.Terms.same_in_turn _ _ _ c.rows.invariant.same c.push_arguments.ensures.same

pub push_arguments-requires : goal.push_arguments-requires
push_arguments-requires g c =
    let s = g.T.Terms.store c.args.terms.now in
    let i = c.rows.invariant in
    let there = sym i.store in
    let all = All-pop (IsHeld s) c.rows.waiting.items c.pop.new.self.items (Some c.in-Some.top) c.in-Some.ensures.items i.held in
    record {
      inside = subst (λ (x : Store). x.inside ≡ true) there c.requires.inside;
      held = subst (λ (x : Store). IsHeld x c.in-Some.top) there all.1;
      stack_held = subst (λ (x : Store). All (IsHeld x) c.pop.new.self.items) there all.0;
    }

pub rows-preserved : goal.rows-preserved
rows-preserved g c =
    let s = g.T.Terms.store c.args.terms.now in
    let i = c.rows.invariant in
    let rest = c.pop.new.self.items in
    let new = c.push_arguments.new.stack.items in
    let row = c.in-Some.top in
    let top = nodes_popped s _ rest row c.in-Some.ensures.items in
    let moved = subst (λ (x : Store). nodes_of_rows x new + 1 ≡ nodes_of_rows x rest + nodes_at x row) i.store c.in_ok-push_arguments.ensures.nodes in
    record {
      store = c.push_arguments.ensures.unchanged ∙ i.store;
      same = g.met.T.Terms.same_in_turn _ _ _ i.same c.push_arguments.ensures.same;
      nodes = omega (arith, i.nodes, top, moved, c.if-left-eq0.false);
      held = subst (λ (x : Store). All (IsHeld x) new) i.store c.in_ok-push_arguments.ensures.held;
    }
