use Rattle.std.proofs.Common.{◌≡◌, ◌+◌, ◌-◌, ◌++◌, map, drop, ◌∙◌, arith, subst}
use Rattle.std.specs.Prelude.{reverse}
use Rattle.term_model.specs.Tree.{arguments}
use Rattle.terms_api.specs.Terms.{tree_at}
use Rattle.row_match.proofs.Pushed.{argument_pushed, held_pushed}
use Rattle.row_match.proofs.matching.push_arguments.Goals as goal

pub places-preserved : goal.places-preserved
places-preserved g c =
    let s = g.T.Terms.store c.args.terms.now in
    let i = c.places.invariant in
    let child = c.child-argument.ensures in
    let place = c.places.place - 1 in
    let one : c.places.place ≡ place + 1 = omega arith in
    let before : map (tree_at s) c.places.stack.items ≡ map (tree_at s) c.args.stack.now.items ++ reverse (drop (place + 1) (arguments (tree_at s c.args.row))) =
    subst (λ k. map (tree_at s) c.places.stack.items ≡ map (tree_at s) c.args.stack.now.items ++ reverse (drop k (arguments (tree_at s c.args.row)))) one i.trees in
    record {
      within = omega (arith, i.within);
      store = child.unchanged ∙ i.store;
      same = g.met.T.Terms.same_in_turn _ _ _ i.same child.same;
      trees = argument_pushed s _ c.args.row c.child-argument.result place c.args.stack.now.items c.places.stack.items _ i.store before child.tree c.push_reserved.ensures.items;
      held = held_pushed s _ c.child-argument.result c.places.stack.items _ i.store i.held child.held c.push_reserved.ensures.items;
      size = omega (arith, i.size, c.push_reserved.ensures.len);
      room = c.push_reserved.ensures.capacity ∙ i.room;
    }
