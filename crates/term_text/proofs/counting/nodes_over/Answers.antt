use Rattle.std.proofs.Common.{◌≡◌, ◌<◌, ◌∙◌, length, arith}
use Rattle.term_model.specs.Tree.{arguments}
use Rattle.terms_api.specs.Terms.{tree_at}
use Rattle.term_text.proofs.Rows.{child_there, held_there, sound_there}
use Rattle.term_text.proofs.Counts.{argument_exact, sum_goes_on, sum_ends}
use Rattle.term_text.proofs.counting.nodes_over.Goals as goal

pub loop-j-preserved : goal.loop-j-preserved
loop-j-preserved g c =
    let s = g.T.Terms.store c.args.terms.now in
    let i = c.loop-j.invariant in
    let q = c.child-argument.result in
    let child = c.child-argument.ensures in
    let counts = c.args.counts.now in
    let xs = arguments (tree_at s c.args.row) in
    let sound = sound_there s _ c.count-j-end.ensures.unchanged c.count-j-end.ensures.sound in
    let at = child_there s _ c.args.row q c.loop-j.j i.store child.tree in
    let lt : c.loop-j.j < length xs = omega (arith, c.count-j-end.ensures.count) in
    let exact = argument_exact s counts c.args.row q c.loop-j.j (length xs) sound c.requires.exact c.requires.all lt at (held_there s _ q i.store child.held) in
    record {
      store = child.unchanged ∙ i.store;
      same = g.met.T.Terms.same_in_turn _ _ _ i.same child.same;
      nodes = sum_goes_on s c.args.row q c.loop-j.j c.loop-j.nodes _ _ i.nodes exact at c.saturating_add-nodes.ensures;
    }

pub returns-clause-nodes : goal.returns-clause-nodes
returns-clause-nodes g c =
    let s = g.T.Terms.store c.args.terms.now in
    let end : c.loop-j.j ≡ length (arguments (tree_at s c.args.row)) = omega (arith, c.count-j-end.ensures.count) in
    sum_ends s c.args.row c.loop-j.j c.loop-j.nodes c.loop-j.invariant.nodes end
