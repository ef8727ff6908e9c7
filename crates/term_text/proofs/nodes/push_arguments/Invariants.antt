use Rattle.std.proofs.Common.{◌≡◌, ◌+◌, take}
use Rattle.std.specs.Prelude.{All, sum_by}
use Rattle.term_model.specs.Tree.{nodes, arguments}
use Rattle.terms_api.specs.Terms.{IsHeld, tree_at}
use Rattle.term_text.specs.Nodes.{nodes_of_rows}
use Rattle.term_text.proofs.nodes.push_arguments.Given as goal

-- the arguments before j are on the stack
abbrev pub invariant-loop-j : goal.invariant-loop-j
invariant-loop-j g l =
    let s = g.T.Terms.store l.fn.terms in
    record {
      store : g.T.Terms.store l.terms ≡ s;
      same : g.T.Terms.same l.fn.terms l.terms;
      nodes : nodes_of_rows s l.stack.items ≡ nodes_of_rows s l.fn.stack.items + sum_by nodes (take l.j (arguments (tree_at s l.row)));
      held : All (IsHeld s) l.stack.items;
    }
