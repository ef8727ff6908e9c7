use Rattle.std.proofs.Common.{◌≡◌, ◌+◌}
use Rattle.std.specs.Prelude.{All}
use Rattle.terms_api.specs.Terms.{IsHeld}
use Rattle.term_text.specs.Nodes.{nodes_at, nodes_of_rows}
use Rattle.term_text.proofs.nodes.has_at_most.Given as goal

-- the nodes of the tree are those that were looked at and those of the rows that wait
abbrev pub invariant-rows : goal.invariant-rows
invariant-rows g l =
    let s = g.T.Terms.store l.fn.terms in
    record {
      store : g.T.Terms.store l.terms ≡ s;
      same : g.T.Terms.same l.fn.terms l.terms;
      nodes : nodes_at s l.fn.row + l.left ≡ l.fn.most + nodes_of_rows s l.waiting.items;
      held : All (IsHeld s) l.waiting.items;
    }

abbrev pub decreases-rows : goal.decreases-rows
decreases-rows g l = l.left
