use Rattle.std.proofs.Common.{◌≡◌, ◌+◌, take}
use Rattle.std.specs.Prelude.{sum_by}
use Rattle.term_model.specs.Tree.{nodes, arguments}
use Rattle.terms_api.specs.Terms.{tree_at}
use Rattle.term_text.specs.Sizes.{saturated}
use Rattle.term_text.proofs.counting.nodes_over.Given as goal

-- the root, and the arguments before j
abbrev pub invariant-loop-j : goal.invariant-loop-j
invariant-loop-j g l =
    let s = g.T.Terms.store l.fn.terms in
    record {
      store : g.T.Terms.store l.terms ≡ s;
      same : g.T.Terms.same l.fn.terms l.terms;
      nodes : l.nodes ≡ saturated (sum_by nodes (take l.j (arguments (tree_at s l.row))) + 1);
    }
