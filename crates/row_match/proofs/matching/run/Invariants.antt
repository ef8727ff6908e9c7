use Rattle.std.proofs.Common.{◌≡◌, ◌≤◌}
use Rattle.std.specs.Prelude.{All, vec_len, vec_capacity}
use Rattle.terms_api.specs.Terms.{IsHeld, tree_at}
use Rattle.rule_match.specs.Preorder.{left_at}
use Rattle.row_match.proofs.Left.{Left}
use Rattle.row_match.proofs.matching.run.Given as goal

-- the items from a place on are to be matched by the trees that wait on the stack
abbrev pub invariant-loop-item : goal.invariant-loop-item
invariant-loop-item g l =
    let s = g.T.Terms.store l.fn.terms in
    record {
      store : g.T.Terms.store l.terms ≡ s;
      same : g.T.Terms.same l.fn.terms l.terms;
      left : Left s l.plan.widest (left_at l.plan.rules l.rule) (tree_at s l.fn.row) l.item-items l.item-index l.stack.items l.rows.items;
      stack_held : All (IsHeld s) l.stack.items;
      rows_held : All (IsHeld s) l.rows.items;
      rows_size : vec_len l.rows ≤ l.item-index;
      stack_room : vec_capacity l.stack ≡ vec_capacity l.fn.stack;
      rows_room : vec_capacity l.rows ≡ vec_capacity l.fn.rows;
    }
