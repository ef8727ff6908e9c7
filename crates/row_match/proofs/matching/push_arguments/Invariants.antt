use Rattle.std.proofs.Common.{◌≡◌, ◌+◌, ◌≤◌, ◌++◌, map, drop}
use Rattle.std.specs.Prelude.{All, vec_len, vec_capacity, reverse}
use Rattle.term_model.specs.Tree.{arguments}
use Rattle.terms_api.specs.Terms.{IsHeld, tree_at}
use Rattle.row_match.proofs.matching.push_arguments.Given as goal

-- the arguments from a place on are on the stack
abbrev pub invariant-places : goal.invariant-places
invariant-places g l =
    let s = g.T.Terms.store l.fn.terms in
    record {
      within : l.place ≤ l.count;
      store : g.T.Terms.store l.terms ≡ s;
      same : g.T.Terms.same l.fn.terms l.terms;
      trees : map (tree_at s) l.stack.items ≡ map (tree_at s) l.fn.stack.items ++ reverse (drop l.place (arguments (tree_at s l.row)));
      held : All (IsHeld s) l.stack.items;
      size : vec_len l.stack + l.place ≡ vec_len l.fn.stack + l.count;
      room : vec_capacity l.stack ≡ vec_capacity l.fn.stack;
    }

abbrev pub decreases-places : goal.decreases-places
decreases-places g l = l.place
