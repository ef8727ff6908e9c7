use Rattle.std.specs.Prelude.{All}
use Rattle.rule_match.specs.Preorder.{left_at}
use Rattle.run_checks.specs.Held.{IsThere, term_at}
use Rattle.run_checks.proofs.Matches.{Left}
use Rattle.run_checks.proofs.matching.run.Given as goal

-- the items from a place on are to be matched by the terms that wait on the stack
abbrev pub invariant-loop-item : goal.invariant-loop-item
invariant-loop-item l = record {
  left : Left (term_at l.table) l.plan.widest (left_at l.plan.rules l.rule) (term_at l.table l.number) l.item-items l.item-index l.stack.items l.bound.items;
  stack_there : All (IsThere l.table) l.stack.items;
  bound_there : All (IsThere l.table) l.bound.items;
}
