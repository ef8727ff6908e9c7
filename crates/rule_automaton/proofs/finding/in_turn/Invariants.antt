use Rattle.std.proofs.Common.{◌≡◌, length}
use Rattle.rule_automaton.specs.Rows.{IsFull}
use Rattle.rule_automaton.specs.Running.{made, Asked, IsBegun}
use Rattle.rule_automaton.proofs.Trying.{Passed}
use Rattle.rule_automaton.proofs.finding.in_turn.Given as goal

-- no rule before a place of the list matches
abbrev pub invariant-loop-place : goal.invariant-loop-place
invariant-loop-place g l =
    record {
      store : g.T.Terms.store l.terms ≡ g.T.Terms.store l.fn.terms;
      same : g.T.Terms.same l.fn.terms l.terms;
      size : length l.rows ≡ length l.initial.rows;
      root : (m : Asked) (b : IsBegun (made l.automaton) (g.T.Terms.store l.fn.terms) l.initial.rows m) → IsFull (g.T.Terms.store l.fn.terms) b.reading.at l.rows 0;
      passed : (m : Asked) → IsBegun (made l.automaton) (g.T.Terms.store l.fn.terms) l.initial.rows m → Passed (made l.automaton) (g.T.Terms.store l.fn.terms) l.rows m l.from l.to l.place;
    }
