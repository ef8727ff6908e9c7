use Rattle.std.proofs.Common.{◌≡◌, ℕ, length}
use Rattle.term_model.specs.Tree.{Tree}
use Rattle.rule_automaton.specs.Running.{IsReady}
use Rattle.rule_automaton.proofs.Trying.{Done}
use Rattle.rule_automaton.proofs.finding.test_all.Given as goal

-- the tests before a place hold
abbrev pub invariant-loop-test : goal.invariant-loop-test
invariant-loop-test g l =
    record {
      store : g.T.Terms.store l.terms ≡ g.T.Terms.store l.fn.terms;
      same : g.T.Terms.same l.fn.terms l.terms;
      size : length l.rows ≡ length l.initial.rows;
      done : (at : ℕ → Tree) → IsReady (g.T.Terms.store l.fn.terms) at l.initial.rows l.tests → Done (g.T.Terms.store l.fn.terms) at l.rows l.tests l.test-index;
    }
