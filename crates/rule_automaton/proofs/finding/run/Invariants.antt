use Rattle.std.proofs.Common.{◌≡◌, ◌-◌, length}
use Rattle.rule_automaton.specs.Running.{made, Asked, IsRun}
use Rattle.rule_automaton.proofs.finding.run.Given as goal

-- it stands at a state
abbrev pub invariant-states : goal.invariant-states
invariant-states g l =
    record {
      store : g.T.Terms.store l.terms ≡ g.T.Terms.store l.fn.terms;
      same : g.T.Terms.same l.fn.terms l.terms;
      run : (m : Asked) → IsRun (made l.automaton) (g.T.Terms.store l.fn.terms) l.initial.rows m l.first → IsRun (made l.automaton) (g.T.Terms.store l.fn.terms) l.rows m l.at;
    }

abbrev pub decreases-states : goal.decreases-states
decreases-states g l = length l.automaton.states.items - l.at
