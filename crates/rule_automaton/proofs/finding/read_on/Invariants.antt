use Rattle.std.proofs.Common.{◌≡◌, ◌-◌, ◌≤◌, length}
use Rattle.rule_automaton.specs.Running.{made, Asked, IsRun}
use Rattle.rule_automaton.proofs.finding.read_on.Given as goal

-- it stands at a state, the first one or a later one
abbrev pub invariant-reads : goal.invariant-reads
invariant-reads g l =
    record {
      store : g.T.Terms.store l.terms ≡ g.T.Terms.store l.fn.terms;
      same : g.T.Terms.same l.fn.terms l.terms;
      run : (m : Asked) → IsRun (made l.automaton) (g.T.Terms.store l.fn.terms) l.initial.rows m l.first → (l.first ≤ l.at) × IsRun (made l.automaton) (g.T.Terms.store l.fn.terms) l.rows m l.at;
    }

abbrev pub decreases-reads : goal.decreases-reads
decreases-reads g l = length l.automaton.states.items - l.at
