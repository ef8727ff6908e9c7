use Rattle.std.proofs.Common.{◌≡◌, ◌<◌, ℕ, length, get_or}
use Rattle.std.specs.Prelude.{Option, IfSome}
use Rattle.rule_automaton.specs.Automata.{IsRoot}
use Rattle.rule_automaton.specs.Running.{made}
use Rattle.rule_automaton.specs.declared.states.Way.{Way}
use Rattle.rule_automaton.proofs.roots.roots_of.Given as goal

-- the rules before one have their ways from the root
abbrev pub invariant-loop-rule : goal.invariant-loop-rule
invariant-loop-rule l =
    record {
      size : length l.roots.items ≡ l.rule;
      each : (k : ℕ) (d : Option Way) → k < length l.roots.items → IfSome (get_or l.roots.items k d) (IsRoot l.plan.rules (made l.automaton) k);
    }
