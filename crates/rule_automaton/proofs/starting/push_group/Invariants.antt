use Rattle.std.proofs.Common.{◌-◌, length}
use Rattle.std.specs.Prelude.{unwrap_or}
use Rattle.rule_automaton.proofs.Starts.{Adding}
use Rattle.rule_automaton.proofs.starting.push_group.Given as goal

abbrev pub invariant-rules : goal.invariant-rules
invariant-rules l = Adding l.plan.rules l.fn.rules.items l.rules.items l.first l.rule

abbrev pub decreases-rules : goal.decreases-rules
decreases-rules l = length l.plan.rules - unwrap_or l.rule (length l.plan.rules)
