use Rattle.rec_check.proofs.Common.{◌≡◌, drop, seen, after, all_of, condition_in}
use Rattle.rec_check.proofs.rules.conditions_of.Given as goal

abbrev pub invariant-loop-condition : goal.invariant-loop-condition
invariant-loop-condition l = after l.conditions.items (all_of (condition_in (seen l.scope)) (drop l.condition-index l.written)) ≡ all_of (condition_in (seen l.scope)) l.written
