use Rattle.rec_check.proofs.Common.{◌≡◌, drop, ifs_of, least_with}
use Rattle.rec_check.proofs.conditions.first_in.Given as goal

abbrev pub invariant-loop-rule : goal.invariant-loop-rule
invariant-loop-rule l = least_with l.first (ifs_of (drop l.rule-index l.rules)) ≡ least_with l.fn.found (ifs_of l.rules)
