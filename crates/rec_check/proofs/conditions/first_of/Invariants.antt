use Rattle.rec_check.proofs.Common.{◌≡◌, drop, None, rules_of, ifs_of, least_with}
use Rattle.rec_check.proofs.conditions.first_of.Given as goal

abbrev pub invariant-loop-number : goal.invariant-loop-number
invariant-loop-number l = least_with l.first (ifs_of (rules_of l.specifications (drop l.number-index l.material))) ≡ least_with None (ifs_of (rules_of l.specifications l.material))
