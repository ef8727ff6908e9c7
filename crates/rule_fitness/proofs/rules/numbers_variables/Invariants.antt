use Rattle.std.proofs.Common.{◌≡◌, ◌≤◌, drop}
use Rattle.rewrite_model.specs.Rule.{count_from}
use Rattle.rule_match.proofs.Numbering.{count_in}
use Rattle.rule_fitness.proofs.rules.numbers_variables.Given as goal

-- the items before a place have so many variables
abbrev pub invariant-loop-item : goal.invariant-loop-item
invariant-loop-item l = record { counted : count_from l.fn.pattern 0 ≡ count_in (drop l.item-index l.item-items) l.count; few : l.count ≤ l.item-index }
