use Rattle.std.proofs.Common.{◌≤◌, length}
use Rattle.rule_match.specs.Groups.{IsLinked}
use Rattle.rule_match.proofs.linking.link.Given as goal

-- the rules from a place on are linked
abbrev pub invariant-rules : goal.invariant-rules
invariant-rules l = record { within : l.at ≤ length l.rules; linked : IsLinked l.rules l.at l.firsts l.nexts }

abbrev pub decreases-rules : goal.decreases-rules
decreases-rules l = l.at
