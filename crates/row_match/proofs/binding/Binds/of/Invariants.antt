use Rattle.std.proofs.Common.{take}
use Rattle.row_match.specs.Binding.{HasRoom}
use Rattle.row_match.proofs.binding.Binds.of.Given as goal

-- there is room for the rules before a place
abbrev pub invariant-loop-rule : goal.invariant-loop-rule
invariant-loop-rule l = HasRoom l.room (take l.rule-index l.rule-items)
