use Rattle.std.proofs.Common.{take}
use Rattle.rule_match.specs.Preorder.{IsCompiled}
use Rattle.rule_match.proofs.compiling.compile.Given as goal

-- the left sides before a place are laid out
abbrev pub invariant-loop-rule : goal.invariant-loop-rule
invariant-loop-rule l = IsCompiled (take l.rule-index l.rules) l.items.items l.starts.items
