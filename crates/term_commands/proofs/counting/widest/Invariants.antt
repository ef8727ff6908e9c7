use Rattle.std.proofs.Common.{All, take}
use Rattle.term_commands.specs.Building.{IsNarrow}
use Rattle.term_commands.proofs.counting.widest.Given as goal

abbrev pub invariant-loop-term : goal.invariant-loop-term
invariant-loop-term l = All (IsNarrow l.widest) (take l.term-index l.terms)
