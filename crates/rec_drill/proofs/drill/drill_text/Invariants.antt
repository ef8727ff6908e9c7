use Rattle.std.proofs.Common.{◌≡◌, ◌++◌}
use Rattle.std.specs.List.{flat_map}
use Rattle.rec_drill.specs.Drill.{opening_lines, term_lines, ended}
use Rattle.rec_drill.proofs.drill.drill_text.Given as goal

abbrev pub invariant-loop-i : goal.invariant-loop-i
invariant-loop-i l = l.text.items ≡ flat_map ended (opening_lines ++ term_lines l.i)
