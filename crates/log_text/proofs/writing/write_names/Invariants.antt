use Rattle.std.proofs.Common.{◌≡◌, ◌++◌}
use Rattle.std.specs.Prelude.{take}
use Rattle.log_text.specs.Lines.{names, names_text}
use Rattle.log_text.proofs.writing.write_names.Given as goal

abbrev pub invariant-loop-row : goal.invariant-loop-row
invariant-loop-row l = l.out.items ≡ l.fn.out.items ++ names_text (names (take l.row-index l.rows))
