use Rattle.term_text.specs.Text.{text}
use Rattle.run_checks.specs.Held.{term_at}
use Rattle.run_checks.specs.Pieces.{left}
use Rattle.run_checks.proofs.Texts.{Ahead}
use Rattle.run_checks.proofs.text.is_text.Given as goal

abbrev pub invariant-pieces : goal.invariant-pieces
invariant-pieces l = Ahead l.table l.line (text l.table.symbols (term_at l.table l.number)) l.rest l.pieces.items

abbrev pub decreases-pieces : goal.decreases-pieces
decreases-pieces l = left l.table l.pieces.items
