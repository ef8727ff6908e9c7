-- A specification without offence has no symbol of more than 16 arguments.
use Rattle.std.proofs.Common.{ℕ, ◌≤◌, List}
use Rattle.rec_check.specs.Symbols.{widest_of}
use Rattle.rec_check.specs.Spelled.{Specified}
use Rattle.rec_check.proofs.Widths.{few_arguments}
use Rattle.rec_answers.specs.Rewritten.{Spells}

pub narrow : (input : List ℕ) (spec : Specified) → Spells input spec → widest_of spec.symbols ≤ 16
narrow input spec s = few_arguments s.syntax spec s.spec_is
