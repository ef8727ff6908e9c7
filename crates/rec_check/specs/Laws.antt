-- What is true of what a syntax spells.
use Rattle.std.specs.Prelude.{◌≡◌, List, Some, None, All}
use Rattle.rewrite_model.specs.Rule.{IsUnconditional}
use Rattle.rec_reader.specs.declared.token.Token.{Token}
use Rattle.rec_reader.specs.Parsed.{Parsed}
use Rattle.rec_reader.specs.Grammar.{IsInput}
use Rattle.rec_check.specs.Conditional.{first_if}
use Rattle.rec_check.specs.Run.{spelled_in}
use Rattle.rec_check.specs.Spelled.{Specified}

-- Where none of the rules that are run has an `if`, no rule of what a sentence spells has a
-- condition.
abbrev pub WithoutIfUnconditional : Type 0
WithoutIfUnconditional =
    (tokens : List Token) (syntax : Parsed) (spec : Specified) →
    IsInput tokens syntax.specifications → first_if syntax ≡ None →
    spelled_in syntax ≡ Some spec → All IsUnconditional spec.rules
