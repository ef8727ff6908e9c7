-- Specifications whose terms and right sides have texts.
use Rattle.std.specs.Prelude.{All}
use Rattle.rewrite_model.specs.Rule.{Rule}
use Rattle.term_text.specs.Text.{HasNames}
use Rattle.rec_check.specs.Spelled.{Specified}

-- all symbols of the terms and of the rules' right sides are among its symbols
pub record IsNamed (spec : Specified) : Type 0 where
  pub rules : All (λ (r : Rule). HasNames spec.symbols r.right) spec.rules
  pub terms : All (HasNames spec.symbols) spec.terms
