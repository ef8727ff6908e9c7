-- A specification without an `if` in the rules that run has rules without conditions.
use Rattle.std.proofs.Common.{◌≡◌, suc, List, [], ◌∷◌, length, true, refl, ap, arith}
use Rattle.std.specs.Prelude.{◌&&◌, ◌==◌, Some, None, All}
use Rattle.rewrite_model.specs.Rule.{Rule, IsUnconditional}
use Rattle.rec_reader.specs.declared.token.Token.{Token}
use Rattle.rec_reader.specs.Parsed.{Parsed}
use Rattle.rec_reader.specs.Grammar.{IsInput}
use Rattle.rec_check.specs.Conditional.{first_if}
use Rattle.rec_check.specs.Spelled.{Specified}
use Rattle.rec_check.specs.Run.{spelled_in}
use Rattle.rec_check.proofs.WithoutIf.{unconditional_rules as have_no_conditions}
use Rattle.work_order.specs.Works.{are_unconditional}

pub none_has : (rules : List Rule) → All IsUnconditional rules → are_unconditional rules ≡ true
none_has [] a = refl
none_has (r ∷ rs) a = λ i. one i && none_has rs (λ k d lt. a (suc k) d (omega (arith, lt))) i
  where
    one : (length r.conditions == 0) ≡ true
    one = ap (λ cs. length cs == 0) (a 0 r (omega arith))

-- the rules of what a syntax spells
pub unconditional_rules : (syntax : Parsed) (tokens : List Token) (spec : Specified)
    → IsInput tokens syntax.specifications → first_if syntax ≡ None → spelled_in syntax ≡ Some spec
    → are_unconditional spec.rules ≡ true
unconditional_rules syntax tokens spec read bare is =
    none_has spec.rules (have_no_conditions syntax tokens spec read bare is)
