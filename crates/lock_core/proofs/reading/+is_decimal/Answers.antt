use Rattle.std.proofs.Common.{ℕ, ◌<◌, ◌^◌, ◌/◌, [], ◌∷◌, ◌++◌, List, length, sym, ap, ◌∙◌, arith}
use Rattle.std.specs.Fmt.{decimal}
use Rattle.std.proofs.lemmas.Fmt.{decimal_step}
use Rattle.lock_core.proofs.Decimals.{number_ends, last_digit, has_digit, one_digit}
use Rattle.lock_core.proofs.reading.+is_decimal.Goals as goal

pub returns-in_default : goal.returns-in_default
returns-in_default t c =
    ((λ h. grind arith), λ e. absurd (has_digit c.args.n (omega (arith, c.ranges.n)) (sym (ap length e) ∙ c.in_default.ensures.cases)))

pub returns-then-last-n : goal.returns-then-last-n
returns-then-last-n t c =
    ((λ h. grind arith), λ e. absurd (c.if-last-n.true (last_digit c.args.n _ _ (omega (arith, c.ranges.n)) (sym c.in-Some.ensures.cases.0 ∙ e))))

pub returns-then-n-lt10 : goal.returns-then-n-lt10
returns-then-n-lt10 t c = one_digit c.args.n _ _ _ _ c.if-n-lt10.true c.in-Some.ensures.cases.0 c.if-last-n.false c.is_empty.ensures

pub returns-else-n-lt10 : goal.returns-else-n-lt10
returns-else-n-lt10 t c = let text = c.in-Some.ensures.cases.0 in let fits : c.args.n < 2 ^ 64 = omega (arith, c.ranges.n) in
    let step = decimal_step c.args.n c.if-n-lt10.false fits in (
      λ h. text ∙ (ap (λ (z : List ℕ). z ++ c.in-Some.last.now ∷ []) (c.is_decimal.ensures.0 h) ∙ (ap (λ (d : ℕ). decimal (c.args.n / 10) ++ d ∷ []) c.if-last-n.false ∙ sym step)),
      λ e. c.is_decimal.ensures.1 (number_ends c.args.n _ _ c.if-n-lt10.false fits (sym text ∙ e)).0,
    )
