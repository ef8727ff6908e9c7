use Rattle.std.proofs.Common.{List, ℕ, subst, sym}
use Rattle.std.specs.Prelude.{IfOk, IfErr}
use Rattle.std.proofs.lemmas.Result.{err_from_is_err_and}
use Rattle.rec_check.specs.Spec.{specified}
use Rattle.run_checks.specs.Specification.{IsRead, Spells, IsFaulty}
use Rattle.run_checks.proofs.Faulty.{token_fails, is_read}
use Rattle.run_checks.proofs.parts.spec_of_tokens.Goals as goal

pub spec_of_syntax-requires : goal.spec_of_syntax-requires
spec_of_syntax-requires c =
    let syntax = c.in_ok-syntax.syntax in
    subst (λ (bs : List ℕ). IsRead bs syntax) (sym c.in_ok-syntax.ensures.bytes) (is_read c.args.tokens.now.bytes c.args.tokens.now.tokens syntax c.in_ok-syntax.ensures.bytes c.requires c.in_ok-syntax.ensures.sentence)

pub returns-clause-made : goal.returns-clause-made
returns-clause-made c = subst (λ (bs : List ℕ). IfOk c.spec_of_syntax.result (λ spec. Spells bs (specified spec))) c.in_ok-syntax.ensures.bytes c.spec_of_syntax.ensures.made

pub returns-clause-failed : goal.returns-clause-failed
returns-clause-failed c = subst (λ (bs : List ℕ). IfErr c.spec_of_syntax.result (IsFaulty bs)) c.in_ok-syntax.ensures.bytes c.spec_of_syntax.ensures.failed

pub returns-in_err-syntax-clause-failed : goal.returns-in_err-syntax-clause-failed
returns-in_err-syntax-clause-failed c =
    let p = err_from_is_err_and c.from_residual.result c.from_residual.ensures.1 in
    rw (p.1, p.2) (token_fails c.args.tokens.now.bytes c.args.tokens.now.tokens c.in_err-syntax.field-0.0 c.requires c.in_err-syntax.ensures.refused_only_at_its_place)
