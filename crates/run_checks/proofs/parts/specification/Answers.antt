use Rattle.std.proofs.Common.{◌≡◌, List, ℕ, Ok, subst, sym}
use Rattle.std.specs.Prelude.{IfOk, IfErr}
use Rattle.std.proofs.lemmas.Result.{err_from_is_err_and}
use Rattle.rec_reader.specs.Tokens.{tokens_of}
use Rattle.rec_check.specs.Spec.{specified}
use Rattle.run_checks.specs.Specification.{Spells, IsFaulty}
use Rattle.run_checks.proofs.Faulty.{byte_fails}
use Rattle.run_checks.proofs.parts.specification.Goals as goal

pub spec_of_tokens-requires : goal.spec_of_tokens-requires
spec_of_tokens-requires c =
    let tokens = c.in_ok-tokens.tokens in
    subst (λ (bs : List ℕ). tokens_of bs ≡ Ok tokens.tokens) (sym c.in_ok-tokens.ensures.bytes) c.in_ok-tokens.ensures.tokens

pub returns-clause-made : goal.returns-clause-made
returns-clause-made c = subst (λ (bs : List ℕ). IfOk c.spec_of_tokens.result (λ spec. Spells bs (specified spec))) c.in_ok-tokens.ensures.bytes c.spec_of_tokens.ensures.made

pub returns-clause-failed : goal.returns-clause-failed
returns-clause-failed c = subst (λ (bs : List ℕ). IfErr c.spec_of_tokens.result (IsFaulty bs)) c.in_ok-tokens.ensures.bytes c.spec_of_tokens.ensures.failed

pub returns-in_err-tokens-clause-failed : goal.returns-in_err-tokens-clause-failed
returns-in_err-tokens-clause-failed c =
    let p = err_from_is_err_and c.from_residual.result c.from_residual.ensures.1 in
    rw (p.1, p.2) (byte_fails c.args.text.now c.in_err-tokens.field-0.0 c.in_err-tokens.ensures.refused_only_at_first_bad_byte)
