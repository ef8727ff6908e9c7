use Rattle.std.proofs.Common.{◌≡◌, List, sym, subst}
use Rattle.std.specs.Prelude.{All, IfOk}
use Rattle.term_model.specs.Tree.{Tree}
use Rattle.rule_match.specs.Planned.{Planned}
use Rattle.rec_check.specs.Spec.{specified}
use Rattle.rec_check.specs.Spelled.{Specified}
use Rattle.log_check.specs.Words.{lines}
use Rattle.run_checks.specs.Form.{values_from}
use Rattle.run_checks.specs.Instances.{MayBePut}
use Rattle.run_checks.specs.Refusing.{seen}
use Rattle.run_checks.specs.Rules.{ArePut}
use Rattle.run_checks.specs.Verdict.{first_underived}
use Rattle.run_checks.proofs.Putting.{rules_put, term_put}
use Rattle.run_checks.proofs.checking.first_underived.Goals as goal

pub first_by_plan-requires-clause-rules : goal.first_by_plan-requires-clause-rules
first_by_plan-requires-clause-rules c =
    subst (λ (p : Planned). ArePut c.args.spec.symbols p.rules) (sym c.in_ok-plan.ensures) (rules_put (specified c.args.spec) c.requires.may_be_run c.requires.named)

pub first_by_plan-requires-clause-terms : goal.first_by_plan-requires-clause-terms
first_by_plan-requires-clause-terms c =
    subst (λ (ts : List Tree). All (MayBePut c.args.spec.symbols 0) ts) (sym c.deref.ensures.value) (term_put (specified c.args.spec) c.requires.may_be_run c.requires.named)

pub returns : goal.returns
returns c =
    let ls = seen c.args.output.now in
    let same : record { symbols = c.args.spec.symbols; rules = c.in_ok-plan.plan.rules; terms = c.deref.result.now } ≡ specified c.args.spec =
    (λ i. record { symbols = c.args.spec.symbols; rules = (c.in_ok-plan.ensures i).rules; terms = c.deref.ensures.value i }) in
    subst (λ (s : Specified). IfOk c.first_by_plan.result (λ found. found ≡ first_underived s ls (values_from 0 ls) (lines c.args.output.now.traces.now))) same c.first_by_plan.ensures
