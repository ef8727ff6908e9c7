use Rattle.std.proofs.Common.{◌≡◌, sym, subst}
use Rattle.std.specs.Prelude.{All, IfOk}
use Rattle.log_check.specs.Words.{lines}
use Rattle.run_checks.specs.Form.{values_from}
use Rattle.run_checks.specs.Held.{Held}
use Rattle.run_checks.specs.Instances.{MayBePut}
use Rattle.run_checks.specs.Refusing.{seen}
use Rattle.run_checks.specs.Rules.{ArePut}
use Rattle.run_checks.specs.Verdict.{first_underived}
use Rattle.run_checks.proofs.checking.first_by_plan.Goals as goal

pub first_of_terms-requires-clause-rules : goal.first_of_terms-requires-clause-rules
first_of_terms-requires-clause-rules c =
    subst (λ (h : Held). ArePut h.symbols c.args.plan.now.rules) (sym c.new-table.ensures) c.requires.rules

pub first_of_terms-requires-clause-terms : goal.first_of_terms-requires-clause-terms
first_of_terms-requires-clause-terms c =
    subst (λ (h : Held). All (MayBePut h.symbols 0) c.args.terms.now) (sym c.new-table.ensures) c.requires.terms

pub returns : goal.returns
returns c =
    let ls = seen c.args.output.now in
    subst (λ (h : Held). IfOk c.first_of_terms.result (λ found. found ≡ first_underived (record { symbols = h.symbols; rules = c.args.plan.now.rules; terms = c.args.terms.now }) ls (values_from 0 ls) (lines c.args.output.now.traces.now))) c.new-table.ensures c.first_of_terms.ensures
