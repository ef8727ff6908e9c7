use Rattle.std.proofs.Common.{◌≡◌, drop}
use Rattle.rec_check.specs.Spelled.{Specified}
use Rattle.run_checks.specs.Form.{values_from}
use Rattle.run_checks.specs.Refusing.{seen}
use Rattle.run_checks.specs.Verdict.{first_underived}
use Rattle.log_check.specs.Words.{lines}
use Rattle.run_checks.proofs.checking.first_of_terms.Given as goal

abbrev pub invariant-loop-number : goal.invariant-loop-number
invariant-loop-number l =
    let s : Specified = record { symbols = l.fn.table.symbols; rules = l.plan.rules; terms = l.terms } in
    let ls = seen l.output in
    record {
      symbols : l.table.symbols ≡ l.fn.table.symbols;
      same : first_underived s ls (values_from l.number (drop l.number ls)) (lines l.rest) ≡ first_underived s ls (values_from 0 ls) (lines l.output.traces.now);
    }
