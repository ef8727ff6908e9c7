use Rattle.std.proofs.Common.{◌∙◌, ap, subst, rules}
use Rattle.log_check.specs.Log.{log_in}
use Rattle.log_check.specs.Verdict.{Rises}
use Rattle.log_check.proofs.Found.{found_is, fall_is}
use Rattle.log_check.proofs.verdict.check_log.Goals as goal

pub judge-requires : goal.judge-requires
judge-requires c = subst Rises (c.deref.ensures.value ∙ ap (λ l. l.noted) c.log.view_is) c.in-None.ensures

pub returns-in_err-log : goal.returns-in_err-log
returns-in_err-log c = search rules

pub returns-in-Some : goal.returns-in-Some
returns-in-Some c = record {
  found = fall_is (log_in c.args.bytes.now) c.in_ok-log.log c.deref.result.now c.in-Some.line c.in_ok-log.ensures.read (c.deref.ensures.value ∙ ap (λ l. l.noted) c.log.view_is) c.in-Some.ensures;
  refused = tt;
}

pub returns-in_ok-judge-in-None : goal.returns-in_ok-judge-in-None
returns-in_ok-judge-in-None c = record {
  found = found_is (log_in c.args.bytes.now) c.in_ok-log.log c.in_ok-judge-in-None.field-0 c.in_ok-log.ensures.read c.in_ok-judge-in-None.ensures;
  refused = tt;
}

pub returns-in_err-judge-in-None : goal.returns-in_err-judge-in-None
returns-in_err-judge-in-None c = search rules
