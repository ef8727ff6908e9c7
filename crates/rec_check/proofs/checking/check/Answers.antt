use Rattle.std.proofs.lemmas.Result.{IfOk-weaker}
use Rattle.rec_check.specs.Spec.{specified}
use Rattle.rec_check.proofs.Faultless.{no_offences}
use Rattle.rec_check.proofs.Accepted.{accepted}
use Rattle.rec_check.proofs.Plans.{last_runs}
use Rattle.rec_check.proofs.checking.check.Goals as goal

pub check_with-requires-clause-spelled : goal.check_with-requires-clause-spelled
check_with-requires-clause-spelled c = λ none. accepted _ _ (no_offences _ none) c.as_slice.ensures.whole

pub returns-clause-may_be_run : goal.returns-clause-may_be_run
returns-clause-may_be_run c = IfOk-weaker _ _ _ (λ s. last_runs c.args.syntax.now (specified s)) c.check_with.ensures.spelled

pub returns-clause-spelled_where_faultless : goal.returns-clause-spelled_where_faultless
returns-clause-spelled_where_faultless c = λ none. accepted _ _ (no_offences _ none) c.as_slice.ensures.whole

pub returns-in_err-headers-clause-spelled_where_faultless : goal.returns-in_err-headers-clause-spelled_where_faultless
returns-in_err-headers-clause-spelled_where_faultless c = λ none. accepted _ _ (no_offences _ none) c.as_slice.ensures.whole
