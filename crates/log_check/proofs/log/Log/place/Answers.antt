use Rattle.std.proofs.Common.{sym, subst}
use Rattle.log_check.specs.Log.{placed, IsTaken}
use Rattle.log_check.specs.declared.form.LogLine.{LogLine}
use Rattle.log_check.proofs.log.Log.place.Goals as goal

pub returns-in-Header : goal.returns-in-Header
returns-in-Header c =
    subst (λ (x : LogLine). IsTaken (placed c.args.line c.args.self.now x) c.begin.new.self c.begin.result) (sym c.in-Header.is) (c.begin.ensures c.args.line)

pub returns-in-Caller : goal.returns-in-Caller
returns-in-Caller c =
    subst (λ (x : LogLine). IsTaken (placed c.args.line c.args.self.now x) c.begin_caller.new.self c.begin_caller.result) (sym c.in-Caller.is) (c.begin_caller.ensures c.args.line)

pub returns-in-End : goal.returns-in-End
returns-in-End c =
    subst (λ (x : LogLine). IsTaken (placed c.args.line c.args.self.now x) c.end.new.self c.end.result) (sym c.in-End.is) (c.end.ensures c.args.line)
