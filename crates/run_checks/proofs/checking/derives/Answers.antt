use Rattle.log_check.specs.Words.{words_after}
use Rattle.run_checks.specs.Form.{trace_in, events_in}
use Rattle.run_checks.proofs.Verdicts.{tells_so, tells_none}
use Rattle.run_checks.proofs.checking.derives.Goals as goal

pub returns-in-Some-2-clause-derives : goal.returns-in-Some-2-clause-derives
returns-in-Some-2-clause-derives c =
    tells_so c.args.table.now c.put_instance.new.table c.replay.new.table c.args.plan.now.rules (events_in (words_after c.in-Some.events.now)) c.args.term.now c.args.line.now c.in_ok-term.term c.in_ok-term.ensures c.is_text.result c.in_ok-value.field-0 c.in-Some-2.value (trace_in c.args.number c.args.trace.now) c.in_ok-value.ensures c.in-Some-2.is c.is_text.ensures c.in-Some.ensures

pub returns-in-None-clause-derives : goal.returns-in-None-clause-derives
returns-in-None-clause-derives c =
    tells_none c.args.table.now c.put_instance.new.table c.replay.new.table c.args.plan.now.rules (events_in (words_after c.in-Some.events.now)) c.args.term.now c.args.line.now c.in_ok-term.term c.in_ok-term.ensures c.in_ok-value.field-0 (trace_in c.args.number c.args.trace.now) c.in_ok-value.ensures c.in-None.is c.in-Some.ensures
