use Rattle.std.proofs.Common.{arith}
use Rattle.lock_core.proofs.StepTexts.{no_space_answers, bad_seat_answers, bad_step_answers}
use Rattle.lock_core.proofs.reading.read_line.Goals as goal

pub returns-in_err-seat : goal.returns-in_err-seat
returns-in_err-seat c = no_space_answers c.args.seats _ _ c.from_residual.ensures c.in_err-seat.ensures

pub returns-in_err-seat-2 : goal.returns-in_err-seat-2
returns-in_err-seat-2 c =
    let e = c.in_ok-seat.ensures in
    bad_seat_answers c.args.seats _ _ _ _ (omega (arith, c.ranges.seats)) c.from_residual-in_err-seat-2.ensures e.0 e.1 c.in_err-seat-2.ensures

pub returns-in_err-step : goal.returns-in_err-step
returns-in_err-step c =
    let e = c.in_ok-seat.ensures in
    bad_step_answers c.args.seats _ _ _ _ (omega (arith, c.ranges.seats)) c.from_residual-in_err-step.ensures e.0 e.1 c.in_err-step.ensures
