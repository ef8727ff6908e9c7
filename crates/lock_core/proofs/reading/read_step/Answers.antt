use Rattle.lock_core.proofs.StepTexts.{alone_answers, no_seat_answers, on_answers}
use Rattle.lock_core.proofs.reading.read_step.Goals as goal

pub returns-in_err-read_seat-in-Some : goal.returns-in_err-read_seat-in-Some
returns-in_err-read_seat-in-Some c =
    let e = c.in-Some.ensures in
    no_seat_answers c.args.seats _ _ _ _ c.from_residual.ensures e.0 e.1 c.in_err-read_seat-in-Some.ensures

pub returns-in-None : goal.returns-in-None
returns-in-None c = alone_answers c.args.seats _ _ c.in-None.ensures c.step_alone.ensures

pub returns-in_ok-read_seat-in-Some : goal.returns-in_ok-read_seat-in-Some
returns-in_ok-read_seat-in-Some c =
    let e = c.in-Some.ensures in
    let s = c.in_ok-read_seat-in-Some.ensures in
    on_answers c.args.seats _ _ _ _ _ e.0 e.1 s.0 s.1 c.step_on.ensures
