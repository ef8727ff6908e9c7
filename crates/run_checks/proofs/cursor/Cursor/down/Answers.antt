use Rattle.std.proofs.Common.{refl, arith}
use Rattle.std.specs.Prelude.{slice_index_or}
use Rattle.run_checks.proofs.Moves.{only_zero, down_zero, down_past, goes_down}
use Rattle.run_checks.proofs.cursor.Cursor.down.Goals as goal

pub returns-in_default : goal.returns-in_default
returns-in_default c = λ n e. let none = c.in_default.ensures in down_zero c.args.table.now c.args.self.now c.args.argument n c.requires e (only_zero c.args.argument none)

pub returns-then-place-arguments : goal.returns-then-place-arguments
returns-then-place-arguments c = λ n e.
    let past = c.if-place-arguments.true in
    let one = c.in-Some.ensures in
    down_past c.args.table.now c.args.self.now c.args.argument n c.at.result.0 c.at.result.1.now c.requires c.at.ensures.term e (grind (arith, past, one))

pub returns : goal.returns
returns c = λ n e.
    let within = c.if-place-arguments.false in
    let one = c.in-Some.ensures in
    goes_down c.args.table.now c.args.self.now (record { frames = c.push.new.self; number = slice_index_or c.at.result.1.now c.in-Some.place 0 }) c.args.argument n c.in-Some.place _ 0 c.at.result.0 c.at.result.1.now c.requires c.at.ensures.term c.at.ensures.there e (omega arith) (grind (arith, one)) (omega arith) refl (record { number = c.args.self.now.number; argument = c.in-Some.place }) refl refl c.in_ok-push.ensures.items refl
