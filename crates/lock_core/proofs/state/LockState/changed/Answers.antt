use Rattle.std.proofs.Common.{◌<◌, List, length, set, ap, ◌∙◌, arith, length-take}
use Rattle.std.proofs.Math.Seq.{take-set-lt}
use Rattle.lock_core.specs.declared.parts.SeatState.{SeatState}
use Rattle.lock_core.specs.Lock.{Lock}
use Rattle.lock_core.proofs.state.LockState.changed.Goals as goal

pub returns : goal.returns
returns c =
    let e = ap (λ (l : Lock). length l.seats) c.self.view_is in
    let below : c.args.i < c.self.inside.count = omega (arith, length-take c.self.inside.count c.self.inside.seats) in
    let same = take-set-lt c.self.inside.count c.self.inside.seats c.args.i c.args.seat below in
    ap (λ (xs : List SeatState). record { mutex = c.args.mutex; seats = xs })
    (same ∙ ap (λ (l : Lock). set l.seats c.args.i c.args.seat) c.self.view_is)
