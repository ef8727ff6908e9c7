use Rattle.std.proofs.Common.{length, ap, arith, length-take}
use Rattle.lock_core.specs.Lock.{Lock}
use Rattle.lock_core.proofs.state.LockState.count.Goals as goal

pub returns : goal.returns
returns c =
    let e = ap (λ (l : Lock). length l.seats) c.self.view_is in
    omega (arith, length-take c.self.inside.count c.self.inside.seats)
