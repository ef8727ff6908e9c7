use Rattle.std.proofs.Common.{ap, None}
use Rattle.std.proofs.lemmas.List.{take-replicate}
use Rattle.lock_core.specs.Lock.{idle}
use Rattle.lock_core.proofs.state.LockState.new.Goals as goal

pub returns : goal.returns
returns c = ap (λ (xs : _). record { mutex = None; seats = xs }) (take-replicate c.args.seats 16 idle c.requires.1)
