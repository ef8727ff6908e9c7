use Rattle.std.proofs.Common.{◌≡◌, ◌≢◌, ℕ, ◌<◌}
use Rattle.lock_core.specs.declared.parts.Standing.TheVariants.{Free}
use Rattle.lock_core.specs.Lock.{seat_of}
use Rattle.lock_core.proofs.machine.others_free.Given as goal

abbrev pub invariant-loop-j : goal.invariant-loop-j
invariant-loop-j l = (k : ℕ) → k < l.j → k ≢ l.i → (seat_of l.state k).standing ≡ Free
