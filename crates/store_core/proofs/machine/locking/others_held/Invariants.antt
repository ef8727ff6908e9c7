use Rattle.std.proofs.Common.{◌≡◌, ◌≢◌, ℕ, ◌<◌}
use Rattle.lock_core.specs.declared.parts.Standing.TheVariants.{Held}
use Rattle.lock_core.specs.Lock.{seat_of}
use Rattle.store_core.proofs.machine.locking.others_held.Given as goal

abbrev pub invariant-loop-j : goal.invariant-loop-j
invariant-loop-j l = (k : ℕ) → k < l.j → k ≢ l.seat → (seat_of l.lock k).standing ≡ Held
