use Rattle.std.proofs.Common.{◌≡◌, ◌^◌, take}
use Rattle.std.specs.Prelude.{min}
use Rattle.log_check.specs.Words.{with_digits}
use Rattle.log_check.proofs.words.value_of.Given as goal

abbrev pub invariant-loop-byte : goal.invariant-loop-byte
invariant-loop-byte l = l.value ≡ min (with_digits 0 (take l.byte-index l.digits)) (2 ^ 64)
