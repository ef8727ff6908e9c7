use Rattle.std.proofs.Common.{◌≡◌, ◌++◌, take}
use Rattle.term_file.specs.File.{numbers_bytes}
use Rattle.term_file.proofs.encoding.put_numbers.Given as goal

abbrev pub invariant-loop-number : goal.invariant-loop-number
invariant-loop-number l = l.out.items ≡ l.fn.out.items ++ numbers_bytes (take l.number-index l.numbers)
