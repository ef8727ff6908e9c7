use Rattle.std.proofs.Common.{◌≡◌, ◌++◌, take}
use Rattle.lock_core.specs.StateText.{joined}
use Rattle.lock_core.proofs.writing.push_all.Given as goal

abbrev pub invariant-loop-part : goal.invariant-loop-part
invariant-loop-part l = l.out.items ≡ l.fn.out.items ++ joined (take l.part-index l.parts)
