use Rattle.std.proofs.Common.{◌≡◌, ◌++◌}
use Rattle.lock_core.specs.StateText.{seat_lines}
use Rattle.lock_core.proofs.writing.push_state.Given as goal

abbrev pub invariant-loop-j : goal.invariant-loop-j
invariant-loop-j l = l.out.items ≡ l.fn.out.items ++ seat_lines l.state l.j
