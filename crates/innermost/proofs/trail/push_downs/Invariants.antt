use Rattle.std.proofs.Common.{◌≡◌, ◌++◌, take}
use Rattle.rewrite_model.specs.Trace.{downs}
use Rattle.innermost.proofs.trail.push_downs.Given as goal

abbrev pub invariant-loop-argument : goal.invariant-loop-argument
invariant-loop-argument l = l.moves.items ≡ l.fn.moves.items ++ downs (take l.argument-index l.arguments)
