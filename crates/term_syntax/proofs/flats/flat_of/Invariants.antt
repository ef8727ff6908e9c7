use Rattle.std.proofs.Common.{◌≡◌, take}
use Rattle.term_syntax.specs.Items.{items_at}
use Rattle.term_syntax.proofs.flats.flat_of.Given as goal

abbrev pub invariant-loop-node : goal.invariant-loop-node
invariant-loop-node l = l.spelled.items ≡ items_at l.items (take l.node-index l.nodes)
