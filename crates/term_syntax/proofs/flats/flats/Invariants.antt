use Rattle.std.proofs.Common.{◌≡◌, take, map, Some}
use Rattle.term_syntax.specs.Items.{trees_at}
use Rattle.term_syntax.proofs.flats.flats.Given as goal

abbrev pub invariant-loop-number : goal.invariant-loop-number
invariant-loop-number l = map Some l.flats ≡ trees_at l.items (take l.number l.nodes.terms)
