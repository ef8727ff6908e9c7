use Rattle.rec_offences.proofs.Common.{◌≡◌, [], drop, flat_map, visits, least_with, arguments_of, at_side, heads_on}
use Rattle.rec_offences.proofs.offences.heads.note_term.Given as goal

abbrev pub invariant-loop-node : goal.invariant-loop-node
invariant-loop-node l = record {
  sorted : l.stack.items ≡ arguments_of l.scope.bytes l.scope.entries (heads_on l.stack.items);
  noted :
      least_with l.found (flat_map (at_side l.is_value l.scope.bytes l.scope.entries) (visits (heads_on l.stack.items) (drop l.node-index l.nodes)))
      ≡ least_with l.initial.found (flat_map (at_side l.is_value l.scope.bytes l.scope.entries) (visits [] l.nodes));
}
