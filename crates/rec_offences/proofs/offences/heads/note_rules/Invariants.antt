use Rattle.rec_offences.proofs.Common.{◌≡◌, [], drop, false, flat_map, visits, terms_of, least_with, at_side}
use Rattle.rec_offences.proofs.offences.heads.note_rules.Given as goal

abbrev pub invariant-loop-rule : goal.invariant-loop-rule
invariant-loop-rule l =
    least_with l.found (flat_map (at_side false l.scope.bytes l.scope.entries) (flat_map (visits []) (flat_map terms_of (drop l.rule-index l.rules)))) ≡ least_with l.initial.found (flat_map (at_side false l.scope.bytes l.scope.entries) (flat_map (visits []) (flat_map terms_of l.rules)))
