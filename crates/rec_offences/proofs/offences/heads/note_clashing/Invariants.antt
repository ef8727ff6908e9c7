use Rattle.rec_offences.proofs.Common.{◌≡◌, drop, length, least_with, of_kind, clashing_sorts}
use Rattle.rec_offences.proofs.offences.heads.note_clashing.Given as goal

abbrev pub invariant-loop-sort : goal.invariant-loop-sort
invariant-loop-sort l =
    least_with l.found (of_kind 8 (clashing_sorts l.scope.bytes (drop (length l.yielded) l.wanted) (drop (length l.yielded) l.arguments)))
    ≡ least_with l.initial.found (of_kind 8 (clashing_sorts l.scope.bytes l.wanted l.arguments))
