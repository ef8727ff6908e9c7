use Rattle.rec_offences.proofs.Common.{◌≡◌, drop, least_with, long_declared}
use Rattle.rec_offences.proofs.offences.limits.note_long_declared.Given as goal

abbrev pub invariant-loop-specification : goal.invariant-loop-specification
invariant-loop-specification l = least_with l.found (long_declared l.text (drop l.specification-index l.specifications)) ≡ least_with l.initial.found (long_declared l.text l.specifications)
