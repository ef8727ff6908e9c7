use Rattle.rec_offences.proofs.Common.{◌≡◌, drop, map, filter, least_with, of_kind}
use Rattle.rec_offences.proofs.offences.repeated.note_clashing_entries.Given as goal

abbrev pub invariant-loop-verdict : goal.invariant-loop-verdict
invariant-loop-verdict l =
    least_with l.found (of_kind 6 (map (λ v. v.entry) (filter (λ v. v.is_clashing) (drop l.verdict-index l.verdicts)))) ≡ least_with l.initial.found (of_kind 6 (map (λ v. v.entry) (filter (λ v. v.is_clashing) l.verdicts)))
