use Rattle.rec_offences.proofs.Common.{◌≡◌, ◌++◌, drop, map, variable, variable_entry, entries_of}
use Rattle.rec_offences.proofs.signatures.add_listed.Given as goal

abbrev pub invariant-loop-name : goal.invariant-loop-name
invariant-loop-name l =
    entries_of l.signatures.items ++ map variable_entry (map (λ n. variable n l.variables.sort) (drop l.name-index l.name-items)) ≡ entries_of l.initial.signatures.items ++ map variable_entry (map (λ n. variable n l.variables.sort) l.name-items)
