use Rattle.rec_offences.proofs.Common.{◌≡◌, ◌++◌, drop, map, flat_map, variables_of, variable_entry, entries_of}
use Rattle.rec_offences.proofs.signatures.add_variables.Given as goal

abbrev pub invariant-loop-variables : goal.invariant-loop-variables
invariant-loop-variables l =
    entries_of l.signatures.items ++ map variable_entry (flat_map variables_of (drop l.variables-index l.variables-items)) ≡ entries_of l.initial.signatures.items ++ map variable_entry (flat_map variables_of l.variables-items)
