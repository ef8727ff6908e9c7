use Rattle.rec_check.proofs.Common.{◌≡◌, ◌++◌, drop, flat_map}
use Rattle.rec_check.proofs.spelling.add_variables.Given as goal

abbrev pub invariant-loop-declared : goal.invariant-loop-declared
invariant-loop-declared l =
    record {
      bytes : l.variables.bytes ≡ l.initial.variables.bytes;
      names : l.variables.names ++ flat_map (λ v. v.names) (drop l.declared-index l.declared-items) ≡ l.initial.variables.names ++ flat_map (λ v. v.names) l.declared-items;
    }
