use Rattle.rec_check.proofs.Common.{◌≡◌, drop, map, list_any, bytes_eq, text_of, texts, with_names, variables_in}
use Rattle.std.proofs.Common.{filter}
use Rattle.rec_check.proofs.rules.variables_of.Given as goal

abbrev pub invariant-loop-node : goal.invariant-loop-node
invariant-loop-node l =
    record {
      bytes : l.variables.bytes ≡ l.declared.bytes;
      names :
          with_names (texts l.variables) (filter (λ name. list_any (bytes_eq name) (texts l.declared)) (map (λ n. text_of l.declared.bytes n.head) (drop l.node-index l.left)))
          ≡ variables_in l.declared.bytes (texts l.declared) l.left;
    }
