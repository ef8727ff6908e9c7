use Rattle.rec_offences.proofs.Common.{◌≡◌, ◌++◌, drop, heads}
use Rattle.rec_offences.proofs.offences.variables.add_heads.Given as goal

abbrev pub invariant-loop-node : goal.invariant-loop-node
invariant-loop-node l =
    record {
      bytes : l.names.bytes ≡ l.fn.names.bytes;
      names : l.names.names ++ heads (drop l.node-index l.nodes) ≡ l.fn.names.names ++ heads l.nodes;
    }
