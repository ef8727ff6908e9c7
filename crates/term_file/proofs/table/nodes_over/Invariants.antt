use Rattle.std.proofs.Common.{◌≡◌, ◌+◌, take, sum_by, slice_index}
use Rattle.term_file.specs.Tables.{at_most}
use Rattle.term_file.proofs.table.nodes_over.Given as goal

abbrev pub invariant-loop-number : goal.invariant-loop-number
invariant-loop-number l = l.total ≡ at_most (sum_by (λ i. slice_index l.nodes i) (take l.number-index l.arguments) + 1)
