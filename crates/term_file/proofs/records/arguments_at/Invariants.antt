use Rattle.std.proofs.Common.{◌≡◌, ◌-◌, ◌<◌, length, All}
use Rattle.term_file.specs.Outcome.{head_of}
use Rattle.term_file.specs.Reading as spec
use Rattle.term_file.proofs.records.arguments_at.Given as goal

abbrev pub invariant-loop-index : goal.invariant-loop-index
invariant-loop-index l = record {
  so_far : spec.arguments_at l.total l.table (l.arity - l.index) (record { head = head_of l.kind; arguments = l.arguments.items; last = l.from; rest = l.rest }) ≡ spec.arguments_at l.total l.table l.arity (spec.body (head_of l.kind) l.last l.bytes);
  before : All (λ i. i < length l.table) l.arguments.items;
}
