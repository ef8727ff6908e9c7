use Rattle.std.proofs.Common.{◌≡◌, ◌-◌, ◌≤◌}
use Rattle.term_file.specs.Found.{records_of}
use Rattle.term_file.specs.Reading as spec
use Rattle.term_file.proofs.records.records_at.Given as goal

abbrev pub invariant-loop-number : goal.invariant-loop-number
invariant-loop-number l = record {
  so_far : spec.records_at l.total l.symbols (l.count - l._number) (records_of l.found) l.rest ≡ spec.records_at l.total l.symbols l.count spec.no_records l.bytes;
  used : l.found.used ≤ l._number;
}
