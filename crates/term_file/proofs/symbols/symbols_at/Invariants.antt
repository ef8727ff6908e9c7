use Rattle.std.proofs.Common.{◌≡◌, ◌-◌, [], length}
use Rattle.term_file.specs.Reading as spec
use Rattle.term_file.proofs.symbols.symbols_at.Given as goal

abbrev pub invariant-loop-number : goal.invariant-loop-number
invariant-loop-number l = record {
  so_far : spec.symbols_at l.total (l.count - l._number) l.symbols l.rest ≡ spec.symbols_at l.total l.count [] l.bytes;
  size : length l.symbols ≡ l._number;
}
