use Rattle.std.proofs.Common.{◌≡◌, ◌-◌}
use Rattle.term_file.specs.InOrder.{visits}
use Rattle.term_file.specs.Parts.{roots_of}
use Rattle.term_file.specs.Reading as spec
use Rattle.term_file.proofs.roots.roots_at.Given as goal

abbrev pub invariant-loop-number : goal.invariant-loop-number
invariant-loop-number l = spec.roots_at l.total (visits l.table) (l.count - l._number) (roots_of l.roots.items l.visited) l.rest ≡ spec.roots_at l.total (visits l.table) l.count spec.no_roots l.bytes
