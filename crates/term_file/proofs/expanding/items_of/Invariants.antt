use Rattle.std.proofs.Common.{◌≡◌, ◌<◌, length}
use Rattle.std.specs.List.{flat_map, AllByRecursion}
use Rattle.term_file.specs.Expanding.{items_at, items_left}
use Rattle.term_file.proofs.expanding.items_of.Given as goal

abbrev pub invariant-loop-number : goal.invariant-loop-number
invariant-loop-number l = record {
  left : items_left l.table l.numbers.items l.items.items ≡ items_at l.table l.root;
  below : AllByRecursion (λ k. k < length l.table) l.numbers.items;
}

abbrev pub decreases-loop-number : goal.decreases-loop-number
decreases-loop-number l = length (flat_map (items_at l.table) l.numbers.items)
