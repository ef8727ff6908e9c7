use Rattle.std.proofs.Common.{◌≡◌, ◌++◌, ◌∷◌, replicate}
use Rattle.term_model.specs.declared.Item.TheVariants.{Cons}
use Rattle.term_syntax.proofs.flats.push_items.Given as goal

abbrev pub invariant-loop-cell : goal.invariant-loop-cell
invariant-loop-cell l = l.items.items ≡ l.fn.items.items ++ l.fn.item ∷ replicate l._cell Cons
