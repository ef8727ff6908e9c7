use Rattle.std.proofs.Common.{ℕ, ◌+◌, ◌<◌, [], ◌∷◌}
use Rattle.store_model.specs.declared.view.Place.TheVariants.{RowWord}
use Rattle.store_model.specs.Shown.{shown}
use Rattle.store_core.specs.Naming.{IsMarked, Halfway, Visits}
use Rattle.store_core.proofs.machine.naming.Naming.mark_arguments.Given as goal

abbrev pub invariant-loop-k : goal.invariant-loop-k
invariant-loop-k l =
    record {
      visits : Visits l.fn.self.marks.items l.self.marks.items l.fn.self.waiting.items l.self.waiting.items;
      marked : (j : ℕ) → j < l.k → IsMarked l.self.marks.items (shown l.table.sizes l.table.words.items (RowWord l.row (j + 2)));
      halfway : Halfway (shown l.table.sizes l.table.words.items) l.seat l.view l.fn.self.marks.items l.fn.self.waiting.items (l.row ∷ []) → Halfway (shown l.table.sizes l.table.words.items) l.seat l.view l.self.marks.items l.self.waiting.items (l.row ∷ []);
    }
