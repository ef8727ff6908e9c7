use Rattle.std.proofs.Common.{ℕ, ◌+◌, ◌*◌, ◌<◌, [], length}
use Rattle.store_model.specs.declared.view.Place.TheVariants.{RootCount, Root}
use Rattle.store_model.specs.Machine.{Each}
use Rattle.store_model.specs.Shown.{shown}
use Rattle.store_core.specs.Naming.{IsMarked, unmarked, Halfway}
use Rattle.store_core.proofs.machine.naming.named_rows.Given as goal

abbrev pub invariant-loop-row : goal.invariant-loop-row
invariant-loop-row l =
    record {
      halfway : Halfway (shown l.table.sizes l.table.words.items) l.seat l.view l.naming.marks.items l.naming.waiting.items [];
      got : Each (IsMarked l.naming.marks.items) l.view.got;
      roots : (k : ℕ) → k < shown l.table.sizes l.table.words.items (RootCount l.seat) → IsMarked l.naming.marks.items (shown l.table.sizes l.table.words.items (Root l.seat k));
    }

abbrev pub decreases-loop-row : goal.decreases-loop-row
decreases-loop-row l = length l.naming.waiting.items + 2 * unmarked l.naming.marks.items
