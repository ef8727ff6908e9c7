use Rattle.std.proofs.Common.{ℕ, ◌<◌, []}
use Rattle.store_model.specs.declared.view.Place.TheVariants.{Root}
use Rattle.store_model.specs.Shown.{shown}
use Rattle.store_core.specs.Naming.{IsMarked, Halfway}
use Rattle.store_core.proofs.machine.naming.Naming.mark_protected.Given as goal

abbrev pub invariant-loop-k : goal.invariant-loop-k
invariant-loop-k l =
    record {
      kept : (r : ℕ) → IsMarked l.fn.self.marks.items r → IsMarked l.self.marks.items r;
      marked : (j : ℕ) → j < l.k → IsMarked l.self.marks.items (shown l.table.sizes l.table.words.items (Root l.seat j));
      halfway : Halfway (shown l.table.sizes l.table.words.items) l.seat l.view l.fn.self.marks.items l.fn.self.waiting.items [] → Halfway (shown l.table.sizes l.table.words.items) l.seat l.view l.self.marks.items l.self.waiting.items [];
    }
