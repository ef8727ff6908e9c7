use Rattle.std.proofs.Common.{◌≡◌, ℕ, ◌<◌, [], get_or}
use Rattle.store_model.specs.Shown.{shown}
use Rattle.store_core.specs.Naming.{IsMarked, Halfway}
use Rattle.store_core.proofs.machine.naming.Naming.mark_got.Given as goal

abbrev pub invariant-loop-k : goal.invariant-loop-k
invariant-loop-k l =
    record {
      rows : l.rows.items ≡ l.view.got;
      marked : (j : ℕ) → j < l.k → IsMarked l.self.marks.items (get_or l.rows.items j 0);
      halfway : Halfway (shown l.table.sizes l.table.words.items) l.seat l.view l.fn.self.marks.items l.fn.self.waiting.items [] → Halfway (shown l.table.sizes l.table.words.items) l.seat l.view l.self.marks.items l.self.waiting.items [];
    }
