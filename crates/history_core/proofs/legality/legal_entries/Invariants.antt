use Rattle.std.proofs.Common.{◌≡◌, length}
use Rattle.history_core.proofs.Prefixes.{IsAt}
use Rattle.history_core.proofs.legality.legal_entries.Given as goal

abbrev pub invariant-loop-i : goal.invariant-loop-i
invariant-loop-i l =
    record {
      at : IsAt l.rows l.history l.i l.table;
      names : length l.table.slots ≡ l.rows;
      callers : length l.table.roots ≡ l.callers;
    }
