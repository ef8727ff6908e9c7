use Rattle.std.proofs.Common.{◌≡◌, true, false, length, take}
use Rattle.plain_store.specs.Index.{IsIndexed}
use Rattle.plain_store.proofs.Rows.{Sweeping, Freed}
use Rattle.plain_store.proofs.nodes.sweep_rows.Given as goal

-- the rows before are swept, and are where they are looked for
abbrev pub invariant-loop-i : goal.invariant-loop-i
invariant-loop-i l =
    record {
      rows : Sweeping l.marks l.initial.table l.table l.i;
      some : l.lost ≡ true → Freed l.initial.table l.table l.i;
      none : l.lost ≡ false → l.table ≡ l.initial.table;
      indexed : IsIndexed (take l.i l.table.slots) l.index;
      tags : l.index.tags ≡ l.fn.index.tags;
      places : length l.index.words ≡ length l.fn.index.words;
    }
