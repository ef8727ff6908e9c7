use Rattle.std.proofs.Common.{◌≡◌, length, take}
use Rattle.plain_store.specs.Index.{IsIndexed}
use Rattle.plain_store.proofs.adding.add_all.Given as goal

-- the rows before are where they are looked for
abbrev pub invariant-loop-i : goal.invariant-loop-i
invariant-loop-i l =
    record {
      indexed : IsIndexed (take l.i l.table.slots) l.index;
      tags : l.index.tags ≡ l.fn.index.tags;
      places : length l.index.words ≡ length l.fn.index.words;
    }
