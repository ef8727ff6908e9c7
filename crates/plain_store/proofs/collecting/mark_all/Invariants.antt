use Rattle.std.proofs.Common.{◌≡◌, length, take}
use Rattle.plain_store.specs.Slots.{children}
use Rattle.plain_store.specs.Marked.{MarksFrom}
use Rattle.plain_store.proofs.collecting.mark_all.Given as goal

abbrev pub invariant-loop-row : goal.invariant-loop-row
invariant-loop-row l =
    record {
      nodes : l.nodes ≡ l.fn.nodes;
      size : length l.marks ≡ length l.fn.marks;
      marked : MarksFrom (children l.fn.nodes) (take l.row-index l.places) l.marks;
    }
