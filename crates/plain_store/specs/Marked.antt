-- Marks that are those of what can be reached from some rows.
use Rattle.std.specs.Prelude.{◌<◌, Bool, List, Contains, length}
use Rattle.term_model.specs.declared.Row.{Row}
use Rattle.plain_store.specs.Slots.{Slots, children}
use Rattle.mark_phase.specs.Reachable.{Reaches, IsMarked, IsClosed}

-- what is reached from these rows is among the rows
abbrev pub ReachesWithin : Slots → List Row → Type 0
ReachesWithin s rows = (p : Row) → Contains rows p → (r : Row) → Reaches (children s) p r
    → r.0 < length s.slots

-- the marks are those of what is reached from these rows
pub record MarksFrom (c : Row → List Row) (rows : List Row) (marks : List Bool) : Type 0 where
  pub reached : (p r : Row) → Contains rows p → Reaches c p r → IsMarked marks r
  pub only : (r : Row) → IsMarked marks r → (p : Row) × Contains rows p × Reaches c p r
  pub closed : IsClosed c marks
