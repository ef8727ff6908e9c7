-- The rows of a store, and the trees that contracts see, agree.
use Rattle.std.specs.Prelude.{◌≡◌, List, Option, Some, None, IsSome, Contains, length, slice_index_or}
use Rattle.term_model.specs.declared.Row.{Row}
use Rattle.term_model.specs.declared.Head.{Head}
use Rattle.term_model.specs.Tree.{Tree, Node, trees_of}
use Rattle.plain_store.specs.Slots.{Slots, slot_at}
use Rattle.plain_store.specs.Contents.{trees_on}

-- A free row has no tree, and each other has the tree of its head over its arguments' trees.
pub record Agree (slots : Slots) (trees : List (Option Tree)) : Type 0 where
  pub size : length slots.slots ≡ length trees
  pub free : (r : Row) → slot_at slots r ≡ None → slice_index_or trees r.0 None ≡ None
  pub node : (r : Row) (h : Head) (rows : List Row) → slot_at slots r ≡ Some (h, rows)
      → slice_index_or trees r.0 None ≡ Some (Node h (trees_of (trees_on trees rows)))
  pub held : (r : Row) (h : Head) (rows : List Row) → slot_at slots r ≡ Some (h, rows) → (q : Row)
      → Contains rows q → IsSome (slice_index_or trees q.0 None)
