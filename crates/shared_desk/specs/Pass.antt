-- What a pass knows of a shared store, and what its calls do to that.
use Rattle.std.specs.Prelude.{◌≡◌, ℕ, ◌+◌, ◌*◌, ◌^◌, ◌<◌, ◌≤◌, ◌⊎◌, Bool, true, false, List, [], ◌∷◌, ◌++◌, Option, Some, None, All, Contains, length, map, max, slice_index_or}
use Rattle.std.specs.List.{flat_map}
use Rattle.term_model.specs.declared.Row.{Row}
use Rattle.term_model.specs.declared.Head.{Head}
use Rattle.history_core.specs.declared.entry.Entry.{Entry}
use Rattle.history_core.specs.declared.entry.Entry.TheVariants.{Make, Find, Roots, Collect}
use Rattle.history_core.specs.Entry.{IsAscending}
use Rattle.node_rows.specs.Rows.{names}
use Rattle.term_model.specs.Tree.{Tree, Node, trees_of, subtrees, distinct, may_stand_over}
use Rattle.atomic_table.specs.Seated.{TableId}
use Rattle.store_model.specs.declared.view.Sizes.{Sizes}
use Rattle.store_model.specs.Invariant.{span}
use Rattle.terms_api.specs.Terms.{Store, HasTree, IsHeld, tree_at, trees, KeepsAll, GainsNone, Loses}

-- which store: its table and sizes; and which of its passes
pub record WhichStore : Type 0 where
  pub table : TableId
  pub sizes : Sizes

pub record WhichPass : Type 0 where
  pub id : ℕ
  pub number : ℕ

pub record PassView : Type 0 where
  -- in shared access, in exclusive access, and there with a collection after which nothing was
  -- created
  pub shared : Bool
  pub alone : Bool
  pub fresh : Bool
  -- the base that it loaded or stored last, 0 before its first entry
  pub base : ℕ
  -- the own list: for each row that it may use its tree
  pub held : List (Option Tree)
  -- the rows that it protects, and those of its last Roots
  pub roots : List Row
  pub noted : List Row
  -- its entries, and the greatest number that it has seen
  pub entries : List Entry
  pub greatest : ℕ
  -- what its entries told: the trees of its Make and Find entries, the trees of its last Roots, the
  -- trees that its last Collect kept, the trees of the last Roots before that, the greatest count
  -- of different subtrees in one Roots, and how many Collects
  pub built : List Tree
  pub rooted : List Tree
  pub crowd : List Tree
  pub hand : List Tree
  pub load : ℕ
  pub sweeps : ℕ
  -- the store's numbers, which store it is, and which of its passes
  pub rows : ℕ
  pub arity : ℕ
  pub depth : ℕ
  pub store : WhichStore
  pub seat : WhichPass

-- the tree of a row on the own list
abbrev pub look : List (Option Tree) → Row → Option Tree
look held r = slice_index_or held r.0 None

-- the store as a caller with this pass and these rows in use sees it
abbrev pub shown : PassView → List Row → ℕ → Bool → Store
shown v stack refusals spent =
    record {
      stack = stack;
      held = λ r. look v.held r;
      inside = v.shared;
      built = v.built;
      sweeps = v.sweeps;
      refusals = refusals;
      load = v.load;
      rows = v.rows;
      widest = v.arity;
      room = v.depth;
      crowd = v.crowd;
      hand = v.hand;
      spent = spent;
      epoch = Some v.base;
    }

abbrev pub store : PassView → List Row → Store
store v stack = shown v stack 0 false

-- the same with the protected rows
abbrev pub own : PassView → Store
own v = store v v.roots

-- the same store and the same seat, at no earlier base
pub record IsSame (v w : PassView) : Type 0 where
  pub rows : w.rows ≡ v.rows
  pub arity : w.arity ≡ v.arity
  pub depth : w.depth ≡ v.depth
  pub store : w.store ≡ v.store
  pub seat : w.seat ≡ v.seat
  pub base : v.base ≤ w.base

-- Numbers end at 2^62, and its base leaves no room for two epochs more.
abbrev pub IsWorn : PassView → Type 0
IsWorn v = 2 ^ 62 < v.base + 2 * span v.store.sizes

-- An access was granted, and the base was loaded: rows may be lost that the protected ones don't
-- reach, but only where the base is a later one.
pub record Arrived (v w : PassView) : Type 0 where
  pub rest : w ≡ record v {
    shared = w.shared;
    alone = w.alone;
    fresh = w.fresh;
    held = w.held;
    base = w.base;
    greatest = w.greatest;
  }
  pub none : GainsNone (own v) (own w)
  pub rows : Loses (own v) (own w)

-- an access has ended, and Roots were noted
abbrev pub left : PassView → PassView
left v =
    record v {
      shared = false;
      alone = false;
      fresh = false;
      entries = v.entries ++ Roots v.greatest (names v.roots) ∷ [];
      noted = v.roots;
      rooted = trees (own v);
      load = max v.load (distinct (flat_map subtrees (trees (own v))));
    }

-- the tree of a head over rows
abbrev pub over : PassView → Head → List Row → Tree
over v h rows = Node h (trees_of (map (tree_at (own v)) rows))

pub record MayCreate (v : PassView) (h : Head) (rows : List Row) : Type 0 where
  pub held : All (IsHeld (own v)) rows
  pub width : length rows ≤ v.arity
  pub head : may_stand_over h (trees_of (map (tree_at (own v)) rows)) ≡ true

-- one entry more: a Make of this row by a head over rows, or a Find
abbrev pub NotesCreation : List Entry → List Entry → Head → List Row → Row → Type 0
NotesCreation old new h rows row =
    (n : ℕ) × ((new ≡ old ++ Make n h (names rows) row.0 ∷ [])
    ⊎ (new ≡ old ++ Find n h (names rows) row.0 ∷ []))

-- one entry more: a Collect, whose names ascend and are below the rows
abbrev pub NotesCollect : ℕ → List Entry → List Entry → Type 0
NotesCollect rows old new =
    (n : ℕ) × (kept : List ℕ) × (new ≡ old ++ Collect n kept ∷ []) × IsAscending kept
    × ((r : ℕ) → Contains kept r → r < rows)

-- one Make or one Find was noted, and its row is on the own list with the tree asked
pub record Got (v w : PassView) (h : Head) (rows : List Row) (row : Row) : Type 0 where
  pub rest : w ≡ record v {
    fresh = w.fresh;
    held = w.held;
    entries = w.entries;
    greatest = w.greatest;
    built = v.built ++ over v h rows ∷ [];
  }
  pub notes : NotesCreation v.entries w.entries h rows row
  pub tree : HasTree (own w) row (over v h rows)
  pub all : KeepsAll (own v) (own w)
  pub only : (r : Row) (t : Tree) → HasTree (own w) r t → HasTree (own v) r t ⊎ (t ≡ over v h rows)

-- one Collect was noted
pub record Swept (v w : PassView) : Type 0 where
  pub rest : w ≡ record v {
    fresh = true;
    held = w.held;
    base = w.base;
    entries = w.entries;
    greatest = w.greatest;
    crowd = w.crowd;
    hand = v.rooted;
    sweeps = v.sweeps + 1;
  }
  pub notes : NotesCollect v.rows v.entries w.entries
  pub none : GainsNone (own v) (own w)
  pub rows : Loses (own v) (own w)

-- all rows are live, and the tree has none
pub record IsFilled (v : PassView) (h : Head) (rows : List Row) : Type 0 where
  pub full : distinct v.crowd ≡ v.rows
  pub absent : Contains v.crowd (over v h rows) → ⊥
