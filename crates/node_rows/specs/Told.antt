-- What a pass tells of its own entries, and the chronicle of all passes.
use Rattle.std.specs.Prelude.{◌≡◌, ◌↔◌, ℕ, Bool, Option, Some, None, List, [], ◌∷◌, length, slice_index_or, Contains}
use Rattle.atomic_table.specs.declared.shared.Seat.{Seat}
use Rattle.term_model.specs.declared.Row.{Row}
use Rattle.history_core.specs.declared.entry.Entry.{Entry}
use Rattle.history_core.specs.declared.entry.Entry.TheVariants as entry
use Rattle.history_core.specs.Chronicle.{chronicle, part_of, entries_of, KeysRise}
use Rattle.mark_phase.specs.Reachable.{IsMarked}
use Rattle.store_model.specs.declared.view.View.{View}
use Rattle.store_model.specs.Recalls.{EntriesRecalled}
use Rattle.node_rows.specs.declared.view.NodeView.{NodeView}
use Rattle.node_rows.specs.declared.store.Last.{Last}
use Rattle.node_rows.specs.declared.store.Last.TheVariants.{Nothing, Make, Find, Roots, Collect}
use Rattle.node_rows.specs.declared.store.Pass.{Pass}
use Rattle.node_rows.specs.Crowding.{kept_in, IsCrowd}
use Rattle.node_rows.specs.Joining.{lists_in}

-- an entry's kind, with its number, or the greatest that its caller had seen then
abbrev pub told_by : Entry → Last
told_by (entry.Make number head args row) = Make number
told_by (entry.Find seen head args row) = Find seen
told_by (entry.Roots seen rows) = Roots seen
told_by (entry.Collect number kept) = Collect number

-- that of the last entry, and this where there is none
abbrev pub last_from : Last → List Entry → Last
last_from x [] = x
last_from x (e ∷ es) = last_from (told_by e) es

abbrev pub last_in : List Entry → Last
last_in es = last_from Nothing es

-- The plain data of a pass tell the greatest number that it has seen, its last entry, and the names
-- that its last Collect kept.
pub record IsTold (v : View) (rows seen : ℕ) (last : Last) (marks : List Bool) : Type 0 where
  pub seen_is : seen ≡ v.seen
  pub last_is : last ≡ last_in v.entries
  pub room : length marks ≡ rows
  pub kept : (r : Row) → IsMarked marks r ↔ Contains (kept_in v.entries) r.0

abbrev pub Tells : Pass → Type 0
Tells p = IsTold p.seat.seat.me.0.store p.rows p.seen p.last p.marks

-- the entries of each pass that a seat knows, or none
abbrev pub lists_told : Option (Seat (Unit {0}) NodeView) → List (List Entry)
lists_told None = []
lists_told (Some s) = lists_in s.me.0.sizes.seats s.me.0

-- what a pass knows of lock and store
abbrev pub view_of : Pass → NodeView
view_of p = p.seat.seat.me.0

-- a pass has its own entries in the lists, under its number
abbrev pub HasEntries : List (List Entry) → Pass → Type 0
HasEntries lists p = slice_index_or lists p.seat.number [] ≡ p.seat.seat.me.0.store.entries

-- and they stand in the chronicle of these lists in its own order
abbrev pub KeepsOrder : List (List Entry) → Pass → Type 0
KeepsOrder lists p = part_of p.seat.number (chronicle lists) ≡ (view_of p).store.entries

-- The keys of the entries that it has in the lists rise: none is below an earlier one, and those of
-- Make and Collect are above all earlier ones.
abbrev pub HasRisingKeys : List (List Entry) → Pass → Type 0
HasRisingKeys lists p = KeysRise (entries_of lists p.seat.number)

-- The trees that a pass's Make and Find entries name in the chronicle of these lists are, in order,
-- those that its own entries tell; and so are those of its Roots.
abbrev pub TellsTrees : List (List Entry) → Pass → Type 0
TellsTrees lists p = EntriesRecalled lists p.seat.number (view_of p).store.entries

-- its crowd is as the lists tell
abbrev pub TellsCrowd : List (List Entry) → Pass → Type 0
TellsCrowd lists p = IsCrowd lists p.seat.number (view_of p).store.entries (view_of p).crowd
