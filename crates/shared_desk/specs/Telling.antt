-- What the chronicle of a closed store tells of a desk, by the pass that it gave back; and which
-- passes may have a desk.
use Rattle.std.specs.Prelude.{◌≡◌, ◌⊎◌, ℕ, ◌+◌, ◌≤◌, ◌==◌, ◌&&◌, if◌then◌else◌, List, [], ◌∷◌, ◌++◌, All}
use Rattle.std.specs.List.{flat_map}
use Rattle.term_model.specs.Tree.{Tree, list_of, subtrees, distinct}
use Rattle.busy_forbidden.specs.Dealt.{EachPlace}
use Rattle.history_core.specs.declared.entry.Entry.{Entry}
use Rattle.history_core.specs.Entry.{is_collect}
use Rattle.history_core.specs.Chronicle.{History, chronicle, set_of, IsLegal}
use Rattle.history_core.specs.TermSet.{empty, trees_at}
use Rattle.history_core.specs.Told.{told, named, rooted_trees, kept_trees}
use Rattle.node_rows.specs.declared.store.Store.{Store}
use Rattle.node_rows.specs.declared.store.Pass.{Pass}
use Rattle.node_rows.specs.Belonging.{IsPassOf}
use Rattle.node_rows.specs.Crowding.{EndsWith, IsLastCollect}
use Rattle.node_rows.specs.Opening.{IsNew}
use Rattle.node_rows.specs.Passes.{IsStore, IsPass, IsOut}
use Rattle.node_rows.specs.Told.{Tells, HasEntries, KeepsOrder, TellsTrees, TellsCrowd, view_of}
use Rattle.shared_desk.specs.Held.{IsWhole}
use Rattle.shared_desk.specs.Pass.{PassView}
use Rattle.shared_desk.specs.Passes.{IsBack}

-- how many Collects a caller has in a history
abbrev pub collects_by : ℕ → History → ℕ
collects_by caller [] = 0
collects_by caller (x ∷ xs) =
    (if x.0 == caller && is_collect x.1 then 1 else 0) + collects_by caller xs

-- The trees that a desk has built are those that its pass's Make and Find entries name in the
-- chronicle, in order.
abbrev pub BuiltAreNamed : Type 0
BuiltAreNamed = (lists : List (List Entry)) (v : PassView) (p : Pass) → IsBack v p
    → TellsTrees lists p
    → told named p.seat.number empty (chronicle lists) ≡ v.built

-- Of the trees of all its Roots there, those of its last Roots are the last.
abbrev pub RootedAreLast : Type 0
RootedAreLast = (lists : List (List Entry)) (v : PassView) (p : Pass) → IsBack v p
    → TellsTrees lists p
    → EndsWith (told rooted_trees p.seat.number empty (chronicle lists)) v.rooted

-- Of the trees that its Collects kept there, its crowd is the last.
abbrev pub CrowdIsLast : Type 0
CrowdIsLast = (lists : List (List Entry)) (v : PassView) (p : Pass) → IsBack v p
    → TellsCrowd lists p
    → EndsWith (told kept_trees p.seat.number empty (chronicle lists)) v.crowd

-- It is the trees of the names that its last Collect kept, at that entry's place.
abbrev pub CrowdIsOfItsNames : Type 0
CrowdIsOfItsNames = (lists : List (List Entry)) (v : PassView) (p : Pass) → IsBack v p
    → TellsCrowd lists p
    → (c : IsLastCollect (chronicle lists) p.seat.number)
    → v.crowd ≡ list_of (trees_at (set_of c.before).held c.kept)

-- The trees that a caller protects after these entries: those of its last Roots there, with what
-- they have under their names.
abbrev pub protected_by : ℕ → History → List Tree
protected_by caller l = list_of (trees_at (set_of l).held ((set_of l).roots caller))

-- Its hand is what it protected at its last Collect there.
abbrev pub HandIsProtected : Type 0
HandIsProtected = (rows : ℕ) (lists : List (List Entry)) (v : PassView) (p : Pass) → IsBack v p
    → KeepsOrder lists p → TellsTrees lists p
    → IsLegal rows (chronicle lists) → (c : IsLastCollect (chronicle lists) p.seat.number)
    → v.hand ≡ protected_by p.seat.number c.before

-- At no place there does it protect trees with more different subtrees than its load.
abbrev pub LoadIsMost : Type 0
LoadIsMost = (rows : ℕ) (lists : List (List Entry)) (v : PassView) (p : Pass) → IsBack v p
    → KeepsOrder lists p → TellsTrees lists p
    → IsLegal rows (chronicle lists) → (before rest : History) → chronicle lists ≡ before ++ rest
    → distinct (flat_map subtrees (protected_by p.seat.number before)) ≤ v.load

-- And where that isn't 0, it does so at some place with just as many.
abbrev pub LoadIsReached : Type 0
LoadIsReached = (rows : ℕ) (lists : List (List Entry)) (v : PassView) (p : Pass) → IsBack v p
    → KeepsOrder lists p → TellsTrees lists p
    → IsLegal rows (chronicle lists)
    → (v.load ≡ 0) ⊎ ((before : History) × (rest : History) × (chronicle lists ≡ before ++ rest)
    × (distinct (flat_map subtrees (protected_by p.seat.number before)) ≡ v.load))

-- It has collected as often as its pass has Collects there.
abbrev pub SweepsAreCounted : Type 0
SweepsAreCounted = (lists : List (List Entry)) (v : PassView) (p : Pass) → IsBack v p
    → HasEntries lists p
    → collects_by p.seat.number (chronicle lists) ≡ v.sweeps

-- a pass of this store at which a desk may be made
pub record MayHaveDesk (s : Store) (p : Pass) : Type 0 where
  pub of : IsPassOf s p
  pub out : IsOut (view_of p)
  pub told : Tells p
  pub whole : IsWhole s.sizes (view_of p).store
  pub none : (view_of p).store.root_count ≡ 0

-- All passes of a new store may have desks.
abbrev pub NewMayHaveDesks : Type 0
NewMayHaveDesks =
    (s : Store) (ps : List Pass) → IsStore s.table.shared.table_id s.table.shared.key s.sizes
    → EachPlace (λ j p. IsNew s.table.shared.table_id s.sizes j p.seat.seat p.seat.number
    p.seat.seats) s.sizes.seats ps
    → All (λ p. IsPass s.table.shared.table_id s.sizes p.seat.seat p.seat.seats
    × IsOut p.seat.seat.me.0) ps
    → All Tells ps → All (MayHaveDesk s) ps
