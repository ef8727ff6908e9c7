-- What the last collection of a pass kept: its names, and their trees, the crowd.
use Rattle.std.specs.Prelude.{◌≡◌, ℕ, zero, suc, ◌<◌, Bool, true, false, List, [], ◌∷◌, ◌++◌, length, Contains}
use Rattle.term_model.specs.Tree.{Tree, list_of, distinct}
use Rattle.history_core.specs.declared.entry.Entry.{Entry}
use Rattle.history_core.specs.declared.entry.Entry.TheVariants.{Make, Find, Roots, Collect}
use Rattle.history_core.specs.Entry.{is_collect, IsAscending}
use Rattle.history_core.specs.TermSet.{Names, Holds, IsHeld, Lacks, empty, with_pair, trees_at}
use Rattle.history_core.specs.Chronicle.{History, chronicle, part_of, set_of}
use Rattle.history_core.specs.Told.{told, kept_trees}
use Rattle.store_model.specs.declared.view.Sizes.{Sizes}
use Rattle.store_model.specs.declared.view.View.{View}
use Rattle.store_model.specs.Machine as core
use Rattle.store_model.specs.Machine.{Each}
use Rattle.store_model.specs.Steps.{names_left}
use Rattle.store_model.specs.StoreHolds.{StoreHolds}
use Rattle.store_model.specs.Invariant.{listed}
use Rattle.store_model.specs.Laws.{held_by}
use Rattle.node_rows.specs.declared.view.NodeView.{NodeView}

abbrev pub kept_after : List ℕ → Entry → List ℕ
kept_after names (Make number head args row) = names
kept_after names (Find seen head args row) = names
kept_after names (Roots seen rows) = names
kept_after names (Collect number kept) = kept

abbrev pub kept_from : List ℕ → List Entry → List ℕ
kept_from names [] = names
kept_from names (e ∷ es) = kept_from (kept_after names e) es

-- the names that the last Collect kept; none without one
abbrev pub kept_in : List Entry → List ℕ
kept_in es = kept_from [] es

abbrev pub ends_from : Bool → List Entry → Bool
ends_from b [] = b
ends_from b (e ∷ es) = ends_from (is_collect e) es

-- whether the last entry is a Collect
abbrev pub ends_in_collect : List Entry → Bool
ends_in_collect es = ends_from false es

-- a pass is in the exclusive access of its last collection, and has noted nothing since
pub record IsSwept (v : View) : Type 0 where
  pub fresh : v.fresh ≡ true
  pub last : ends_in_collect v.entries ≡ true

-- the pairs of these names with these trees, in order, and no others
abbrev pub pairs_of : List ℕ → List Tree → Names
pairs_of [] ts = empty.held
pairs_of (n ∷ ns) [] = empty.held
pairs_of (n ∷ ns) (t ∷ ts) = with_pair (pairs_of ns ts) n t

-- the last of these trees are those
pub record EndsWith (trees last : List Tree) : Type 0 where
  pub before : List Tree
  pub is : trees ≡ before ++ last

-- Of the entries of all passes, and of pass i with its own: the names that its last Collect kept
-- ascend, and are those that its last one in the chronicle kept; the crowd has a tree for each of
-- them, all different; and of the trees that its Collects kept in the chronicle, each at its place,
-- they are the last.
pub record IsCrowd (lists : List (List Entry)) (i : ℕ) (es : List Entry)
    (crowd : List Tree) : Type 0 where
  pub noted : kept_in (part_of i (chronicle lists)) ≡ kept_in es
  pub names : IsAscending (kept_in es)
  pub many : length crowd ≡ length (kept_in es)
  pub differ : distinct crowd ≡ length crowd
  pub told : EndsWith (told kept_trees i empty (chronicle lists)) crowd

-- Each pass has its crowd; and where it has noted nothing since its collection, in the same access,
-- the set that all entries leave is that of the names kept, with the trees of the crowd.
pub record Crowds (z : Sizes) (view : ℕ → View) (crowd : ℕ → List Tree) : Type 0 where
  pub each : (i : ℕ) → i < z.seats
      → IsCrowd (listed z.seats (λ j. (view j).entries)) i (view i).entries (crowd i)
  pub held : (i : ℕ) → i < z.seats → IsSwept (view i)
      → held_by z view ≡ pairs_of (kept_in (view i).entries) (crowd i)

-- the trees of the names that a collection keeps which ends now
abbrev pub crowd_now : Sizes → core.State → List Tree
crowd_now z t = list_of (trees_at (held_by z t.view) (names_left z t.words))

-- the crowd of a seat, by the view j; a seat that isn't split off yet has none
abbrev pub crowd_at : List NodeView → ℕ → List Tree
crowd_at [] j = []
crowd_at (v ∷ vs) zero = v.crowd
crowd_at (v ∷ vs) (suc j) = crowd_at vs j

-- the view once the last store of a collection has left it so, with this crowd
abbrev pub swept : NodeView → View → List Tree → NodeView
swept v x crowd = record v { store = x; crowd = crowd }

-- There is a store in which the facts hold, in which seat i has this view, and for which its crowd
-- is as the rule says.
pub record HasCrowd (z : Sizes) (i : ℕ) (v : NodeView) : Type 0 where
  pub store : core.State
  pub holds : StoreHolds z store
  pub own : store.view i ≡ v.store
  pub crowd : IsCrowd (listed z.seats (λ j. (store.view j).entries)) i v.store.entries v.crowd
  pub held : IsSwept v.store → held_by z store.view ≡ pairs_of (kept_in v.store.entries) v.crowd

-- Where then each row has a tree in the set that all entries leave, the crowd has as many different
-- trees as there are rows.
abbrev pub FullIsCrowded : Sizes → Type 0
FullIsCrowded z = (i : ℕ) (v : NodeView) (h : HasCrowd z i v) → IsSwept v.store
    → ((r : ℕ) → r < z.rows → IsHeld (held_by z h.store.view) r)
    → distinct v.crowd ≡ z.rows

-- And a tree that the set lacks isn't in the crowd.
abbrev pub AbsentIsNotCrowded : Sizes → Type 0
AbsentIsNotCrowded z = (i : ℕ) (v : NodeView) (h : HasCrowd z i v) → IsSwept v.store → (t : Tree)
    → Lacks (held_by z h.store.view) t
    → Contains v.crowd t → ⊥

-- A pair of names and trees has both.
abbrev pub PairsAreKept : Type 0
PairsAreKept = (names : List ℕ) (trees : List Tree) (r : ℕ) (t : Tree)
    → Holds (pairs_of names trees) r t → Contains names r × Contains trees t

-- where the last Collect of a caller stands in a history, with what is before it and after it
pub record IsLastCollect (l : History) (i : ℕ) : Type 0 where
  pub before : History
  pub number : ℕ
  pub kept : List ℕ
  pub rest : History
  pub is : l ≡ before ++ (i, Collect number kept) ∷ rest
  pub last : Each (λ (y : ℕ × Entry). y.0 ≡ i → is_collect y.1 ≡ false) rest

-- The crowd of a pass is the trees of the names that its last Collect kept, at that entry's place.
abbrev pub CrowdAtItsPlace : Type 0
CrowdAtItsPlace = (lists : List (List Entry)) (i : ℕ) (es : List Entry) (crowd : List Tree)
    → IsCrowd lists i es crowd → (p : IsLastCollect (chronicle lists) i)
    → crowd ≡ list_of (trees_at (set_of p.before).held p.kept)
