-- Laws of the machine.
use Rattle.std.specs.Prelude.{◌≡◌, ◌≢◌, ◌⊎◌, ◌↔◌, ℕ, suc, ◌+◌, ◌*◌, ◌^◌, ◌<◌, ◌≤◌, ◌==◌, if◌then◌else◌, true, Some, None, List, [], ◌∷◌, ◌++◌, length, slice_set, Contains}
use Rattle.history_core.specs.declared.entry.Entry.{Entry}
use Rattle.history_core.specs.declared.entry.Entry.TheVariants.{Make, Find}
use Rattle.history_core.specs.Entry.{IsAscending}
use Rattle.history_core.specs.TermSet.{Names, Holds, tree_over}
use Rattle.history_core.specs.Chronicle.{set_of}
use Rattle.store_model.specs.Words.{Place, Base, FreeCount, Claim, InUse, write}
use Rattle.store_model.specs.Calls.{Content, Call, Idle, Counting, Refusal, View, bucket}
use Rattle.store_model.specs.Machine.{Sizes, State, Each, IsCreation, action, gained, with_call, widest}
use Rattle.store_model.specs.Meaning.{Meaning, grown}
use Rattle.store_model.specs.Seats.{wanted}
use Rattle.store_model.specs.Invariant.{span}
use Rattle.store_model.specs.Steps.{loads, value_at, names_left, grown_use, ReachesByWords}
use Rattle.store_model.specs.Reads.{IsRefusal}
use Rattle.store_model.specs.HistoryMatches.{history_of}
use Rattle.store_model.specs.Runs.{AreSizes, StartsWith, at_start}
use Rattle.store_model.specs.StoreHolds.{StoreHolds}
use Rattle.store_model.specs.Shown.{in_table, index_of, shown, total}
use Rattle.store_model.specs.StoreSteps.{Act, Loads, Stores, Draws, Exchanges, act, IsInPlace, after, Leads}
use Rattle.store_model.specs.declared.step.StoreStep.{StoreStep}
use Rattle.store_model.specs.declared.step.StoreStep.TheVariants.{LoadAny, StoreClaim}

-- the pairs have r as the name of the head of c over the trees of its arguments
abbrev pub HoldsTree : Names → ℕ → Content → Type 0
HoldsTree held r c = Holds held r (tree_over held c.head c.arguments)

-- the word of an act, and what it becomes where it was n
abbrev pub act_place : Act → Place
act_place (Loads p) = p
act_place (Stores p n) = p
act_place Draws = Claim
act_place (Exchanges p old new) = p

abbrev pub act_written : Act → ℕ → ℕ
act_written (Loads p) n = n
act_written (Stores p k) n = k
act_written Draws n = suc n
act_written (Exchanges p old new) n = if n == old then new else n

-- A creation's next act is its next action.
abbrev pub ActsAreActions : Type 0
ActsAreActions = (v : View) (x : Call) → (act_place (act v x) ≡ (action v x).place)
    × ((n : ℕ) → act_written (act v x) n ≡ (action v x).written n)

-- Each step keeps what holds, it holds of a new store, and so after every list of steps, whatever
-- the seats do in between.
abbrev pub StepsKeep : Type 0
StepsKeep = (z : Sizes) (s : State) (i : ℕ) (x : StoreStep) → StoreHolds z s → IsInPlace z s i x
    → StoreHolds z (after z s i x)

abbrev pub StartHolds : Type 0
StartHolds = (z : Sizes) (w : Place → ℕ) → AreSizes z → StartsWith z w → StoreHolds z (at_start z w)

abbrev pub RunsHold : Type 0
RunsHold = (z : Sizes) (w : Place → ℕ) (steps : List (ℕ × StoreStep)) (s : State) → AreSizes z
    → StartsWith z w → Leads z (at_start z w) steps s → StoreHolds z s

-- A write at a place of the table is one to its word; each place of the table is within it, past
-- the lock's words, and has an index of its own; and a write to a word of the lock shows nothing.
abbrev pub WritesAreShown : Type 0
WritesAreShown = (z : Sizes) (words : List ℕ) (p : Place) (n : ℕ) → in_table z p ≡ true
    → index_of z p < length words → shown z (slice_set words (index_of z p) n)
    ≡ write (shown z words) p n

abbrev pub PlacesInside : Type 0
PlacesInside = (z : Sizes) (p : Place) → in_table z p ≡ true → (1 + 2 * z.seats ≤ index_of z p)
    × (index_of z p < total z)

abbrev pub PlacesApart : Type 0
PlacesApart = (z : Sizes) (p q : Place) → in_table z p ≡ true → in_table z q ≡ true
    → index_of z p ≡ index_of z q → p ≡ q

-- A table has so many words.
abbrev pub TotalIs : Type 0
TotalIs = (z : Sizes) → total z ≡ 5 + 2 * z.seats + z.rows + z.buckets + z.rows * (widest z + 4)
    + z.seats * (z.depth + 1)

abbrev pub LockIsApart : Type 0
LockIsApart = (z : Sizes) (words : List ℕ) (k n : ℕ) → k < 1 + 2 * z.seats
    → shown z (slice_set words k n) ≡ shown z words

-- Each step leaves the views of all other seats.
abbrev pub OthersStay : Type 0
OthersStay = (z : Sizes) (s : State) (i j : ℕ) (x : StoreStep) → j ≢ i
    → (after z s i x).view j ≡ s.view j

-- the entry of a creation of c that ended with row r
pub data IsEntryOf (c : Content) (r : ℕ) : Entry → Type 0 where
  made : (number : ℕ) → IsEntryOf c r (Make number c.head c.arguments r)
  found : (seen : ℕ) → IsEntryOf c r (Find seen c.head c.arguments r)

-- A creation ended with a row: exactly one entry is appended, its Make or its Find.
pub record EndsWithRow (v u : View) (c : Content) : Type 0 where
  pub row : ℕ
  pub number : ℕ
  pub entry : Entry
  pub is : u ≡ gained v c row number entry
  pub of : IsEntryOf c row entry

-- A creation ended with Full: no entry is appended, and its refusal is.
pub record EndsFull (v u : View) (c : Content) : Type 0 where
  pub refusal : Refusal
  pub content : refusal.content ≡ c
  pub refused : u.refused ≡ v.refused ++ refusal ∷ []
  pub entries : u.entries ≡ v.entries
  pub path : refusal.path ≡ v.path

-- A creation ends with a row or with Full.
abbrev pub CreationEnds : Type 0
CreationEnds = (v : View) (x : Call) (c : Content) (n : ℕ) → IsCreation x → wanted x ≡ Some c
    → ((action v x).moved n).call ≡ Idle
    → EndsWithRow v ((action v x).moved n) c ⊎ EndsFull v ((action v x).moved n) c

-- Every refusal that a seat keeps has its cause: the chain from the head that the call loaded was
-- read to its end, each row in it differed, and the claim was read or drawn as at least the free
-- count.
abbrev pub RefusalsHaveCause : Type 0
RefusalsHaveCause =
    (z : Sizes) (s : State) (i : ℕ) → StoreHolds z s → Each IsRefusal (s.view i).refused

-- The row that a creation ended with has the asked tree: in the set that all entries then leave it
-- is the name of the head over the trees of the arguments.
abbrev pub RowIsAsked : Type 0
RowIsAsked = (z : Sizes) (s : State) (i : ℕ) (x : StoreStep) (c : Content) (r number : ℕ)
    (e : Entry) → StoreHolds z s → IsInPlace z s i x
    → wanted (s.view i).call ≡ Some c → (after z s i x).view i ≡ gained (s.view i) c r number e
    → HoldsTree (set_of (history_of z (after z s i x).view)).held r c

-- After a collection in its exclusive access, a creation that has walked its chain finds no live
-- row with its tree; and the claim that it has read is at least the free count exactly where all
-- rows are live.
pub record IsExactlyFull (z : Sizes) (w : Place → ℕ) (m : Meaning) (c : Content)
    (claim : ℕ) : Type 0 where
  pub absent : (r : ℕ) → m.live r ≡ true → m.tree r ≢ grown m.tree c
  pub full : (w FreeCount ≤ claim) ↔ ((r : ℕ) → r < z.rows → m.live r ≡ true)

abbrev pub FullIsExact : Type 0
FullIsExact = (z : Sizes) (s : State) (i : ℕ) (k : StoreHolds z s) (c : Content) (from n : ℕ)
    → (s.view i).fresh ≡ true
    → (s.view i).call ≡ Counting c from n → IsExactlyFull z k.began k.meaning c n

-- With one seat the same holds of every creation: none of its exchanges is lost, so it leaves no
-- row unused.
abbrev pub FullIsExactAlone : Type 0
FullIsExactAlone = (z : Sizes) (s : State) (i : ℕ) (k : StoreHolds z s) (c : Content) (from n : ℕ)
    → z.seats ≡ 1 → i < z.seats
    → (s.view i).call ≡ Counting c from n → IsExactlyFull z k.began k.meaning c n

-- A load ends a collection exactly where the base, the claim and the free count are then loaded and
-- leave no room for another epoch: Worn. It changes no word, and nothing of the view but that.
pub record IsWorn (z : Sizes) (s : State) (i : ℕ) (p : Place) : Type 0 where
  pub base : ℕ
  pub claim : ℕ
  pub count : ℕ
  pub base_loaded : value_at Base (loads (s.view i).call ++ (p, s.words p) ∷ []) ≡ Some base
  pub claim_loaded : value_at Claim (loads (s.view i).call ++ (p, s.words p) ∷ []) ≡ Some claim
  pub count_loaded : value_at FreeCount (loads (s.view i).call ++ (p, s.words p) ∷ []) ≡ Some count
  pub no_room : 2 ^ 62 < base + claim + 1 + span z

abbrev pub WornIsExact : Type 0
WornIsExact = (z : Sizes) (s : State) (i : ℕ) (p : Place)
    → (((after z s i (LoadAny p)).view i).call ≡ Idle) ↔ IsWorn z s i p

abbrev pub WornChangesNothing : Type 0
WornChangesNothing =
    (z : Sizes) (s : State) (i : ℕ) (p : Place) → ((after z s i (LoadAny p)).view i).call ≡ Idle
    → ((after z s i (LoadAny p)).words ≡ s.words)
    × ((after z s i (LoadAny p)).view i ≡ with_call (s.view i) Idle)

-- The names that a collection keeps are exactly the rows reachable from any seat's protected rows,
-- ascending.
abbrev pub CollectionKeepsReached : Type 0
CollectionKeepsReached =
    (z : Sizes) (s : State) (i : ℕ) → StoreHolds z s → IsInPlace z s i (StoreClaim 0)
    → IsAscending (names_left z s.words)
    × ((r : ℕ) → Contains (names_left z s.words) r ↔ ReachesByWords s.words r)

-- The pairs that all entries leave
abbrev pub held_by : Sizes → (ℕ → View) → Names
held_by z view = (set_of (history_of z view)).held

-- A collection leaves what is reached under its names with its trees, and nothing else.
abbrev pub CollectionKeepsTrees : Type 0
CollectionKeepsTrees =
    (z : Sizes) (s : State) (i r : ℕ) → StoreHolds z s → IsInPlace z s i (StoreClaim 0)
    → (ReachesByWords s.words r → held_by z (after z s i (StoreClaim 0)).view r
    ≡ held_by z s.view r)
    × ((ReachesByWords s.words r → ⊥) → held_by z (after z s i (StoreClaim 0)).view r ≡ None)

-- The buckets in use are then the lesser of all buckets and twice those before, where twice the
-- rows that stay exceed these, and else those before.
abbrev pub CollectionGrowsUse : Type 0
CollectionGrowsUse =
    (z : Sizes) (s : State) (i : ℕ) (k : StoreHolds z s) → IsInPlace z s i (StoreClaim 0)
    → (after z s i (StoreClaim 0)).words InUse
    ≡ grown_use z (k.began InUse) (length (names_left z s.words))

-- Equal content, equal bucket.
abbrev pub EqualContentEqualBucket : Type 0
EqualContentEqualBucket = (c d : Content) (in_use : ℕ) → c ≡ d → bucket c in_use ≡ bucket d in_use
