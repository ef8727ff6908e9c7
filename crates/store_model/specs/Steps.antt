-- Which steps are in place, and what they do.
use Rattle.std.specs.Prelude.{◌≡◌, ◌⊎◌, ◌↔◌, ℕ, zero, suc, pred, ◌+◌, ◌*◌, ◌<◌, ◌≤◌, ◌^◌, ◌==◌, nat_lt, min, if◌then◌else◌, Bool, true, false, List, [], ◌∷◌, ◌++◌, length, Option, Some, None, replicate}
use Rattle.lock_core.specs.declared.parts.Phase.TheVariants as phase
use Rattle.lock_core.specs.declared.parts.LockStep.TheVariants.{Lower, Unask, Give}
use Rattle.lock_core.specs.Lock.{Lock, seat_of}
use Rattle.lock_core.specs.Lock as lock
use Rattle.lock_core.specs.Exclusion.{IsExclusive}
use Rattle.history_core.specs.Chronicle.{last_roots}
use Rattle.store_model.specs.Bases.{BasesKnown}
use Rattle.store_model.specs.Words.{Place, Base, FreeCount, Claim, InUse, FreePlace, Bucket, RowWord, Birth, Next, RootCount, Root, write, put, same_place}
use Rattle.store_model.specs.Seats.{Where, index}
use Rattle.store_model.specs.Calls.{Call, Idle, Loading, Storing, Away, Based, Ready, Leaving, View, bucket, Comparing, Passing, Finding, Ended, Counting, Drawing, Placing, Filling, Numbering, Linking, Publishing, Content}
use Rattle.store_model.specs.Machine.{Sizes, State, acted, with_call, load, begins, action, Step, LockAlone, LowerShared, UnaskSeat, GiveGranted, LoadBase, LoadInUse, Begin, Go, LoadRoot, StoreRoot, StoreCount, ReadWord, ReadArgument, LoadAny, StoreAny, StoreClaim, InAccess, based, ready, leaving, left, protected_in, rooted, root_counted, knowing, roots_of, with_got, Each, MayName, MayBegin, IsCreation, widest}
use Rattle.store_model.specs.Meaning.{Meaning}
use Rattle.store_model.specs.Invariant.{Holds, RowsHold, ChainsHold, span}
use Rattle.store_model.specs.Collection.{collected}
use Rattle.store_model.specs.Shown.{in_table}

-- what a collection has loaded, and what it has stored
abbrev pub loads : Call → List (Place × ℕ)
loads (Loading ls) = ls
loads (Storing ls ss) = ls
loads x = []

abbrev pub stores : Call → List (Place × ℕ)
stores (Storing ls ss) = ss
stores x = []

abbrev pub is_storing : Call → Bool
is_storing (Storing ls ss) = true
is_storing x = false

abbrev pub is_collecting : Call → Bool
is_collecting (Loading ls) = true
is_collecting (Storing ls ss) = true
is_collecting x = false

-- the words that a collection stores before the claim
abbrev pub is_stored : Place → Bool
is_stored Base = true
is_stored FreeCount = true
is_stored InUse = true
is_stored (FreePlace i) = true
is_stored (Bucket b) = true
is_stored (Next r) = true
is_stored p = false

-- the words w with these stores, the last one first
abbrev pub stored_over : (Place → ℕ) → List (Place × ℕ) → Place → ℕ
stored_over w [] = w
stored_over w (x ∷ xs) = write (stored_over w xs) x.0 x.1

-- w has what was loaded
abbrev pub HasLoaded : (Place → ℕ) → Call → Type 0
HasLoaded w x = Each (λ q. w q.0 ≡ q.1) (loads x)

-- what was loaded first from p
abbrev pub value_at : Place → List (Place × ℕ) → Option ℕ
value_at p [] = None
value_at p (x ∷ xs) = if same_place x.0 p then Some x.1 else value_at p xs

-- A collection loads the base, the claim and the free count, and then any words.
abbrev pub IsNextLoad : List (Place × ℕ) → Place → Type 0
IsNextLoad [] p = p ≡ Base
IsNextLoad (a ∷ []) p = p ≡ Claim
IsNextLoad (a ∷ b ∷ []) p = p ≡ FreeCount
IsNextLoad (a ∷ b ∷ c ∷ ls) p = Unit {0}

-- whether the base, the claim and the free count are loaded, and leave no room for another epoch
abbrev pub is_worn : Sizes → Option ℕ → Option ℕ → Option ℕ → Bool
is_worn z (Some base) (Some claim) (Some count) = nat_lt (2 ^ 62) (base + claim + 1 + span z)
is_worn z base claim count = false

abbrev pub worn_by : Sizes → List (Place × ℕ) → Bool
worn_by z ls = is_worn z (value_at Base ls) (value_at Claim ls) (value_at FreeCount ls)

-- a collection after a load: Worn ends it
abbrev pub loading : Sizes → List (Place × ℕ) → Call
loading z ls = if worn_by z ls then Idle else Loading ls

-- A collection has loaded all of these words: the single words, the free places and the protected
-- rows below their counts, the buckets, and the words of the rows.
pub record IsWhole (z : Sizes) (w : Place → ℕ) (ls : List (Place × ℕ)) : Type 0 where
  pub base : value_at Base ls ≡ Some (w Base)
  pub claim : value_at Claim ls ≡ Some (w Claim)
  pub count : value_at FreeCount ls ≡ Some (w FreeCount)
  pub in_use : value_at InUse ls ≡ Some (w InUse)
  pub places : (i : ℕ) → i < w FreeCount → value_at (FreePlace i) ls ≡ Some (w (FreePlace i))
  pub buckets : (b : ℕ) → b < z.buckets → value_at (Bucket b) ls ≡ Some (w (Bucket b))
  pub row_words : (r k : ℕ) → r < z.rows → k < widest z + 2
      → value_at (RowWord r k) ls ≡ Some (w (RowWord r k))
  pub births : (r : ℕ) → r < z.rows → value_at (Birth r) ls ≡ Some (w (Birth r))
  pub nexts : (r : ℕ) → r < z.rows → value_at (Next r) ls ≡ Some (w (Next r))
  pub root_counts : (j : ℕ) → j < z.seats → value_at (RootCount j) ls ≡ Some (w (RootCount j))
  pub roots : (j k : ℕ) → j < z.seats → k < w (RootCount j)
      → value_at (Root j k) ls ≡ Some (w (Root j k))

-- a row that a seat has protected, or an argument of one that is reached, by the words
pub data ReachesByWords (w : Place → ℕ) : ℕ → Type 0 where
  protected_row : (j k : ℕ) → k < w (RootCount j) → ReachesByWords w (w (Root j k))
  argument_row : (r k : ℕ) → ReachesByWords w r → k < w (RowWord r 1)
      → ReachesByWords w (w (RowWord r (suc (suc k))))

-- whether r is among the first n free places
abbrev pub is_free : (ℕ → ℕ) → ℕ → ℕ → Bool
is_free place zero r = false
is_free place (suc n) r = if place n == r then true else is_free place n r

-- the rows below n that are in none of the first `count` free places, ascending
abbrev pub rows_left : (ℕ → ℕ) → ℕ → ℕ → List ℕ
rows_left place count zero = []
rows_left place count (suc n) =
    if is_free place count n then rows_left place count n else rows_left place count n ++ n ∷ []

-- the names that stay when a collection has stored these words
abbrev pub names_left : Sizes → (Place → ℕ) → List ℕ
names_left z w = rows_left (λ i. w (FreePlace i)) (w FreeCount) z.rows

-- the buckets in use after a collection that keeps so many rows
abbrev pub grown_use : Sizes → ℕ → ℕ → ℕ
grown_use z in_use live = if nat_lt in_use (2 * live) then min z.buckets (2 * in_use) else in_use

-- The claim's store ends a collection: with it the words have free places and chains whose live
-- rows are those that are reached; the base is one more than the collection's number, and the
-- buckets in use have grown where the live rows ask for it.
pub record MayEnd (z : Sizes) (s : State) (i : ℕ) : Type 0 where
  pub meaning : Meaning
  pub rows : RowsHold z (write s.words Claim 0) meaning
  pub chains : ChainsHold z (write s.words Claim 0) meaning
  pub live : (r : ℕ) → (meaning.live r ≡ true) ↔ ReachesByWords s.words r
  pub base : ℕ
  pub claim : ℕ
  pub in_use : ℕ
  pub base_loaded : value_at Base (loads (s.view i).call) ≡ Some base
  pub claim_loaded : value_at Claim (loads (s.view i).call) ≡ Some claim
  pub in_use_loaded : value_at InUse (loads (s.view i).call) ≡ Some in_use
  pub base_is : s.words Base ≡ base + claim + 1
  pub in_use_is : s.words InUse ≡ grown_use z in_use (length (names_left z s.words))

-- a seat is in a granted access and no call is under way
pub record IsAtRest (v : View) : Type 0 where
  pub call : v.call ≡ Idle
  pub stay : v.stay ≡ Ready

-- a creation may be made in shared access, and in an exclusive one after a collection of it
abbrev pub MayCreate : State → ℕ → Type 0
MayCreate s i = ((seat_of s.lock i).phase ≡ phase.Shared) ⊎ ((s.view i).fresh ≡ true)

-- the symbol word and the count of a row may be read, and the word after them of an integer's
abbrev pub MayRead : (Place → ℕ) → ℕ → ℕ → Type 0
MayRead w r k = (k < 2) ⊎ ((k ≡ 2) × (w (RowWord r 0) ≡ 4294967296))

-- the end of an exclusive access begins, or goes on
abbrev pub MayLeave : View → Type 0
MayLeave v = (v.stay ≡ Ready) ⊎ (v.stay ≡ Leaving)

-- the own protected rows are those of the last Roots
abbrev pub AreLastRoots : View → Type 0
AreLastRoots v = last_roots [] v.entries ≡ protected_in v

-- a collection begins, or has stored nothing yet
abbrev pub IsLoading : Call → Type 0
IsLoading x = (x ≡ Idle) ⊎ ((ls : List (Place × ℕ)) × (x ≡ Loading ls))

-- a collection goes on to store: it has loaded all, if it is its first store
abbrev pub MayStore : Sizes → (Place → ℕ) → Call → Type 0
MayStore z w (Loading ls) = IsWhole z w ls
MayStore z w (Storing ls ss) = Unit {0}
MayStore z w x = ⊥

abbrev pub Permits : Sizes → State → ℕ → Step → Type 0
Permits z s i (LockAlone x) = ((x ≡ Lower) → (seat_of s.lock i).phase ≡ phase.Blocked)
    × lock.InPlace s.lock i x × ((s.view i).stay ≡ Away)
Permits z s i LowerShared = ((seat_of s.lock i).phase ≡ phase.Shared) × lock.InPlace s.lock i Lower
    × IsAtRest (s.view i)
Permits z s i (UnaskSeat j) =
    lock.InPlace s.lock i (Unask j) × ((s.view i).call ≡ Idle) × MayLeave (s.view i)
Permits z s i GiveGranted =
    lock.InPlace s.lock i Give × ((s.view i).call ≡ Idle) × MayLeave (s.view i)
Permits z s i LoadBase = InAccess s.lock i × ((s.view i).call ≡ Idle) × ((s.view i).stay ≡ Away)
Permits z s i LoadInUse = ((s.view i).call ≡ Idle) × ((s.view i).stay ≡ Based)
Permits z s i (Begin c) = IsAtRest (s.view i) × MayCreate s i × MayBegin z s.words i (s.view i) c
Permits z s i Go = IsCreation (s.view i).call
Permits z s i (LoadRoot k) = IsAtRest (s.view i) × (k < (s.view i).root_count)
Permits z s i (StoreRoot k r) = IsAtRest (s.view i) × (k < z.depth) × MayName s.words i (s.view i) r
Permits z s i (StoreCount n) =
    IsAtRest (s.view i) × (n ≤ z.depth)
    × ((k : ℕ) → k < n → (k < (s.view i).root_count)
    ⊎ MayName s.words i (s.view i) (s.words (Root i k)))
Permits z s i (ReadWord r k) =
    IsAtRest (s.view i) × MayRead s.words r k × MayName s.words i (s.view i) r
Permits z s i (ReadArgument r j) =
    IsAtRest (s.view i) × (j < s.words (RowWord r 1)) × MayName s.words i (s.view i) r
Permits z s i (LoadAny p) =
    IsLoading (s.view i).call × ((s.view i).stay ≡ Ready) × IsExclusive s.lock i
    × AreLastRoots (s.view i)
    × (in_table z p ≡ true) × IsNextLoad (loads (s.view i).call) p
Permits z s i (StoreAny p n) =
    MayStore z s.words (s.view i).call × (in_table z p ≡ true) × (is_stored p ≡ true)
Permits z s i StoreClaim = (is_storing (s.view i).call ≡ true) × MayEnd z s i

pub record InPlace (z : Sizes) (s : State) (i : ℕ) (x : Step) : Type 0 where
  pub present : i < z.seats
  pub permitted : Permits z s i x

-- another view of its seat alone
abbrev pub seen_as : State → ℕ → Lock → (Place → ℕ) → View → State
seen_as s i l w v = record { lock = l; words = w; view = put s.view i v }

abbrev pub after : Sizes → State → ℕ → Step → State
after z s i (LockAlone x) = record { lock = lock.after s.lock i x; words = s.words; view = s.view }
after z s i LowerShared =
    seen_as s i (lock.after s.lock i Lower) s.words (left (s.view i) (protected_in (s.view i)))
after z s i (UnaskSeat j) = seen_as s i (lock.after s.lock i (Unask j)) s.words (leaving (s.view i))
after z s i GiveGranted =
    seen_as s i (lock.after s.lock i Give) s.words (left (s.view i) (protected_in (s.view i)))
after z s i LoadBase = acted s.words s.view i s.lock (load Base (based (s.view i)))
after z s i LoadInUse = acted s.words s.view i s.lock (load InUse (ready (s.view i)))
after z s i (Begin c) = acted s.words s.view i s.lock (begins (s.view i) c)
after z s i Go = acted s.words s.view i s.lock (action (s.view i) (s.view i).call)
after z s i (LoadRoot k) = acted s.words s.view i s.lock (load (Root i k) (with_got (s.view i)))
after z s i (StoreRoot k r) =
    seen_as s i s.lock (write s.words (Root i k) r) (rooted (s.view i) k r)
after z s i (StoreCount n) =
    seen_as s i s.lock (write s.words (RootCount i) n) (root_counted (s.view i) n)
after z s i (ReadWord r k) =
    acted s.words s.view i s.lock (load (RowWord r k) (knowing (s.view i) r k))
after z s i (ReadArgument r j) = acted s.words s.view i s.lock
    (load (RowWord r (suc (suc j))) (λ n. with_got (knowing (s.view i) r (suc (suc j)) n) n))
after z s i (LoadAny p) = acted s.words s.view i s.lock
    (load p (λ n. with_call (s.view i) (loading z (loads (s.view i).call ++ (p, n) ∷ []))))
after z s i (StoreAny p n) = seen_as s i s.lock (write s.words p n)
    (with_call (s.view i) (Storing (loads (s.view i).call) ((p, n) ∷ stores (s.view i).call)))
after z s i StoreClaim =
    seen_as s i s.lock (write s.words Claim 0)
    (collected (s.view i) (s.words Base) (pred (s.words Base)) (s.words InUse)
    (names_left z s.words))

-- Without a collection that has begun to store, the words are as the facts say. Such a collection
-- is alone; what it has loaded stands in the words of the facts, and is all of them once it stores;
-- and the present words are those with its stores.
pub record Collects (z : Sizes) (s : State) (kept : Place → ℕ) : Type 0 where
  pub calm : ((i : ℕ) → is_storing (s.view i).call ≡ false) → s.words ≡ kept
  pub alone : (i : ℕ) → is_collecting (s.view i).call ≡ true → IsExclusive s.lock i
  pub loaded : (i : ℕ) → HasLoaded kept (s.view i).call
  pub rooted : (i : ℕ) → is_collecting (s.view i).call ≡ true → last_roots [] (s.view i).entries
      ≡ roots_of kept i (kept (RootCount i))
  pub whole : (i : ℕ) → is_storing (s.view i).call ≡ true → IsWhole z kept (loads (s.view i).call)
  pub stored : (i : ℕ) → is_storing (s.view i).call ≡ true → (p : Place) → is_stored p ≡ false
      → s.words p ≡ kept p
  pub present : (i : ℕ) → is_storing (s.view i).call ≡ true
      → s.words ≡ stored_over kept (stores (s.view i).call)

-- the head that a walk began at
abbrev pub head_read : Call → Option (Content × ℕ)
head_read (Comparing c d from old at k) = Some (c, from)
head_read (Passing c d from old at dif) = Some (c, from)
head_read (Ended c from) = Some (c, from)
head_read (Counting c from n) = Some (c, from)
head_read (Drawing c from n) = Some (c, from)
head_read (Placing c from a) = Some (c, from)
head_read (Filling c from a r k) = Some (c, from)
head_read (Numbering c from a r) = Some (c, from)
head_read (Linking c from a r) = Some (c, from)
head_read (Publishing c from a r) = Some (c, from)
head_read x = None

-- no exchange was lost
abbrev pub IsFirst : Call → Type 0
IsFirst (Comparing c d from old at k) = d ≡ None
IsFirst (Passing c d from old at dif) = d ≡ None
IsFirst (Finding c d r) = d ≡ None
IsFirst x = Unit {0}

-- what a call has read of the claim
abbrev pub ReadNow : ℕ → Call → Type 0
ReadNow claim (Counting c from n) = n ≡ claim
ReadNow claim x = Unit {0}

-- After a collection in its exclusive access a seat is alone: each place below the claim holds a
-- live row, but for the one that its call has drawn, and the head that its call read is still
-- there.
pub record IsFresh (l : Lock) (w : Place → ℕ) (is_live : ℕ → Bool) (i : ℕ) (v : View) : Type 0 where
  pub alone : IsExclusive l i
  pub stays : v.stay ≡ Ready
  pub full : (k : ℕ) → k < w Claim → k < w FreeCount → (is_live (w (FreePlace k)) ≡ true)
      ⊎ (index v.call ≡ Some k)
  pub head : Where (head_read v.call) (λ h. w (Bucket (bucket h.0 (w InUse))) ≡ h.1)
  pub first : IsFirst v.call
  pub read : ReadNow (w Claim) v.call

pub record CoreHolds (z : Sizes) (s : State) : Type 0 where
  pub meaning : Meaning
  pub kept : Place → ℕ
  pub holds : Holds z (record { lock = s.lock; words = kept; view = s.view }) meaning
  pub under : Collects z s kept
  pub bases : BasesKnown z (kept Base) s.view
  pub fresh : (i : ℕ) → (s.view i).fresh ≡ true → IsFresh s.lock kept meaning.live i (s.view i)

-- a seat that has done nothing
abbrev pub newcomer : Sizes → View
newcomer z = record {
  call = Idle;
  stay = Away;
  base = 0;
  in_use = 0;
  roots = replicate z.depth 0;
  root_count = 0;
  got = [];
  knows = [];
  seen = 0;
  overdraw = None;
  entries = [];
  fresh = false;
  passed = 0;
  path = [];
  refused = [];
}
