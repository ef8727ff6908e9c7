-- What a seat's own view shows of the steps that it may make: enough, beside the lock, for them to
-- be in place.
use Rattle.std.specs.Prelude.{◌≡◌, ◌⊎◌, ℕ, ◌+◌, ◌<◌, ◌≤◌, true, Option, Some, if◌then◌else◌, List, [], ◌∷◌, length, get_or}
use Rattle.lock_core.specs.Exclusion.{IsExclusive}
use Rattle.term_model.specs.declared.Head.{Head}
use Rattle.term_model.specs.declared.Head.TheVariants.{Cons}
use Rattle.store_model.specs.Words.{Place, same_place, Base, FreeCount, Claim, InUse, FreePlace, Bucket, RowWord, Birth, Next, RootCount, Root}
use Rattle.store_model.specs.Calls.{Call, IsOver, Loading, Storing, Ready, KnownWord, View}
use Rattle.store_model.specs.Machine.{Sizes, State, Each, In, Step, Begin, Go, LoadRoot, StoreRoot, StoreCount, ReadWord, ReadArgument, LoadAny, StoreAny, IsCreation, widest}
use Rattle.store_model.specs.Steps.{loads, stores, value_at, is_storing, is_stored, IsNextLoad, IsAtRest, MayCreate, AreLastRoots, IsLoading, Permits}
use Rattle.store_model.specs.Shown.{in_table}
use Rattle.store_model.specs.StoreHolds.{StoreHolds}

-- it knows that the k-th word of row r is n
abbrev pub KnowsWord : ℕ → ℕ → ℕ → List KnownWord → Type 0
KnowsWord r k n [] = ⊥
KnowsWord r k n (x ∷ xs) = ((x.row ≡ r) × (x.word ≡ k) × (x.value ≡ n)) ⊎ KnowsWord r k n xs

-- it knows that the second argument of a cell is the row of a list
abbrev pub KnowsSecond : List KnownWord → Head → List ℕ → Type 0
KnowsSecond ks Cons (a ∷ b ∷ rs) = KnowsWord b 0 4294967297 ks ⊎ KnowsWord b 0 4294967298 ks
KnowsSecond ks f rs = Unit {0}

-- a collection has loaded from p
abbrev pub IsLoaded : Place → List (Place × ℕ) → Type 0
IsLoaded p ls = (n : ℕ) × (value_at p ls ≡ Some n)

-- all words that a collection is to load, by the counts that it has loaded
pub record HasAll (z : Sizes) (ls : List (Place × ℕ)) : Type 0 where
  pub base : IsLoaded Base ls
  pub claim : IsLoaded Claim ls
  pub count : IsLoaded FreeCount ls
  pub in_use : IsLoaded InUse ls
  pub places : (i n : ℕ) → value_at FreeCount ls ≡ Some n → i < n → IsLoaded (FreePlace i) ls
  pub buckets : (b : ℕ) → b < z.buckets → IsLoaded (Bucket b) ls
  pub row_words : (r k : ℕ) → r < z.rows → k < widest z + 2 → IsLoaded (RowWord r k) ls
  pub births : (r : ℕ) → r < z.rows → IsLoaded (Birth r) ls
  pub nexts : (r : ℕ) → r < z.rows → IsLoaded (Next r) ls
  pub root_counts : (j : ℕ) → j < z.seats → IsLoaded (RootCount j) ls
  pub roots : (j k n : ℕ) → j < z.seats → value_at (RootCount j) ls ≡ Some n → k < n
      → IsLoaded (Root j k) ls

abbrev pub StoresNext : Sizes → Call → Type 0
StoresNext z (Loading ls) = HasAll z ls
StoresNext z (Storing ls ss) = Unit {0}
StoresNext z x = ⊥

-- the own view shows that the step may be made, as far as it is no matter of the lock; no step of
-- the lock and no end of a collection is shown so
abbrev pub Shows : Sizes → View → Step → Type 0
Shows z v (Begin c) =
    IsAtRest v × (length c.arguments ≤ widest z) × IsOver c.head c.arguments
    × KnowsSecond v.knows c.head c.arguments
    × Each (λ r. In r v.got) c.arguments
Shows z v Go = IsCreation v.call
Shows z v (LoadRoot k) = IsAtRest v × (k < v.root_count)
Shows z v (StoreRoot k r) = IsAtRest v × (k < z.depth) × In r v.got
Shows z v (StoreCount n) = IsAtRest v × (n ≤ z.depth)
    × ((k : ℕ) → k < n → (k < v.root_count) ⊎ In (get_or v.roots k 0) v.got)
Shows z v (ReadWord r k) =
    IsAtRest v × ((k < 2) ⊎ ((k ≡ 2) × KnowsWord r 0 4294967296 v.knows)) × In r v.got
Shows z v (ReadArgument r j) =
    IsAtRest v × ((n : ℕ) × KnowsWord r 1 n v.knows × (j < n)) × In r v.got
Shows z v (LoadAny p) = IsLoading v.call × (v.stay ≡ Ready) × AreLastRoots v × (in_table z p ≡ true)
    × IsNextLoad (loads v.call) p
Shows z v (StoreAny p n) = StoresNext z v.call × (in_table z p ≡ true) × (is_stored p ≡ true)
Shows z v x = ⊥

-- what it needs of the lock: a creation shared access, or a collection before it; a collection
-- exclusive access
abbrev pub LockGrants : State → ℕ → Step → Type 0
LockGrants s i (Begin c) = MayCreate s i
LockGrants s i (LoadAny p) = IsExclusive s.lock i
LockGrants s i x = Unit {0}

-- A step that the own view shows, and that the lock grants, is permitted.
abbrev pub ViewShows : Type 0
ViewShows = (z : Sizes) (s : State) (i : ℕ) (x : Step) → StoreHolds z s → Shows z (s.view i) x
    → LockGrants s i x → Permits z s i x

-- What a view knows of a row's words is there, while its seat is at rest in an access.
abbrev pub KnownWordsStand : Type 0
KnownWordsStand = (z : Sizes) (s : State) (i r k n : ℕ) → StoreHolds z s → IsAtRest (s.view i)
    → KnowsWord r k n (s.view i).knows → s.words (RowWord r k) ≡ n

-- the word at p, by what a collection has stored last, or else loaded first
abbrev pub seen_at : Place → List (Place × ℕ) → List (Place × ℕ) → Option ℕ
seen_at p ls [] = value_at p ls
seen_at p ls (x ∷ ss) = if same_place p x.0 then Some x.1 else seen_at p ls ss

-- What a collection has loaded and stored tells the present words.
abbrev pub CollectionSees : Type 0
CollectionSees = (z : Sizes) (s : State) (i : ℕ) (p : Place) (n : ℕ) → StoreHolds z s
    → is_storing (s.view i).call ≡ true
    → seen_at p (loads (s.view i).call) (stores (s.view i).call) ≡ Some n → s.words p ≡ n
