-- Worked runs, which the definitions compute.
use Rattle.std.specs.Prelude.{◌≡◌, ℕ, ◌-◌, ◌^◌, List, [], ◌∷◌, ◌++◌}
use Rattle.term_model.specs.declared.Head.{Head}
use Rattle.term_model.specs.declared.Head.TheVariants.{App, Int}
use Rattle.lock_core.specs.declared.parts.LockStep.TheVariants.{Raise, Look, Lower, Take, Ask, Peek, Unask, Give}
use Rattle.history_core.specs.declared.entry.Entry.{Entry}
use Rattle.history_core.specs.declared.entry.Entry.TheVariants.{Make, Find, Roots, Collect}
use Rattle.store_model.specs.Words.{Base, FreeCount, Claim, InUse, FreePlace, Bucket, RowWord, Birth, Next, RootCount, Root}
use Rattle.store_model.specs.Calls.{Content, Idle}
use Rattle.store_model.specs.declared.view.KnownWord.{KnownWord}
use Rattle.store_model.specs.Machine.{Sizes, State, based}
use Rattle.store_model.specs.Steps.{grown_use, names_left}
use Rattle.store_model.specs.StoreSteps.{after, IsInPlace, Leads}
use Rattle.store_model.specs.NewStore.{start_of}
use Rattle.store_model.specs.declared.step.StoreStep.{StoreStep}
use Rattle.store_model.specs.declared.step.StoreStep.TheVariants.{Lock, LoadBase, LoadFreeCount, LoadClaim, LoadInUse, Draw, LoadFreePlace, StoreDrawn, LoadBucket, LoadRow, Publish, StoreRoot, StoreRootCount, LoadAny, StoreBucket, StoreFreePlace, StoreFreeCount, StoreBase, StoreClaim}

-- the state after these steps, whether or not they are in place
abbrev pub ran : Sizes → State → List (ℕ × StoreStep) → State
ran z s [] = s
ran z s (x ∷ xs) = ran z (after z s x.0 x.1) xs

-- and from a new store
abbrev pub run_of : Sizes → List (ℕ × StoreStep) → State
run_of z xs = ran z (start_of z) xs

-- the entries of seat i after a run
abbrev pub notes : Sizes → List (ℕ × StoreStep) → ℕ → List Entry
notes z xs i = ((run_of z xs).view i).entries

-- the constant of the symbol f, and its head
abbrev pub symbol : ℕ → Head
symbol f = App record { 0 = f }

abbrev pub constant : ℕ → Content
constant f = record { head = symbol f; arguments = [] }

-- two seats, two rows, one bucket
abbrev pub small : Sizes
small = record { rows = 2; buckets = 1; start = 1; seats = 2; depth = 4; arity = 2; first = 1 }

-- two seats race to make the same constant
abbrev pub race : List (ℕ × StoreStep)
race =
    (0, Lock Raise) ∷ (0, Lock Look) ∷ (0, LoadBase) ∷ (0, LoadInUse) ∷ (1, Lock Raise)
    ∷ (1, Lock Look)
    ∷ (1, LoadBase) ∷ (1, LoadInUse) ∷ (0, LoadBucket 0 (constant 0))
    ∷ (1, LoadBucket 0 (constant 0)) ∷ (0, LoadClaim) ∷ (0, LoadFreeCount)
    ∷ (0, Draw) ∷ (0, LoadFreePlace 0) ∷ (0, StoreDrawn 0 0 0) ∷ (0, StoreDrawn 0 1 0)
    ∷ (0, StoreDrawn 0 4 1) ∷ (0, StoreDrawn 0 5 0)
    ∷ (1, LoadClaim) ∷ (1, LoadFreeCount) ∷ (1, Draw) ∷ (1, LoadFreePlace 1) ∷ (1, StoreDrawn 1 0 0)
    ∷ (1, StoreDrawn 1 1 0)
    ∷ (1, StoreDrawn 1 4 2) ∷ (1, StoreDrawn 1 5 0) ∷ (0, Publish 0 0 1) ∷ (1, Publish 0 0 2)
    ∷ (1, LoadRow 0 0) ∷ (1, LoadRow 0 1)
    ∷ (1, LoadRow 0 4) ∷ (0, Lock Lower) ∷ (1, Lock Lower) ∷ []

-- One makes it; the other loses its exchange, and finds it in the new part of the chain. Its number
-- 2 stays unused.
pub record RaceFinds : Type 0 where
  pub winner : notes small race 0 ≡ Make 1 (symbol 0) [] 0 ∷ Roots 1 [] ∷ []
  pub loser : notes small race 1 ≡ Find 1 (symbol 0) [] 0 ∷ Roots 1 [] ∷ []

-- two seats race to make two constants
abbrev pub both : List (ℕ × StoreStep)
both =
    (0, Lock Raise) ∷ (0, Lock Look) ∷ (0, LoadBase) ∷ (0, LoadInUse) ∷ (1, Lock Raise)
    ∷ (1, Lock Look)
    ∷ (1, LoadBase) ∷ (1, LoadInUse) ∷ (0, LoadBucket 0 (constant 0))
    ∷ (1, LoadBucket 0 (constant 1)) ∷ (0, LoadClaim) ∷ (0, LoadFreeCount)
    ∷ (0, Draw) ∷ (0, LoadFreePlace 0) ∷ (0, StoreDrawn 0 0 0) ∷ (0, StoreDrawn 0 1 0)
    ∷ (0, StoreDrawn 0 4 1) ∷ (0, StoreDrawn 0 5 0)
    ∷ (1, LoadClaim) ∷ (1, LoadFreeCount) ∷ (1, Draw) ∷ (1, LoadFreePlace 1) ∷ (1, StoreDrawn 1 0 1)
    ∷ (1, StoreDrawn 1 1 0)
    ∷ (1, StoreDrawn 1 4 2) ∷ (1, StoreDrawn 1 5 0) ∷ (0, Publish 0 0 1) ∷ (1, Publish 0 0 2)
    ∷ (1, LoadRow 0 0) ∷ (1, LoadRow 0 5)
    ∷ (1, StoreDrawn 1 5 1) ∷ (1, Publish 0 1 2) ∷ (0, Lock Lower) ∷ (1, Lock Lower) ∷ []

-- The exchange that was lost walks the new part of the chain, which lacks the tree, and makes its
-- row in front of it.
pub record LostMakes : Type 0 where
  pub winner : notes small both 0 ≡ Make 1 (symbol 0) [] 0 ∷ Roots 1 [] ∷ []
  pub loser : notes small both 1 ≡ Make 2 (symbol 1) [] 1 ∷ Roots 2 [] ∷ []

-- two seats, four rows, one bucket
abbrev pub rooms : Sizes
rooms = record { rows = 4; buckets = 1; start = 1; seats = 2; depth = 1; arity = 2; first = 1 }

-- Each seat protects a constant; a third constant is made; seat 0 begins to collect, and loads all.
abbrev pub begins_sweep : List (ℕ × StoreStep)
begins_sweep =
    (0, Lock Raise) ∷ (0, Lock Look) ∷ (0, LoadBase) ∷ (0, LoadInUse)
    ∷ (0, LoadBucket 0 (constant 0)) ∷ (0, LoadClaim)
    ∷ (0, LoadFreeCount) ∷ (0, Draw) ∷ (0, LoadFreePlace 0) ∷ (0, StoreDrawn 0 0 0)
    ∷ (0, StoreDrawn 0 1 0) ∷ (0, StoreDrawn 0 4 1)
    ∷ (0, StoreDrawn 0 5 0) ∷ (0, Publish 0 0 1) ∷ (0, StoreRoot 0 0) ∷ (0, StoreRootCount 1)
    ∷ (0, Lock Lower) ∷ (1, Lock Raise)
    ∷ (1, Lock Look) ∷ (1, LoadBase) ∷ (1, LoadInUse) ∷ (1, LoadBucket 0 (constant 1))
    ∷ (1, LoadRow 0 0) ∷ (1, LoadRow 0 5)
    ∷ (1, LoadClaim) ∷ (1, LoadFreeCount) ∷ (1, Draw) ∷ (1, LoadFreePlace 1) ∷ (1, StoreDrawn 1 0 1)
    ∷ (1, StoreDrawn 1 1 0)
    ∷ (1, StoreDrawn 1 4 2) ∷ (1, StoreDrawn 1 5 1) ∷ (1, Publish 0 1 2) ∷ (1, StoreRoot 0 1)
    ∷ (1, StoreRootCount 1)
    ∷ (1, LoadBucket 0 (constant 2)) ∷ (1, LoadRow 1 0) ∷ (1, LoadRow 1 5) ∷ (1, LoadRow 0 0)
    ∷ (1, LoadRow 0 5) ∷ (1, LoadClaim)
    ∷ (1, LoadFreeCount) ∷ (1, Draw) ∷ (1, LoadFreePlace 2) ∷ (1, StoreDrawn 2 0 2)
    ∷ (1, StoreDrawn 2 1 0) ∷ (1, StoreDrawn 2 4 3)
    ∷ (1, StoreDrawn 2 5 2) ∷ (1, Publish 0 2 3) ∷ (1, Lock Lower) ∷ (0, Lock Take)
    ∷ (0, Lock (Ask 1)) ∷ (0, Lock (Peek 1))
    ∷ (0, LoadBase) ∷ (0, LoadInUse) ∷ (0, LoadAny Base) ∷ (0, LoadAny Claim)
    ∷ (0, LoadAny FreeCount) ∷ (0, LoadAny InUse)
    ∷ (0, LoadAny (FreePlace 0)) ∷ (0, LoadAny (FreePlace 1)) ∷ (0, LoadAny (FreePlace 2))
    ∷ (0, LoadAny (FreePlace 3))
    ∷ (0, LoadAny (Bucket 0)) ∷ (0, LoadAny (RowWord 0 0)) ∷ (0, LoadAny (RowWord 0 1))
    ∷ (0, LoadAny (RowWord 0 2))
    ∷ (0, LoadAny (RowWord 0 3)) ∷ (0, LoadAny (Birth 0)) ∷ (0, LoadAny (Next 0))
    ∷ (0, LoadAny (RowWord 1 0)) ∷ (0, LoadAny (RowWord 1 1))
    ∷ (0, LoadAny (RowWord 1 2)) ∷ (0, LoadAny (RowWord 1 3)) ∷ (0, LoadAny (Birth 1))
    ∷ (0, LoadAny (Next 1)) ∷ (0, LoadAny (RowWord 2 0))
    ∷ (0, LoadAny (RowWord 2 1)) ∷ (0, LoadAny (RowWord 2 2)) ∷ (0, LoadAny (RowWord 2 3))
    ∷ (0, LoadAny (Birth 2)) ∷ (0, LoadAny (Next 2))
    ∷ (0, LoadAny (RowWord 3 0)) ∷ (0, LoadAny (RowWord 3 1)) ∷ (0, LoadAny (RowWord 3 2))
    ∷ (0, LoadAny (RowWord 3 3))
    ∷ (0, LoadAny (Birth 3)) ∷ (0, LoadAny (Next 3)) ∷ (0, LoadAny (RootCount 0))
    ∷ (0, LoadAny (RootCount 1)) ∷ (0, LoadAny (Root 0 0))
    ∷ (0, LoadAny (Root 1 0)) ∷ []

-- It stores the chain without the third row, which goes to a free place, and the base.
abbrev pub sweeps : List (ℕ × StoreStep)
sweeps =
    (0, StoreBucket 0 2) ∷ (0, StoreFreePlace 0 2) ∷ (0, StoreFreePlace 1 3) ∷ (0, StoreFreeCount 2)
    ∷ (0, StoreBase 5) ∷ []

-- The claim's store ends it, and the seat leaves.
abbrev pub ends_sweep : List (ℕ × StoreStep)
ends_sweep =
    (0, StoreClaim 0) ∷ (0, Lock (Unask 1)) ∷ (0, Lock Give) ∷ []

abbrev pub sweep : List (ℕ × StoreStep)
sweep = begins_sweep ++ sweeps ++ ends_sweep

-- The collection keeps both protected rows under their names, and not the third.
pub record SweepKeeps : Type 0 where
  pub collector : notes rooms sweep 0 ≡ Make 1 (symbol 0) [] 0 ∷ Roots 1 (0 ∷ []) ∷ Collect 4
      (0 ∷ 1 ∷ []) ∷ Roots 4 (0 ∷ []) ∷ []
  pub other : notes rooms sweep 1 ≡ Make 2 (symbol 1) [] 1 ∷ Make 3 (symbol 2) [] 2
      ∷ Roots 3 (1 ∷ []) ∷ []

-- it stores no row that it didn't find in a free place
abbrev pub frees_nothing : List (ℕ × StoreStep)
frees_nothing =
    begins_sweep ++ (0, StoreFreePlace 0 3) ∷ (0, StoreFreeCount 1) ∷ (0, StoreBase 5) ∷ []

-- seat 1 makes the third constant again
abbrev pub makes_again : List (ℕ × StoreStep)
makes_again =
    (1, Lock Raise) ∷ (1, Lock Look) ∷ (1, LoadBase) ∷ (1, LoadInUse)
    ∷ (1, LoadBucket 0 (constant 2)) ∷ (1, LoadRow 1 0)
    ∷ (1, LoadRow 1 5) ∷ (1, LoadRow 0 0) ∷ (1, LoadRow 0 5) ∷ (1, LoadClaim) ∷ (1, LoadFreeCount)
    ∷ (1, Draw) ∷ (1, LoadFreePlace 0)
    ∷ (1, StoreDrawn 2 0 2) ∷ (1, StoreDrawn 2 1 0) ∷ (1, StoreDrawn 2 4 5) ∷ (1, StoreDrawn 2 5 2)
    ∷ (1, Publish 0 2 3)
    ∷ (1, Lock Lower) ∷ []

-- The claim is 0 again; the third row stands in the first free place and in no chain, and the names
-- that stay are the other two. So the third row is what the next creation draws, whose number is
-- that of the new base.
pub record SweepFrees : Type 0 where
  pub claim : (run_of rooms sweep).words Claim ≡ 0
  pub count : (run_of rooms sweep).words FreeCount ≡ 2
  pub first_place : (run_of rooms sweep).words (FreePlace 0) ≡ 2
  pub second_place : (run_of rooms sweep).words (FreePlace 1) ≡ 3
  pub head : (run_of rooms sweep).words (Bucket 0) ≡ 2
  pub next : (run_of rooms sweep).words (Next 1) ≡ 1
  pub end : (run_of rooms sweep).words (Next 0) ≡ 0
  pub names : names_left rooms (run_of rooms sweep).words ≡ 0 ∷ 1 ∷ []
  pub again : notes rooms (sweep ++ makes_again) 1 ≡ Make 2 (symbol 1) [] 1 ∷ Make 3 (symbol 2) [] 2
      ∷ Roots 3 (1 ∷ []) ∷ Make 5 (symbol 2) [] 2 ∷ Roots 5 (1 ∷ []) ∷ []
  pub drawn : (run_of rooms (sweep ++ makes_again)).words Claim ≡ 1

-- A collection that frees nothing leaves the third name too, though no seat reaches it, and can't
-- end.
pub record MustFree : Type 0 where
  pub names : names_left rooms (run_of rooms frees_nothing).words ≡ 0 ∷ 1 ∷ 2 ∷ []
  pub no_end : IsInPlace rooms (run_of rooms frees_nothing) 0 (StoreClaim 0) → ⊥

-- one seat, which may protect two rows
abbrev pub nest : Sizes
nest = record rooms { seats = 1; depth = 2 }

-- It makes the constant 0 as row 0, the symbol 1 over it as row 1, the constant 2 as row 2, and the
-- integer 2 as row 3; it protects rows 1 and 3, and leaves.
abbrev pub nests : List (ℕ × StoreStep)
nests =
    (0, Lock Raise) ∷ (0, Lock Look) ∷ (0, LoadBase) ∷ (0, LoadInUse)
    ∷ (0, LoadBucket 0 (constant 0)) ∷ (0, LoadClaim)
    ∷ (0, LoadFreeCount) ∷ (0, Draw) ∷ (0, LoadFreePlace 0) ∷ (0, StoreDrawn 0 0 0)
    ∷ (0, StoreDrawn 0 1 0) ∷ (0, StoreDrawn 0 4 1)
    ∷ (0, StoreDrawn 0 5 0) ∷ (0, Publish 0 0 1)
    ∷ (0, LoadBucket 0 (record { head = symbol 1; arguments = 0 ∷ [] })) ∷ (0, LoadRow 0 0)
    ∷ (0, LoadRow 0 5) ∷ (0, LoadClaim) ∷ (0, LoadFreeCount) ∷ (0, Draw) ∷ (0, LoadFreePlace 1)
    ∷ (0, StoreDrawn 1 0 1)
    ∷ (0, StoreDrawn 1 1 1) ∷ (0, StoreDrawn 1 2 0) ∷ (0, StoreDrawn 1 4 2) ∷ (0, StoreDrawn 1 5 1)
    ∷ (0, Publish 0 1 2)
    ∷ (0, LoadBucket 0 (constant 2)) ∷ (0, LoadRow 1 0) ∷ (0, LoadRow 1 5) ∷ (0, LoadRow 0 0)
    ∷ (0, LoadRow 0 5) ∷ (0, LoadClaim)
    ∷ (0, LoadFreeCount) ∷ (0, Draw) ∷ (0, LoadFreePlace 2) ∷ (0, StoreDrawn 2 0 2)
    ∷ (0, StoreDrawn 2 1 0) ∷ (0, StoreDrawn 2 4 3)
    ∷ (0, StoreDrawn 2 5 2) ∷ (0, Publish 0 2 3)
    ∷ (0, LoadBucket 0 (record { head = Int 2; arguments = [] })) ∷ (0, LoadRow 2 0)
    ∷ (0, LoadRow 2 5) ∷ (0, LoadRow 1 0) ∷ (0, LoadRow 1 5) ∷ (0, LoadRow 0 0) ∷ (0, LoadRow 0 5)
    ∷ (0, LoadClaim)
    ∷ (0, LoadFreeCount) ∷ (0, Draw) ∷ (0, LoadFreePlace 3) ∷ (0, StoreDrawn 3 0 4294967296)
    ∷ (0, StoreDrawn 3 1 0)
    ∷ (0, StoreDrawn 3 2 2) ∷ (0, StoreDrawn 3 4 4) ∷ (0, StoreDrawn 3 5 3) ∷ (0, Publish 0 3 4)
    ∷ (0, StoreRoot 0 1) ∷ (0, StoreRoot 1 3)
    ∷ (0, StoreRootCount 2) ∷ (0, Lock Lower) ∷ []

abbrev pub known_as : (row word value : ℕ) → KnownWord
known_as r k n = record { row = r; word = k; value = n }

-- Where it loads another base, it keeps its two rows and row 0, the argument of one, with the words
-- of these. Row 2 is in no argument: the 2 in row 3 is an integer's value.
pub record NestKeeps : Type 0 where
  pub rows : (based ((run_of nest nests).view 0) 9).got ≡ 1 ∷ 3 ∷ 0 ∷ []
  pub words : (based ((run_of nest nests).view 0) 9).knows ≡
      known_as 3 0 4294967296 ∷ known_as 3 1 0 ∷ known_as 3 2 2 ∷ known_as 1 0 1 ∷ known_as 1 1 1
      ∷ known_as 1 2 0 ∷ known_as 0 0 0 ∷ known_as 0 1 0 ∷ []
  pub placed : Leads nest (start_of nest) nests (run_of nest nests)

-- four rows and four buckets, of which one is in use at first
abbrev pub growing : Sizes
growing = record { rows = 4; buckets = 4; start = 1; seats = 1; depth = 2; arity = 2; first = 1 }

-- With two live rows the buckets in use go from 1 to 2, then to 4, and stay.
pub record UseDoubles : Type 0 where
  pub first : grown_use growing 1 2 ≡ 2
  pub second : grown_use growing 2 2 ≡ 4
  pub third : grown_use growing 4 2 ≡ 4

-- one seat and two rows: a new epoch needs 5 numbers
abbrev pub late : ℕ → Sizes
late first = record {
  rows = 2;
  buckets = 1;
  start = 1;
  seats = 1;
  depth = 0;
  arity = 2;
  first = first;
}

abbrev pub begins_to_collect : List (ℕ × StoreStep)
begins_to_collect =
    (0, Lock Take) ∷ (0, LoadBase) ∷ (0, LoadInUse) ∷ (0, LoadAny Base) ∷ (0, LoadAny Claim)
    ∷ (0, LoadAny FreeCount) ∷ []

-- a whole collection of an empty store, up to the claim's store
abbrev pub sweeps_nothing : List (ℕ × StoreStep)
sweeps_nothing =
    (0, Lock Take) ∷ (0, LoadBase) ∷ (0, LoadInUse) ∷ (0, LoadAny Base) ∷ (0, LoadAny Claim)
    ∷ (0, LoadAny FreeCount)
    ∷ (0, LoadAny InUse) ∷ (0, LoadAny (FreePlace 0)) ∷ (0, LoadAny (FreePlace 1))
    ∷ (0, LoadAny (Bucket 0)) ∷ (0, LoadAny (RowWord 0 0)) ∷ (0, LoadAny (RowWord 0 1))
    ∷ (0, LoadAny (RowWord 0 2)) ∷ (0, LoadAny (RowWord 0 3)) ∷ (0, LoadAny (Birth 0))
    ∷ (0, LoadAny (Next 0)) ∷ (0, LoadAny (RowWord 1 0)) ∷ (0, LoadAny (RowWord 1 1))
    ∷ (0, LoadAny (RowWord 1 2)) ∷ (0, LoadAny (RowWord 1 3)) ∷ (0, LoadAny (Birth 1))
    ∷ (0, LoadAny (Next 1)) ∷ (0, LoadAny (RootCount 0)) ∷ (0, StoreBase (2 ^ 62 - 4)) ∷ []

-- and from there on, with another that begins
abbrev pub collects_again : List (ℕ × StoreStep)
collects_again =
    (0, StoreClaim 0) ∷ (0, LoadAny Base) ∷ (0, LoadAny Claim) ∷ (0, LoadAny FreeCount) ∷ []

abbrev pub collects_twice : List (ℕ × StoreStep)
collects_twice = sweeps_nothing ++ collects_again

-- With the first base at 2 ^ 62 - 4 a collection is Worn; one lower it has the number 2 ^ 62 - 5,
-- and the next is Worn.
pub record WornAtLast : Type 0 where
  pub at_once : ((run_of (late (2 ^ 62 - 4)) begins_to_collect).view 0).call ≡ Idle
  pub none : notes (late (2 ^ 62 - 4)) begins_to_collect 0 ≡ []
  pub once : notes (late (2 ^ 62 - 5)) collects_twice 0 ≡ Collect (2 ^ 62 - 5) [] ∷ []
  pub then_worn : ((run_of (late (2 ^ 62 - 5)) collects_twice).view 0).call ≡ Idle

-- Each step of the races, of the sweep and of the creation after it is in place; so are those of
-- the sweep that frees nothing, up to the claim's store, and those of the runs that end by Worn.
pub record RunsAreInPlace : Type 0 where
  pub in_race : Leads small (start_of small) race (run_of small race)
  pub in_both : Leads small (start_of small) both (run_of small both)
  pub in_sweep : Leads rooms (start_of rooms) sweep (run_of rooms sweep)
  pub after_sweep : Leads rooms (run_of rooms sweep) makes_again
      (run_of rooms (sweep ++ makes_again))
  pub freeing_nothing : Leads rooms (start_of rooms) frees_nothing (run_of rooms frees_nothing)
  pub worn_at_once : Leads (late (2 ^ 62 - 4)) (start_of (late (2 ^ 62 - 4))) begins_to_collect
      (run_of (late (2 ^ 62 - 4)) begins_to_collect)
  pub worn_then : Leads (late (2 ^ 62 - 5)) (start_of (late (2 ^ 62 - 5))) collects_twice
      (run_of (late (2 ^ 62 - 5)) collects_twice)
