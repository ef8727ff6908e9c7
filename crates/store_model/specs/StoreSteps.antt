-- The steps as the outside names them: one atomic action of a seat on one word, its place and value
-- as numbers.
use Rattle.std.specs.Prelude.{◌≡◌, ℕ, zero, suc, pred, ◌+◌, ◌==◌, nat_lt, if◌then◌else◌, List, [], ◌∷◌, get_or}
use Rattle.lock_core.specs.declared.parts.LockStep.{LockStep}
use Rattle.lock_core.specs.declared.parts.LockStep.TheVariants.{Lower, Unask, Give}
use Rattle.store_model.specs.Words.{Place, Base, FreeCount, Claim, InUse, FreePlace, Bucket, RowWord, Birth, Next}
use Rattle.store_model.specs.Calls.{words_of, bucket, Call, Idle, Comparing, Passing, Finding, Ended, Counting, Drawing, Placing, Filling, Numbering, Linking, Publishing, Stay, Away, View}
use Rattle.store_model.specs.Machine as machine
use Rattle.store_model.specs.Machine.{Sizes, State, Step, LockAlone, LowerShared, UnaskSeat, GiveGranted, Begin, Go, ReadWord, ReadArgument, StoreAny, widest}
use Rattle.store_model.specs.Steps as steps
use Rattle.store_model.specs.Steps.{InPlace}
use Rattle.store_model.specs.declared.step.StoreStep.{StoreStep}
use Rattle.store_model.specs.declared.step.StoreStep.TheVariants.{Lock, LoadBase, LoadFreeCount, LoadClaim, LoadInUse, Draw, LoadFreePlace, StoreDrawn, LoadBucket, LoadRow, Publish, StoreRoot, StoreRootCount, LoadRoot, LoadAny, StoreNext, StoreBucket, StoreFreePlace, StoreFreeCount, StoreBase, StoreInUse, StoreClaim}

-- the k-th word of row r: its symbol word, count and arguments, then the birth number, then the
-- next in the chain
abbrev pub row_place : Sizes → ℕ → ℕ → Place
row_place z r k =
    if k == widest z + 2 then Birth r else (if k == widest z + 3 then Next r else RowWord r k)

-- what an atomic action does to its word
pub data Act : Type 0 where
  Loads : Place → Act
  Stores : Place → ℕ → Act
  -- the claim is taken, and is then one more
  Draws : Act
  -- the new word takes the place of the old one, if that is there
  Exchanges : Place → (old new : ℕ) → Act

-- the next act of a creation
abbrev pub act : View → Call → Act
act v (Comparing c d from old at k) = Loads (RowWord (pred at) k)
act v (Passing c d from old at dif) = Loads (Next (pred at))
act v (Finding c d r) = Loads (Birth r)
act v (Ended c from) = Loads Claim
act v (Counting c from claim) = Loads FreeCount
act v (Drawing c from count) = Draws
act v (Placing c from i) = Loads (FreePlace i)
act v (Filling c from i r k) = Stores (RowWord r k) (get_or (words_of c) k 0)
act v (Numbering c from i r) = Stores (Birth r) (v.base + i)
act v (Linking c from i r) = Stores (Next r) from
act v (Publishing c from i r) = Exchanges (Bucket (bucket c v.in_use)) from (suc r)
act v x = Loads Base

-- a step of the lock, by how far the seat's access has come
abbrev pub lock_meant : Stay → LockStep → Step
lock_meant Away x = LockAlone x
lock_meant stay Lower = LowerShared
lock_meant stay (Unask j) = UnaskSeat j
lock_meant stay Give = GiveGranted
lock_meant stay x = LockAlone x

-- a load of a row's word while no call is under way reads the row
abbrev pub read_meant : (Place → ℕ) → ℕ → ℕ → Step
read_meant w r zero = ReadWord r 0
read_meant w r (suc zero) = ReadWord r 1
read_meant w r (suc (suc j)) =
    if nat_lt j (w (RowWord r 1)) then ReadArgument r j else ReadWord r (suc (suc j))

abbrev pub row_meant : (Place → ℕ) → Call → ℕ → ℕ → Step
row_meant w Idle r k = read_meant w r k
row_meant w x r k = Go

-- the step of the machine that it is
abbrev pub meant : State → ℕ → StoreStep → Step
meant s i (Lock x) = lock_meant (s.view i).stay x
meant s i LoadBase = machine.LoadBase
meant s i LoadFreeCount = Go
meant s i LoadClaim = Go
meant s i LoadInUse = machine.LoadInUse
meant s i Draw = Go
meant s i (LoadFreePlace k) = Go
meant s i (StoreDrawn r k n) = Go
meant s i (LoadBucket b c) = Begin c
meant s i (LoadRow r k) = row_meant s.words (s.view i).call r k
meant s i (Publish b old new) = Go
meant s i (StoreRoot k r) = machine.StoreRoot k r
meant s i (StoreRootCount n) = machine.StoreCount n
meant s i (LoadRoot k) = machine.LoadRoot k
meant s i (LoadAny p) = machine.LoadAny p
meant s i (StoreNext r n) = StoreAny (Next r) n
meant s i (StoreBucket b n) = StoreAny (Bucket b) n
meant s i (StoreFreePlace k n) = StoreAny (FreePlace k) n
meant s i (StoreFreeCount n) = StoreAny FreeCount n
meant s i (StoreBase n) = StoreAny Base n
meant s i (StoreInUse n) = StoreAny InUse n
meant s i (StoreClaim n) = machine.StoreClaim

abbrev pub RowFits : Sizes → View → Call → ℕ → ℕ → Type 0
RowFits z v Idle r k = Unit {0}
RowFits z v x r k = act v x ≡ Loads (row_place z r k)

-- its numbers are those of the seat's next act
abbrev pub Fits : Sizes → View → StoreStep → Type 0
Fits z v LoadFreeCount = act v v.call ≡ Loads FreeCount
Fits z v LoadClaim = act v v.call ≡ Loads Claim
Fits z v Draw = act v v.call ≡ Draws
Fits z v (LoadFreePlace k) = act v v.call ≡ Loads (FreePlace k)
Fits z v (StoreDrawn r k n) = act v v.call ≡ Stores (row_place z r k) n
Fits z v (LoadBucket b c) = b ≡ bucket c v.in_use
Fits z v (LoadRow r k) = RowFits z v v.call r k
Fits z v (Publish b old new) = act v v.call ≡ Exchanges (Bucket b) old new
Fits z v (StoreClaim n) = n ≡ 0
Fits z v x = Unit {0}

-- A step is in place where it begins a call that may be made, or is the next one of the seat's
-- call.
pub record IsInPlace (z : Sizes) (s : State) (i : ℕ) (x : StoreStep) : Type 0 where
  pub step : InPlace z s i (meant s i x)
  pub fits : Fits z (s.view i) x

-- the state after a step of seat i
abbrev pub after : Sizes → State → ℕ → StoreStep → State
after z s i x = steps.after z s i (meant s i x)

-- a list of steps, each of a seat, leads from s to t, and each is in place where it is made
abbrev pub Leads : Sizes → State → List (ℕ × StoreStep) → State → Type 0
Leads z s [] t = t ≡ s
Leads z s (x ∷ steps) t = IsInPlace z s x.0 x.1 × Leads z (after z s x.0 x.1) steps t
