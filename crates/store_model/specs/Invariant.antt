-- What every step keeps.
use Rattle.std.specs.Prelude.{◌≡◌, ◌≢◌, ℕ, zero, suc, ◌+◌, ◌≤◌, ◌^◌, ◌==◌, if◌then◌else◌, Bool, true, false, Option, Some, None, length, List, [], ◌∷◌}
use Rattle.history_core.specs.TermSet.{Names}
use Rattle.history_core.specs.Recording.{Recording, IsFaithful}
use Rattle.lock_core.specs.Exclusion.{IsSound}
use Rattle.lock_core.specs.Lock.{Lock}
use Rattle.store_model.specs.Words.{Place, Base, FreeCount, Claim, InUse, FreePlace, Bucket, Birth, RootCount, RowWords, row_at}
use Rattle.store_model.specs.Calls.{View}
use Rattle.store_model.specs.Machine.{Sizes, State, Granted}
use Rattle.store_model.specs.Meaning.{Meaning, RowsApart, ChainsLinked, IsBorn}
use Rattle.store_model.specs.Seats.{index, SeatHolds}

abbrev pub is_at : Option ℕ → ℕ → Bool
is_at None base = false
is_at (Some b) base = b == base

abbrev pub one_if : Bool → ℕ
one_if true = 1
one_if false = 0

-- how many of the first n have it
abbrev pub tally : (ℕ → Bool) → ℕ → ℕ
tally f zero = 0
tally f (suc n) = one_if (f n) + tally f n

abbrev pub span : Sizes → ℕ
span z = z.rows + z.seats + 1

pub record LockAllows (z : Sizes) (l : Lock) (view : ℕ → View) : Type 0 where
  pub sound : IsSound l
  pub seats : length l.seats ≡ z.seats
  pub access : (i : ℕ) → Granted l i (view i).stay

pub record NumbersWithin (z : Sizes) (base count claim : ℕ) (place : ℕ → ℕ) (row : ℕ → RowWords)
    (live : ℕ → Bool) (overdraw : ℕ → Option ℕ) (root_count : ℕ → ℕ) : Type 0 where
  pub born : (r : ℕ) → live r ≡ true → IsBorn base count place r (row r).birth
  pub differ : (r q : ℕ) → live r ≡ true → live q ≡ true → (row r).birth ≡ (row q).birth → r ≡ q
  pub drawn : claim ≤ count + tally (λ i. is_at (overdraw i) base) z.seats
  pub room : base + span z ≤ 2 ^ 62
  pub absent : (j : ℕ) → z.seats ≤ j → root_count j ≡ 0

-- the calls of two seats have drawn different places
abbrev pub DrawnApart : (ℕ → View) → Type 0
DrawnApart view = (i j : ℕ) → j ≢ i → (a : ℕ) → index (view i).call ≡ Some a
    → index (view j).call ≢ Some a

-- the pairs of the one-thread set
abbrev pub names_of : Meaning → Names
names_of m r = if m.live r then Some (m.tree r) else None

-- the first n
abbrev pub listed : {A : Type 0} → ℕ → (ℕ → A) → List A
listed zero f = []
listed (suc n) f = f 0 ∷ listed n (λ j. f (suc j))

abbrev pub store_of : Sizes → (Place → ℕ) → Meaning → (ℕ → View) → Recording
store_of z w m view =
    record {
      names = names_of m;
      birth = λ r. w (Birth r);
      base = w Base;
      lists = listed z.seats (λ j. (view j).entries);
      seen = λ j. (view j).seen;
    }

-- the entries of all seats are legal, and the set that they leave is the live rows with their trees
abbrev pub HistoryFits : Sizes → (Place → ℕ) → Meaning → (ℕ → View) → Type 0
HistoryFits z w m view = IsFaithful z.rows (store_of z w m view)

-- the facts over the words, each over those alone that it reads
abbrev pub RowsHold : Sizes → (Place → ℕ) → Meaning → Type 0
RowsHold z w m = RowsApart z (w FreeCount) (w Claim) (λ i. w (FreePlace i)) m.live

abbrev pub ChainsHold : Sizes → (Place → ℕ) → Meaning → Type 0
ChainsHold z w m = ChainsLinked z (w InUse) (λ b. w (Bucket b)) (row_at w) m

abbrev pub NumbersHold : Sizes → (Place → ℕ) → Meaning → (ℕ → View) → Type 0
NumbersHold z w m view = NumbersWithin z (w Base) (w FreeCount) (w Claim) (λ i. w (FreePlace i))
    (row_at w) m.live (λ i. (view i).overdraw) (λ j. w (RootCount j))

pub record Holds (z : Sizes) (s : State) (m : Meaning) : Type 0 where
  pub lock : LockAllows z s.lock s.view
  pub rows : RowsHold z s.words m
  pub chains : ChainsHold z s.words m
  pub numbers : NumbersHold z s.words m s.view
  pub apart : DrawnApart s.view
  pub history : HistoryFits z s.words m s.view
  pub seats : (i : ℕ) → SeatHolds s.words m i (s.view i)

-- it holds of the state, and the rows that were live still are
pub record IsStoreSound (z : Sizes) (was : ℕ → Bool) (s : State) : Type 0 where
  pub meaning : Meaning
  pub grows : (r : ℕ) → was r ≡ true → meaning.live r ≡ true
  pub holds : Holds z s meaning
