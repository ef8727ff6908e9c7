-- What holds of a seat: its walk, its drawn row, its numbers, and the rows that it may name.
use Rattle.std.specs.Prelude.{◌≡◌, ◌≢◌, ℕ, suc, pred, ◌+◌, ◌*◌, ◌<◌, ◌≤◌, Bool, true, false, Option, Some, None, List, [], ◌∷◌, ◌++◌, length, get_or}
use Rattle.store_model.specs.Words.{Place, Base, FreeCount, Claim, InUse, FreePlace, RowWord, Birth, RootCount, Root, RowWords, row_at}
use Rattle.store_model.specs.Calls.{Content, words_of, IsOver, bucket, Call, Idle, Comparing, Passing, Finding, Ended, Counting, Drawing, Placing, Filling, Numbering, Linking, Publishing, Loading, Storing, KnownWord, Away, Ready, View}
use Rattle.store_model.specs.Machine.{Sizes, Each, roots_of, rows_kept, words_kept}
use Rattle.history_core.specs.Entry.{place}
use Rattle.history_core.specs.Chronicle.{KeysRise, last_roots}
use Rattle.store_model.specs.Meaning.{Meaning, Agrees, Matches, Linked, trees_at}
use Rattle.term_model.specs.Tree.{may_stand_over}

-- P holds of what is there
abbrev pub Where : {A : Type 0} → Option A → (A → Type 0) → Type 0
Where None P = Unit {0}
Where (Some x) P = P x

-- the content that a call is to create
abbrev pub wanted : Call → Option Content
wanted Idle = None
wanted (Comparing c d from old at k) = Some c
wanted (Passing c d from old at dif) = Some c
wanted (Finding c d r) = Some c
wanted (Ended c from) = Some c
wanted (Counting c from n) = Some c
wanted (Drawing c from n) = Some c
wanted (Placing c from i) = Some c
wanted (Filling c from i r k) = Some c
wanted (Numbering c from i r) = Some c
wanted (Linking c from i r) = Some c
wanted (Publishing c from i r) = Some c
wanted (Loading ls) = None
wanted (Storing ls ss) = None

-- the index that a call has drawn, with its row once that is loaded
abbrev pub drawn : Call → Option (ℕ × ℕ)
drawn Idle = None
drawn (Comparing c d from old at k) = d
drawn (Passing c d from old at dif) = d
drawn (Finding c d r) = d
drawn (Ended c from) = None
drawn (Counting c from n) = None
drawn (Drawing c from n) = None
drawn (Placing c from i) = None
drawn (Filling c from i r k) = Some (i, r)
drawn (Numbering c from i r) = Some (i, r)
drawn (Linking c from i r) = Some (i, r)
drawn (Publishing c from i r) = Some (i, r)
drawn (Loading ls) = None
drawn (Storing ls ss) = None

abbrev pub index_in : Option (ℕ × ℕ) → Option ℕ
index_in None = None
index_in (Some d) = Some d.0

abbrev pub index : Call → Option ℕ
index Idle = None
index (Comparing c d from old at k) = index_in d
index (Passing c d from old at dif) = index_in d
index (Finding c d r) = index_in d
index (Ended c from) = None
index (Counting c from n) = None
index (Drawing c from n) = None
index (Placing c from i) = Some i
index (Filling c from i r k) = Some i
index (Numbering c from i r) = Some i
index (Linking c from i r) = Some i
index (Publishing c from i r) = Some i
index (Loading ls) = None
index (Storing ls ss) = None

-- the row isn't c
abbrev pub Lacks : (ℕ → RowWords) → Content → ℕ → Type 0
Lacks row c r = Matches (row r) c → ⊥

-- A walk in a chain from the head `from`, which has come to the word `at` of a row and is to end at
-- the word `old`. The rows that it has passed lack c, and so do those from `old` on, where an
-- earlier walk was.
pub record Walks (row : ℕ → RowWords) (chain : List ℕ) (c : Content)
    (from old at n : ℕ) : Type 0 where
  pub fresh : List ℕ
  pub walked : List ℕ
  pub here : ℕ
  pub todo : List ℕ
  pub settled : List ℕ
  pub at_is : at ≡ suc here
  -- n rows were passed
  pub count : n ≡ length walked + length settled
  pub chain_is : chain ≡ fresh ++ (walked ++ (here ∷ (todo ++ settled)))
  pub from_head : Linked row from (walked ++ (here ∷ (todo ++ settled)))
  pub to_settled : Linked row old settled
  pub walked_lack : Each (Lacks row c) walked
  pub settled_lack : Each (Lacks row c) settled

-- the whole chain from the head `from` lacks c
pub record Walked (row : ℕ → RowWords) (chain : List ℕ) (c : Content) (from n : ℕ) : Type 0 where
  pub fresh : List ℕ
  pub settled : List ℕ
  pub count : n ≡ length settled
  pub chain_is : chain ≡ fresh ++ settled
  pub to_settled : Linked row from settled
  pub settled_lack : Each (Lacks row c) settled

-- a call's walk, as far as the chains speak of it
abbrev pub IsWalk : (ℕ → RowWords) → (ℕ → List ℕ) → ℕ → ℕ → Call → Type 0
IsWalk row chain u passed Idle = Unit {0}
IsWalk row chain u passed (Comparing c d from old at k) =
    Walks row (chain (bucket c u)) c from old at passed
IsWalk row chain u passed (Passing c d from old at dif) =
    Walks row (chain (bucket c u)) c from old at passed
IsWalk row chain u passed (Finding c d r) = Unit {0}
IsWalk row chain u passed (Ended c from) = Walked row (chain (bucket c u)) c from passed
IsWalk row chain u passed (Counting c from n) = Walked row (chain (bucket c u)) c from passed
IsWalk row chain u passed (Drawing c from n) = Walked row (chain (bucket c u)) c from passed
IsWalk row chain u passed (Placing c from i) = Walked row (chain (bucket c u)) c from passed
IsWalk row chain u passed (Filling c from i r k) = Walked row (chain (bucket c u)) c from passed
IsWalk row chain u passed (Numbering c from i r) = Walked row (chain (bucket c u)) c from passed
IsWalk row chain u passed (Linking c from i r) = Walked row (chain (bucket c u)) c from passed
IsWalk row chain u passed (Publishing c from i r) = Walked row (chain (bucket c u)) c from passed
IsWalk row chain u passed (Loading ls) = Unit {0}
IsWalk row chain u passed (Storing ls ss) = Unit {0}

-- the live row that a call looks at
abbrev pub looked : Call → Option ℕ
looked (Comparing c d from old at k) = Some (pred at)
looked (Passing c d from old at dif) = Some (pred at)
looked (Finding c d r) = Some r
looked x = None

-- and what the call knows of it
abbrev pub Looks : RowWords → Call → Type 0
Looks row (Comparing c d from old at k) = Agrees row c k × (k < length (words_of c))
Looks row (Passing c d from old at dif) = Matches row c → ⊥
Looks row (Finding c d r) = Matches row c
Looks row x = Unit {0}

pub record LooksAt (row : ℕ → RowWords) (is_live : ℕ → Bool) (x : Call) (r : ℕ) : Type 0 where
  pub live : is_live r ≡ true
  pub looks : Looks (row r) x

-- what a call has stored in its drawn row: of the birth number, n, and of the link
pub record IsFilled (row : RowWords) (c : Content) (n : ℕ) : Type 0 where
  pub content : Matches row c
  pub birth : row.birth ≡ n

abbrev pub Filled : RowWords → ℕ → Call → Type 0
Filled row base Idle = Unit {0}
Filled row base (Comparing c None from old at k) = Unit {0}
Filled row base (Comparing c (Some d) from old at k) = IsFilled row c (base + d.0)
Filled row base (Passing c None from old at dif) = Unit {0}
Filled row base (Passing c (Some d) from old at dif) = IsFilled row c (base + d.0)
Filled row base (Finding c d r) = Unit {0}
Filled row base (Ended c from) = Unit {0}
Filled row base (Counting c from n) = Unit {0}
Filled row base (Drawing c from n) = Unit {0}
Filled row base (Placing c from i) = Unit {0}
Filled row base (Filling c from i r k) = Agrees row c k × (k < length (words_of c))
Filled row base (Numbering c from i r) = Matches row c
Filled row base (Linking c from i r) = IsFilled row c (base + i)
Filled row base (Publishing c from i r) = IsFilled row c (base + i) × (row.next ≡ from)
Filled row base (Loading ls) = Unit {0}
Filled row base (Storing ls ss) = Unit {0}

-- a drawn place, whose row isn't live; its number is above all that its seat had seen
pub record IsDrawn (w : Place → ℕ) (m : Meaning) (seen : ℕ) (i : ℕ) : Type 0 where
  pub claimed : i < w Claim
  pub counted : i < w FreeCount
  pub dead : m.live (w (FreePlace i)) ≡ false
  pub later : seen < w Base + i

-- the drawn row, and what its call has stored there
pub record HoldsRow (w : Place → ℕ) (base : ℕ) (x : Call) (d : ℕ × ℕ) : Type 0 where
  pub place : d.1 ≡ w (FreePlace d.0)
  pub filled : Filled (row_at w d.1) base x

-- a row that is live, and which the seat has seen
pub record IsSeen (w : Place → ℕ) (m : Meaning) (seen : ℕ) (r : ℕ) : Type 0 where
  pub live : m.live r ≡ true
  pub birth : w (Birth r) ≤ seen

-- a live row's word
pub record IsKnown (w : Place → ℕ) (m : Meaning) (k : KnownWord) : Type 0 where
  pub live : m.live k.row ≡ true
  pub value_is : w (RowWord k.row k.word) ≡ k.value

-- what a call has read of the claim and of the free count: a seat that has overdrawn reads the
-- claim as full
abbrev pub HasRead : (base count claim : ℕ) → Option ℕ → Call → Type 0
HasRead base count claim overdraw (Counting c from n) =
    (overdraw ≡ Some base → count ≤ n) × (n ≤ claim)
HasRead base count claim overdraw (Drawing c from n) = (n ≡ count) × (overdraw ≢ Some base)
HasRead base count claim overdraw x = Unit {0}

-- what a call wants may be made of rows that its seat has seen
pub record MayWant (w : Place → ℕ) (m : Meaning) (seen : ℕ) (c : Content) : Type 0 where
  pub over : IsOver c.head c.arguments
  pub formed : may_stand_over c.head (trees_at m.tree c.arguments) ≡ true
  pub arguments : Each (IsSeen w m seen) c.arguments

pub record SeatWalks (w : Place → ℕ) (m : Meaning) (v : View) : Type 0 where
  pub walk : IsWalk (row_at w) m.chain (w InUse) v.passed v.call
  pub look : Where (looked v.call) (LooksAt (row_at w) m.live v.call)

pub record RowDrawn (w : Place → ℕ) (m : Meaning) (v : View) : Type 0 where
  pub index : Where (index v.call) (IsDrawn w m v.seen)
  pub row : Where (drawn v.call) (HoldsRow w (w Base) v.call)

pub record SeatNumbers (w : Place → ℕ) (v : View) : Type 0 where
  pub base : v.stay ≢ Away → v.base ≡ w Base
  pub in_use : v.stay ≡ Ready → v.in_use ≡ w InUse
  pub calls : v.call ≢ Idle → v.stay ≡ Ready
  pub seen : v.seen < w Base + w Claim
  pub entered : v.stay ≢ Away → w Base ≤ v.seen + 1
  pub overdraw : v.overdraw ≡ Some (w Base) → w FreeCount ≤ w Claim
  pub own : v.base ≤ w Base
  pub over : (b : ℕ) → v.overdraw ≡ Some b → b ≤ w Base
  pub read : HasRead (w Base) (w FreeCount) (w Claim) v.overdraw v.call

-- The rows that a seat may use are live, and it has seen them; the words that it knows are there.
-- What it got and knows counts while its base is the store's. What its protected rows lead to
-- counts always: collections by others keep it.
pub record SeatRows (w : Place → ℕ) (m : Meaning) (i : ℕ) (v : View) : Type 0 where
  pub roots : (k : ℕ) → k < w (RootCount i) → IsSeen w m v.seen (w (Root i k))
  pub wants : Where (wanted v.call) (MayWant w m v.seen)
  pub got : v.base ≡ w Base → Each (IsSeen w m v.seen) v.got
  pub knows : v.base ≡ w Base → Each (IsKnown w m) v.knows
  pub keeps : Each (IsSeen w m v.seen) (rows_kept v)
  pub keeps_words : Each (IsKnown w m) (words_kept v)

-- A seat's own keys rise, and it has seen them. While it is away its protected rows are those of
-- its last Roots.
pub record NotesMatch (w : Place → ℕ) (i : ℕ) (v : View) : Type 0 where
  pub rises : KeysRise v.entries
  pub keys : Each (λ e. place e ≤ 2 * v.seen + 1) v.entries
  pub away : v.stay ≡ Away → last_roots [] v.entries ≡ roots_of w i (w (RootCount i))

-- a seat's own view has its words of protected rows
pub record RootsKnown (z : Sizes) (w : Place → ℕ) (i : ℕ) (v : View) : Type 0 where
  pub wide : length v.roots ≡ z.depth
  pub few : v.root_count ≤ z.depth
  pub count : w (RootCount i) ≡ v.root_count
  pub root : (k : ℕ) → k < z.depth → w (Root i k) ≡ get_or v.roots k 0

pub record SeatHolds (w : Place → ℕ) (m : Meaning) (i : ℕ) (v : View) : Type 0 where
  pub walks : SeatWalks w m v
  pub drawn : RowDrawn w m v
  pub numbers : SeatNumbers w v
  pub protects : SeatRows w m i v
  pub notes : NotesMatch w i v
