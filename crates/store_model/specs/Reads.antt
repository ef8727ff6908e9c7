-- What a seat's view tells of what it has read, without a look at the words.
use Rattle.std.specs.Prelude.{◌≡◌, ◌≢◌, ◌⊎◌, ℕ, suc, ◌<◌, ◌≤◌, ◌==◌, nat_lt, if◌then◌else◌, Bool, true, false, Some, None, List, [], ◌∷◌, length, get_or}
use Rattle.history_core.specs.declared.entry.Entry.{Entry}
use Rattle.history_core.specs.declared.entry.Entry.TheVariants.{Make, Find, Roots, Collect}
use Rattle.store_model.specs.Words.{Place, Base, FreeCount, Claim, InUse, FreePlace, Bucket, RowWord}
use Rattle.store_model.specs.Calls.{Content, bucket, words_of, Call, Comparing, Passing, Ended, Counting, Drawing, Passed, Refusal, View}
use Rattle.store_model.specs.Machine.{Sizes, State, Each, widest}
use Rattle.store_model.specs.Seats.{Where, RootsKnown, wanted, index}
use Rattle.store_model.specs.Steps.{loads, worn_by, is_storing, head_read, IsFirst, ReadNow}

-- a word of a row was found to differ from that of the content
pub record Differs (c : Content) (word found : ℕ) : Type 0 where
  pub there : word < length (words_of c)
  pub other : found ≢ get_or (words_of c) word 0

-- The rows passed lead from the head `from` to the word `at` of a chain, and each differs from the
-- content in a word.
abbrev pub PathTo : Content → ℕ → List Passed → ℕ → Type 0
PathTo c from [] at = from ≡ at
PathTo c from (p ∷ ps) at = (from ≡ suc p.row) × Differs c p.word p.found × PathTo c p.next ps at

-- in the first walk of a creation, whose head was loaded: the rows that it has passed
abbrev pub HasPath : List Passed → Call → Type 0
HasPath ps (Comparing c None from old at k) =
    PathTo c from ps at × (old ≡ 0) × (at ≢ 0) × (k < length (words_of c))
HasPath ps (Passing c None from old at dif) =
    PathTo c from ps at × (old ≡ 0) × (at ≢ 0) × Differs c dif.0 dif.1
HasPath ps (Ended c from) = PathTo c from ps 0
HasPath ps (Counting c from n) = PathTo c from ps 0
HasPath ps (Drawing c from n) = PathTo c from ps 0
HasPath ps x = Unit {0}

-- Why a creation ended with Full: the chain from the head that it had loaded was read to its end,
-- each row in it differed, and the claim was read or drawn as at least the free count.
pub record IsRefusal (r : Refusal) : Type 0 where
  pub path : PathTo r.content r.head r.path 0
  pub full : r.count ≤ r.claim

pub record ReadsSound (z : Sizes) (v : View) : Type 0 where
  pub path : HasPath v.path v.call
  pub refusals : Each IsRefusal v.refused
  -- a collection goes on only where there is room for another epoch
  pub room : worn_by z (loads v.call) ≡ false

-- the entry is a Make of row r since the base
abbrev pub is_make : ℕ → Entry → ℕ → Bool
is_make base (Make number head args row) r = if row == r then nat_lt base (suc number) else false
is_make base (Find seen head args row) r = false
is_make base (Roots seen names) r = false
is_make base (Collect number kept) r = false

-- and one of the entries is one
abbrev pub is_made : ℕ → List Entry → ℕ → Bool
is_made base [] r = false
is_made base (e ∷ es) r = if is_make base e r then true else is_made base es r

-- Nobody has stepped in between: the head that a call has read is still there, and so is the claim;
-- no exchange was lost; and each drawn place has a row that the seat has made since the base, but
-- for the one that its call has drawn.
pub record IsUndisturbed (w : Place → ℕ) (v : View) : Type 0 where
  pub head : Where (head_read v.call) (λ h. w (Bucket (bucket h.0 (w InUse))) ≡ h.1)
  pub first : IsFirst v.call
  pub read : ReadNow (w Claim) v.call
  pub made : is_storing v.call ≡ false → (k : ℕ) → k < w Claim → k < w FreeCount
      → (is_made (w Base) v.entries (w (FreePlace k)) ≡ true) ⊎ (index v.call ≡ Some k)

-- a row has room for all arguments
abbrev pub FitsRow : Sizes → Content → Type 0
FitsRow z c = length c.arguments ≤ widest z

-- what each seat keeps of what it has stored and read
pub record Remembers (z : Sizes) (s : State) : Type 0 where
  pub own : (i : ℕ) → RootsKnown z s.words i (s.view i)
  pub reads : (i : ℕ) → ReadsSound z (s.view i)
  -- with one seat nobody else steps
  pub sole : z.seats ≡ 1 → (i : ℕ) → i < z.seats → IsUndisturbed s.words (s.view i)
  -- a row has room for the arguments that it counts, and for those of each call
  pub counts : (r : ℕ) → s.words (RowWord r 1) ≤ widest z
  pub wants : (i : ℕ) → Where (wanted (s.view i).call) (FitsRow z)
