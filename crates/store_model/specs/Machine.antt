-- The store as a machine: one step is one atomic action of one seat on one word, or a step of the
-- lock.
use Rattle.std.specs.Prelude.{false, ◌≡◌, ◌⊎◌, ℕ, zero, suc, pred, ◌+◌, ◌<◌, ◌≤◌, ◌==◌, nat_lt, max, if◌then◌else◌, Option, Some, None, List, [], ◌∷◌, ◌++◌, length, get_or, set, take, drop}
use Rattle.lock_core.specs.declared.parts.Phase.TheVariants as phase
use Rattle.lock_core.specs.declared.parts.LockStep.{LockStep}
use Rattle.lock_core.specs.Lock.{Lock, seat_of}
use Rattle.lock_core.specs.Exclusion.{IsExclusive}
use Rattle.std.specs.List.{AllByRecursion}
use Rattle.term_model.specs.declared.Head.{Head}
use Rattle.term_model.specs.declared.Head.TheVariants.{Cons}
use Rattle.history_core.specs.declared.entry.Entry.{Entry}
use Rattle.history_core.specs.declared.entry.Entry.TheVariants.{Make, Find, Roots}
use Rattle.store_model.specs.Words.{Place, Base, FreeCount, Claim, FreePlace, Bucket, RowWord, Birth, Next, RootCount, Root, write, put}
use Rattle.store_model.specs.Calls.{Content, words_of, IsOver, bucket, Call, Idle, Comparing, Passing, Finding, Ended, Counting, Drawing, Placing, Filling, Numbering, Linking, Publishing, Loading, Storing, Passed, KnownWord, Stay, Away, Based, Ready, Leaving, View}
use Rattle.store_model.specs.Staying.{led_to, words_of_rows}
pub use Rattle.store_model.specs.declared.view.Sizes.{Sizes}

pub record State : Type 0 where
  pub lock : Lock
  pub words : Place → ℕ
  pub view : ℕ → View

-- one atomic action: on which word, what that becomes where it was n, and the own view then
pub record Action : Type 0 where
  pub place : Place
  pub written : ℕ → ℕ
  pub moved : ℕ → View

abbrev pub acted : (Place → ℕ) → (ℕ → View) → ℕ → Lock → Action → State
acted w view i l a =
    record {
      lock = l;
      words = write w a.place (a.written (w a.place));
      view = put view i (a.moved (w a.place));
    }

abbrev pub with_call : View → Call → View
with_call v x = record v { call = x }

-- with the rows that the walks of the call have passed, and how many
abbrev pub with_path : View → ℕ → List Passed → View
with_path v n ps = record v { passed = n; path = ps }

-- the words that a content has in row r, from the k-th on
abbrev pub words_known : ℕ → ℕ → List ℕ → List KnownWord
words_known r k [] = []
words_known r k (n ∷ ns) = record { row = r; word = k; value = n } ∷ words_known r (suc k) ns

-- a creation ended with a row, whose words it has compared or stored
abbrev pub gained : View → Content → ℕ → ℕ → Entry → View
gained v c r number e = record v {
  call = Idle;
  got = r ∷ v.got;
  knows = words_known r 0 (words_of c) ++ v.knows;
  seen = max v.seen number;
  entries = v.entries ++ e ∷ [];
}

-- a creation ended with Full
abbrev pub refusing : View → Content → (head claim count : ℕ) → View
refusing v c head claim count =
    record v {
      call = Idle;
      refused = v.refused ++ record {
        content = c;
        head = head;
        path = v.path;
        claim = claim;
        count = count;
      } ∷ [];
    }

-- and it has drawn past the free count
abbrev pub overdrawn : View → Content → (head claim count : ℕ) → View
overdrawn v c head claim count = record (refusing v c head claim count) { overdraw = Some v.base }

-- the walk from the head `from` has come to its end
abbrev pub ended : Content → Option (ℕ × ℕ) → ℕ → Call
ended c None from = Ended c from
ended c (Some d) from = Linking c from d.0 d.1

-- the walk comes to a word of the chain
abbrev pub arrived : Content → Option (ℕ × ℕ) → ℕ → ℕ → ℕ → Call
arrived c d from old at = if at == old then ended c d from else Comparing c d from old at 0

-- after the first k + 1 words were found the same
abbrev pub compared : Content → Option (ℕ × ℕ) → ℕ → ℕ → ℕ → ℕ → Call
compared c d from old at k = if suc k == length (words_of c) then Finding c d (pred at)
    else Comparing c d from old at (suc k)

abbrev pub filled : Content → ℕ → ℕ → ℕ → ℕ → Call
filled c from i r k =
    if suc k == length (words_of c) then Numbering c from i r else Filling c from i r (suc k)

abbrev pub load : Place → (ℕ → View) → Action
load p moved = record { place = p; written = λ n. n; moved = moved }

-- how a creation begins
abbrev pub begins : View → Content → Action
begins v c = load (Bucket (bucket c v.in_use))
    (λ n. with_call (with_path v 0 []) (arrived c None n 0 n))

-- the row that a walk at the word `at` passes on to the word n
abbrev pub passing : ℕ → ℕ × ℕ → ℕ → Passed
passing at differs n = record { row = pred at; word = differs.0; found = differs.1; next = n }

-- the next atomic action of a call
abbrev pub action : View → Call → Action
action v Idle = load Base (λ n. v)
action v (Loading ls) = load Base (λ n. v)
action v (Storing ls ss) = load Base (λ n. v)
action v (Comparing c d from old at k) = load (RowWord (pred at) k)
    (λ n. with_call v (if n == get_or (words_of c) k 0 then compared c d from old at k
    else Passing c d from old at (k, n)))
action v (Passing c d from old at dif) = load (Next (pred at))
    (λ n. with_call (with_path v (suc v.passed) (v.path ++ passing at dif n ∷ []))
    (arrived c d from old n))
action v (Finding c d r) =
    load (Birth r) (λ n. gained v c r n (Find (max v.seen n) c.head c.arguments r))
action v (Ended c from) = load Claim (λ n. with_call v (Counting c from n))
action v (Counting c from claim) =
    load FreeCount (λ n. if nat_lt claim n then with_call v (Drawing c from n)
    else refusing v c from claim n)
action v (Drawing c from count) =
    record {
      place = Claim;
      written = suc;
      moved = λ n. if nat_lt n count
          then with_call v (Placing c from n) else overdrawn v c from n count;
    }
action v (Placing c from i) = load (FreePlace i) (λ r. with_call v (Filling c from i r 0))
action v (Filling c from i r k) =
    record {
      place = RowWord r k;
      written = λ n. get_or (words_of c) k 0;
      moved = λ n. with_call v (filled c from i r k);
    }
action v (Numbering c from i r) =
    record {
      place = Birth r;
      written = λ n. v.base + i;
      moved = λ n. with_call v (Linking c from i r);
    }
action v (Linking c from i r) =
    record { place = Next r; written = λ n. from; moved = λ n. with_call v (Publishing c from i r) }
action v (Publishing c from i r) = record {
  place = Bucket (bucket c v.in_use);
  written = λ n. if n == from then suc r else n;
  moved = λ n. if n == from then gained v c r (v.base + i) (Make (v.base + i) c.head c.arguments r)
      else with_call v (arrived c (Some (i, r)) n from n);
}

pub data Step : Type 0 where
  LockAlone : LockStep → Step
  LowerShared : Step
  -- of the end of a granted exclusive access
  UnaskSeat : ℕ → Step
  GiveGranted : Step
  LoadBase : Step
  LoadInUse : Step
  Begin : Content → Step
  Go : Step
  -- of the own protected rows: a load, a store of a row, and of the count
  LoadRoot : ℕ → Step
  StoreRoot : ℕ → ℕ → Step
  StoreCount : ℕ → Step
  -- of a row that the seat may use: a load of its symbol word, of its count or of an integer's
  -- value, and of an argument
  ReadWord : ℕ → ℕ → Step
  ReadArgument : ℕ → ℕ → Step
  -- of a collection: a load, a store before the last one, and the last one, of the claim
  LoadAny : Place → Step
  StoreAny : Place → ℕ → Step
  StoreClaim : Step

-- what a seat's lock allows while its access has come so far
abbrev pub Granted : Lock → ℕ → Stay → Type 0
Granted l i Away = Unit {0}
Granted l i Based = ((seat_of l i).phase ≡ phase.Shared) ⊎ IsExclusive l i
Granted l i Ready = ((seat_of l i).phase ≡ phase.Shared) ⊎ IsExclusive l i
Granted l i Leaving = (seat_of l i).phase ≡ phase.Holder

-- seat i is in shared or in exclusive access
abbrev pub InAccess : Lock → ℕ → Type 0
InAccess l i = ((seat_of l i).phase ≡ phase.Shared) ⊎ IsExclusive l i

-- the protected rows of a seat
abbrev pub protected_in : View → List ℕ
protected_in v = take v.root_count v.roots

-- the rows and the words that a seat keeps where its epoch ends: what its protected rows lead to by
-- the words that it knows
abbrev pub rows_kept : View → List ℕ
rows_kept v = led_to v.knows (protected_in v)

abbrev pub words_kept : View → List KnownWord
words_kept v = words_of_rows (rows_kept v) v.knows

-- the base is loaded: another value than before begins an epoch
abbrev pub based : View → ℕ → View
based v n = record v {
  stay = Based;
  base = n;
  got = if n == v.base then v.got else rows_kept v;
  knows = if n == v.base then v.knows else words_kept v;
  seen = max v.seen (pred n);
  fresh = false;
}

abbrev pub with_got : View → ℕ → View
with_got v r = record v { got = r ∷ v.got }

-- a word of a row was read
abbrev pub knowing : View → (row word n : ℕ) → View
knowing v r k n = record v { knows = record { row = r; word = k; value = n } ∷ v.knows }

abbrev pub ready : View → ℕ → View
ready v n = record v { stay = Ready; in_use = n }

-- the end of an exclusive access has begun
abbrev pub leaving : View → View
leaving v = record v { stay = Leaving; fresh = false }

-- an access has ended
abbrev pub left : View → List ℕ → View
left v rows = record v { stay = Away; entries = v.entries ++ Roots v.seen rows ∷ []; fresh = false }

-- another row is stored as a protected one: the row before it was protected in this epoch
abbrev pub rooted : View → (k r : ℕ) → View
rooted v k r = record v {
  roots = set v.roots k r;
  got = if nat_lt k v.root_count then get_or v.roots k 0 ∷ v.got else v.got;
}

-- so many rows are protected, and those past them were
abbrev pub root_counted : View → ℕ → View
root_counted v n = record v { root_count = n; got = drop n (protected_in v) ++ v.got }

-- n rows that a seat has protected
abbrev pub roots_of : (Place → ℕ) → ℕ → ℕ → List ℕ
roots_of w i zero = []
roots_of w i (suc n) = roots_of w i n ++ w (Root i n) ∷ []

abbrev pub Each : {A : Type 0} → (A → Type 0) → List A → Type 0
Each P xs = AllByRecursion P xs

abbrev pub In : ℕ → List ℕ → Type 0
In r [] = ⊥
In r (x ∷ xs) = (r ≡ x) ⊎ In r xs

-- the row of a list: the empty list or a cell
abbrev pub IsListRow : (Place → ℕ) → ℕ → Type 0
IsListRow w r = (w (RowWord r 0) ≡ 4294967297) ⊎ (w (RowWord r 0) ≡ 4294967298)

-- the second argument of a cell is the row of a list
abbrev pub SecondIsList : (Place → ℕ) → Head → List ℕ → Type 0
SecondIsList w Cons (a ∷ b ∷ rs) = IsListRow w b
SecondIsList w f rs = Unit {0}

-- a row that a seat may name: one that it got in its epoch or kept from the one before, a protected
-- one, or an argument of such a row
pub data MayName (w : Place → ℕ) (i : ℕ) (v : View) : ℕ → Type 0 where
  has_got : (r : ℕ) → In r v.got → MayName w i v r
  has_protected : (k : ℕ) → k < w (RootCount i) → MayName w i v (w (Root i k))
  has_argument : (r k : ℕ) → MayName w i v r → k < w (RowWord r 1)
      → MayName w i v (w (RowWord r (suc (suc k))))

-- how many arguments a row has room for
abbrev pub widest : Sizes → ℕ
widest z = max z.arity 2

-- a creation may begin: there is room for its arguments, and they are rows that the seat may name
pub record MayBegin (z : Sizes) (w : Place → ℕ) (i : ℕ) (v : View) (c : Content) : Type 0 where
  pub few : length c.arguments ≤ widest z
  pub second : SecondIsList w c.head c.arguments
  pub over : IsOver c.head c.arguments
  pub named : Each (MayName w i v) c.arguments

-- a creation is under way
abbrev pub IsCreation : Call → Type 0
IsCreation Idle = ⊥
IsCreation (Loading ls) = ⊥
IsCreation (Storing ls ss) = ⊥
IsCreation x = Unit {0}
