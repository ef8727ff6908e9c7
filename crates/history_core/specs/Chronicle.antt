-- The entries of all callers in one list, and what makes it legal.
use Rattle.std.specs.Prelude.{◌≡◌, ◌≤◌, ℕ, suc, ◌<◌, Bool, true, false, nat_lt, ◌==◌, ◌&&◌, ◌||◌, if◌then◌else◌, List, [], ◌∷◌, ◌++◌, length, get_or, set, Contains}
use Rattle.std.specs.List.{AllByRecursion}
use Rattle.history_core.specs.TermSet.{TermSet, empty}
use Rattle.history_core.specs.Entry.{Entry, Make, Find, Roots, Collect, key, place, is_numbered, is_collect, is_roots, needed, Made, IsStep, after}

-- entries with their callers
abbrev pub History : Type 0
History = List (ℕ × Entry)

-- x goes before y: by the key, on a tie Make and Collect first, then the lesser caller
abbrev pub precedes : ℕ × Entry → ℕ × Entry → Bool
precedes x y = nat_lt (place x.1) (place y.1) || (place x.1 == place y.1 && nat_lt x.0 y.0)

-- the history with x put in at its key's place, after the caller's own entries of that key
abbrev pub put : ℕ × Entry → History → History
put x [] = x ∷ []
put x (y ∷ ys) = if precedes x y then x ∷ y ∷ ys else y ∷ put x ys

-- what then stands before it, and what stands after it
abbrev pub earlier : ℕ × Entry → History → History
earlier x [] = []
earlier x (y ∷ ys) = if precedes x y then [] else y ∷ earlier x ys

abbrev pub later : ℕ × Entry → History → History
later x [] = []
later x (y ∷ ys) = if precedes x y then y ∷ ys else later x ys

-- with all entries of a caller put in, in the caller's own order
abbrev pub put_all : ℕ → List Entry → History → History
put_all caller [] l = l
put_all caller (e ∷ es) l = put_all caller es (put (caller, e) l)

-- with those of all callers from this number on
abbrev pub put_each : ℕ → List (List Entry) → History → History
put_each caller [] l = l
put_each caller (es ∷ lists) l = put_each (suc caller) lists (put_all caller es l)

-- the chronicle of the callers' lists
abbrev pub chronicle : List (List Entry) → History
chronicle lists = put_each 0 lists []

-- the entries of a caller, and the lists when it has noted one entry more
abbrev pub entries_of : List (List Entry) → ℕ → List Entry
entries_of lists caller = get_or lists caller []

abbrev pub noted : List (List Entry) → ℕ → Entry → List (List Entry)
noted lists caller e = set lists caller (entries_of lists caller ++ e ∷ [])

-- each entry is a step of the set that the entries before it leave
abbrev pub Legal : ℕ → TermSet → History → Type 0
Legal rows s [] = Unit {0}
Legal rows s (x ∷ xs) = IsStep rows s x.1 × Legal rows (after s x.0 x.1) xs

abbrev pub IsLegal : ℕ → History → Type 0
IsLegal rows l = Legal rows empty l

-- the set that the entries leave
abbrev pub left_by : TermSet → History → TermSet
left_by s [] = s
left_by s (x ∷ xs) = left_by (after s x.0 x.1) xs

abbrev pub set_of : History → TermSet
set_of l = left_by empty l

-- no collection is among the entries, none adds a pair with this name, and none is Roots of this
-- caller
abbrev pub NoCollect : History → Type 0
NoCollect l = (y : ℕ × Entry) → Contains l y → is_collect y.1 ≡ false

abbrev pub NotMade : ℕ → History → Type 0
NotMade n l = (y : ℕ × Entry) → Contains l y → Made y.1 n → ⊥

abbrev pub NoRoots : ℕ → History → Type 0
NoRoots caller l = (y : ℕ × Entry) → Contains l y → y.0 ≡ caller → is_roots y.1 ≡ false

-- one of the callers noted the entry
pub record IsNoted (lists : List (List Entry)) (y : ℕ × Entry) : Type 0 where
  pub present : y.0 < length lists
  pub own : Contains (entries_of lists y.0) y.1

-- What the callers' lists give for one entry more, which is no Collect: its caller's keys don't
-- fall, no Collect goes after it, nor does a Make of a name that it needs, and it is a step of the
-- set as it is now.
pub record MayNote (rows : ℕ) (lists : List (List Entry)) (caller : ℕ) (e : Entry) : Type 0 where
  pub present : caller < length lists
  pub kind : is_collect e ≡ false
  pub own : (d : Entry) → Contains (entries_of lists caller) d → place d ≤ place e
  pub collects : (y : ℕ × Entry) → IsNoted lists y → is_collect y.1 ≡ true
      → precedes (caller, e) y ≡ false
  pub names : (n : ℕ) (y : ℕ × Entry) → Contains (needed e) n → IsNoted lists y → Made y.1 n
      → precedes (caller, e) y ≡ false
  pub step : IsStep rows (set_of (chronicle lists)) e

-- the same for a Collect: nothing goes after it
pub record MayCollect (rows : ℕ) (lists : List (List Entry)) (caller : ℕ) (e : Entry) : Type 0 where
  pub present : caller < length lists
  pub last : (y : ℕ × Entry) → IsNoted lists y → precedes (caller, e) y ≡ false
  pub step : IsStep rows (set_of (chronicle lists)) e

-- the entries of one caller in a history, in its order
abbrev pub part_of : ℕ → History → List Entry
part_of caller [] = []
part_of caller (x ∷ xs) = if x.0 == caller then x.1 ∷ part_of caller xs else part_of caller xs

-- the places of the entries never fall
abbrev pub NeverFalls : List Entry → Type 0
NeverFalls [] = Unit {0}
NeverFalls (e ∷ es) = AllByRecursion (λ d. place e ≤ place d) es × NeverFalls es

-- the names of the last Roots of a caller, and those given where it has none
abbrev pub roots_after : List ℕ → Entry → List ℕ
roots_after names (Make number head args row) = names
roots_after names (Find seen head args row) = names
roots_after names (Roots seen named) = named
roots_after names (Collect number kept) = names

abbrev pub last_roots : List ℕ → List Entry → List ℕ
last_roots names [] = names
last_roots names (e ∷ es) = last_roots (roots_after names e) es

-- no entry goes before one that stands before it
abbrev pub InOrder : History → Type 0
InOrder [] = Unit {0}
InOrder (y ∷ ys) = AllByRecursion (λ z. precedes z y ≡ false) ys × InOrder ys

-- the keys of the entries never fall, and those of Make and Collect are above the earlier ones
abbrev pub KeysRise : List Entry → Type 0
KeysRise [] = Unit {0}
KeysRise (e ∷ es) =
    AllByRecursion (λ d. (key e ≤ key d) × (is_numbered d ≡ true → key e < key d)) es × KeysRise es

-- each caller's keys rise so, and the chronicle is legal
pub record IsGood (rows : ℕ) (lists : List (List Entry)) : Type 0 where
  pub rise : (caller : ℕ) → KeysRise (entries_of lists caller)
  pub legal : IsLegal rows (chronicle lists)
