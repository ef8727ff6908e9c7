-- What a store records so that its callers' entries stay a legal history: the trees of its live
-- names, their birth numbers, the base, each caller's entries, and the greatest number that each
-- caller has seen.
use Rattle.std.specs.Prelude.{◌≡◌, ◌⊎◌, ℕ, ◌+◌, ◌*◌, ◌<◌, ◌≤◌, ◌==◌, true, if◌then◌else◌, max, List, [], length, Contains, replicate}
use Rattle.term_model.specs.declared.Head.{Head}
use Rattle.history_core.specs.TermSet.{Names, TermSet, empty, IsHeld, tree_over, with_pair, with_only}
use Rattle.history_core.specs.Entry.{Entry, is_collect, key, place, Made, IsStep}
use Rattle.history_core.specs.Entry.{Make, Find, Roots, Collect}
use Rattle.history_core.specs.Chronicle.{chronicle, noted, entries_of, IsLegal, set_of, IsNoted}

pub record Recording : Type 0 where
  pub names : Names
  pub birth : ℕ → ℕ
  pub base : ℕ
  pub lists : List (List Entry)
  pub seen : ℕ → ℕ

-- the function with this value at i
abbrev pub changed : (ℕ → ℕ) → ℕ → ℕ → ℕ → ℕ
changed f i n = λ j. if j == i then n else f j

-- the store's pairs with the roots of the history
abbrev pub present : Recording → TermSet
present st = record { held = st.names; roots = (set_of (chronicle st.lists)).roots }

pub record IsFaithful (rows : ℕ) (st : Recording) : Type 0 where
  -- the history is legal, and leaves what the store has
  pub legal : IsLegal rows (chronicle st.lists)
  pub pairs : (set_of (chronicle st.lists)).held ≡ st.names
  -- a caller has seen its own keys, and so its places
  pub own : (i : ℕ) (d : Entry) → Contains (entries_of st.lists i) d → place d ≤ 2 * st.seen i + 1
  -- a Collect is before the base
  pub collects : (y : ℕ × Entry) → IsNoted st.lists y → is_collect y.1 ≡ true → key y.1 < st.base
  -- the last Make of a live name is its birth, and what was made since the base is live
  pub births : (n : ℕ) (y : ℕ × Entry) → IsNoted st.lists y → Made y.1 n → IsHeld st.names n
      → key y.1 ≤ st.birth n
  pub recent : (n : ℕ) (y : ℕ × Entry) → IsNoted st.lists y → Made y.1 n → (key y.1 < st.base)
      ⊎ IsHeld st.names n

-- caller i is in: no collection is younger than what it has seen
pub record IsIn (st : Recording) (i : ℕ) : Type 0 where
  pub there : i < length st.lists
  pub base : st.base ≤ st.seen i + 1

-- A store without names and entries is faithful.
abbrev pub StartIsFaithful : Type 0
StartIsFaithful = (rows callers base : ℕ) (birth seen : ℕ → ℕ) →
    IsFaithful rows
    (record {
      names = empty.held;
      birth = birth;
      base = base;
      lists = replicate callers [];
      seen = seen;
    })

-- A caller that is in adds a name by a number above all that it has seen, over names whose birth
-- numbers it has seen.
abbrev pub MakeKeeps : Type 0
MakeKeeps = (rows : ℕ) (st : Recording) (i number : ℕ) (head : Head) (args : List ℕ) (row : ℕ)
    → IsFaithful rows st → IsIn st i →
    st.seen i < number → ((n : ℕ) → Contains args n → st.birth n ≤ st.seen i)
    → IsStep rows (present st) (Make number head args row) →
    IsFaithful rows (record {
      names = with_pair st.names row (tree_over st.names head args);
      birth = changed st.birth row number;
      base = st.base;
      lists = noted st.lists i (Make number head args row);
      seen = changed st.seen i number;
    })

-- A caller that is in finds a name, and has then seen that name's birth number.
abbrev pub FindKeeps : Type 0
FindKeeps = (rows : ℕ) (st : Recording) (i : ℕ) (head : Head) (args : List ℕ) (row : ℕ)
    → IsFaithful rows st → IsIn st i →
    ((n : ℕ) → Contains args n → st.birth n ≤ st.seen i)
    → IsStep rows (present st) (Find (max (st.seen i) (st.birth row)) head args row) →
    IsFaithful rows (record {
      names = st.names;
      birth = st.birth;
      base = st.base;
      lists = noted st.lists i (Find (max (st.seen i) (st.birth row)) head args row);
      seen = changed st.seen i (max (st.seen i) (st.birth row));
    })

-- A caller that is in leaves with names whose birth numbers it has seen.
abbrev pub RootsKeep : Type 0
RootsKeep = (rows : ℕ) (st : Recording) (i : ℕ) (names : List ℕ) → IsFaithful rows st → IsIn st i →
    ((n : ℕ) → Contains names n → st.birth n ≤ st.seen i)
    → IsStep rows (present st) (Roots (st.seen i) names) →
    IsFaithful rows
    (record {
      names = st.names;
      birth = st.birth;
      base = st.base;
      lists = noted st.lists i (Roots (st.seen i) names);
      seen = st.seen;
    })

-- A caller collects by a number of at least the base that is above all that any caller has seen;
-- the base is then one more.
abbrev pub CollectKeeps : Type 0
CollectKeeps = (rows : ℕ) (st : Recording) (i number : ℕ) (kept : List ℕ) → IsFaithful rows st
    → i < length st.lists → st.base ≤ number →
    ((j : ℕ) → st.seen j < number) → IsStep rows (present st) (Collect number kept) →
    IsFaithful rows (record {
      names = with_only st.names kept;
      birth = st.birth;
      base = number + 1;
      lists = noted st.lists i (Collect number kept);
      seen = changed st.seen i number;
    })
