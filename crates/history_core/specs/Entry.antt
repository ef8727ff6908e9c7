-- What a caller notes of each step that it made on the set.
use Rattle.std.specs.Prelude.{◌≡◌, ◌↔◌, ℕ, ◌+◌, ◌*◌, ◌<◌, Bool, true, false, List, [], ◌∷◌, Contains}
use Rattle.std.specs.List.{AllByRecursion}
pub use Rattle.history_core.specs.declared.entry.Entry.{Entry}
pub use Rattle.history_core.specs.declared.entry.Entry.TheVariants.{Make, Find, Roots, Collect}
use Rattle.history_core.specs.TermSet.{TermSet, Holds, IsHeld, IsFree, Lacks, MayCreate, tree_over, with_pair, with_roots, with_only, IsReached}

-- An entry is Make number head args row: a creation added a pair; Find after head args row: a
-- creation found one; Roots after names: a leave; or Collect number kept: a collection, and the
-- names that stay.
abbrev pub is_collect : Entry → Bool
is_collect (Make number head args row) = false
is_collect (Find seen head args row) = false
is_collect (Roots seen names) = false
is_collect (Collect number kept) = true

abbrev pub is_roots : Entry → Bool
is_roots (Make number head args row) = false
is_roots (Find seen head args row) = false
is_roots (Roots seen names) = true
is_roots (Collect number kept) = false

-- the key: number, or after
abbrev pub key : Entry → ℕ
key (Make number head args row) = number
key (Find seen head args row) = seen
key (Roots seen names) = seen
key (Collect number kept) = number

-- Where an entry stands: by the key, and on a tie Make and Collect go first.
abbrev pub place : Entry → ℕ
place (Make number head args row) = 2 * number
place (Find seen head args row) = 2 * seen + 1
place (Roots seen names) = 2 * seen + 1
place (Collect number kept) = 2 * number

-- whether it has a number of its own, which a Find and Roots have not
abbrev pub is_numbered : Entry → Bool
is_numbered (Make number head args row) = true
is_numbered (Find seen head args row) = false
is_numbered (Roots seen names) = false
is_numbered (Collect number kept) = true

-- the names that a step takes to be held
abbrev pub needed : Entry → List ℕ
needed (Make number head args row) = args
needed (Find seen head args row) = row ∷ args
needed (Roots seen names) = names
needed (Collect number kept) = []

-- it added a pair with this name
abbrev pub Made : Entry → ℕ → Type 0
Made (Make number head args row) n = row ≡ n
Made (Find seen head args row) n = ⊥
Made (Roots seen names) n = ⊥
Made (Collect number kept) n = ⊥

abbrev pub IsAscending : List ℕ → Type 0
IsAscending [] = Unit {0}
IsAscending (n ∷ ns) = AllByRecursion (λ m. n < m) ns × IsAscending ns

-- An entry is a step of the set, whose names are below rows: a Make adds a pair of a name and a
-- tree that no pair has, a Find finds one and adds nothing, the names of Roots are held, and a
-- Collect keeps exactly the pairs whose tree is inside some root's.
abbrev pub IsStep : ℕ → TermSet → Entry → Type 0
IsStep rows s (Make number head args row) = MayCreate s.held head args × (row < rows)
    × IsFree s.held row × Lacks s.held (tree_over s.held head args)
IsStep rows s (Find seen head args row) =
    MayCreate s.held head args × Holds s.held row (tree_over s.held head args)
IsStep rows s (Roots seen names) = AllByRecursion (IsHeld s.held) names
IsStep rows s (Collect number kept) = IsAscending kept × ((n : ℕ) → Contains kept n ↔ IsReached s n)

-- the set after an entry of this caller
abbrev pub after : TermSet → ℕ → Entry → TermSet
after s caller (Make number head args row) =
    record { held = with_pair s.held row (tree_over s.held head args); roots = s.roots }
after s caller (Find seen head args row) = s
after s caller (Roots seen names) =
    record { held = s.held; roots = with_roots s.roots caller names }
after s caller (Collect number kept) = record { held = with_only s.held kept; roots = s.roots }
