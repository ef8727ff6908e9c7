-- What the entries of a caller tell of trees, each at its place: as the trees that its creations
-- name.
use Rattle.std.specs.Prelude.{◌≡◌, ℕ, false, ◌==◌, if◌then◌else◌, List, [], ◌∷◌, ◌++◌}
use Rattle.std.specs.List.{AllByRecursion}
use Rattle.term_model.specs.Tree.{Tree, list_of}
use Rattle.history_core.specs.TermSet.{Names, TermSet, Holds, IsHeld, tree_over, trees_at}
use Rattle.history_core.specs.Entry.{Entry, Make, Find, Roots, Collect, is_collect, needed, after}
use Rattle.history_core.specs.Chronicle.{History}

-- f tells some trees of an entry by the pairs that it finds
abbrev pub told : (Names → Entry → List Tree) → ℕ → TermSet → History → List Tree
told f caller s [] = []
told f caller s (x ∷ xs) =
    (if x.0 == caller then f s.held x.1 else []) ++ told f caller (after s x.0 x.1) xs

-- what f tells of an entry that is no Collect depends on the trees of the names that it needs alone
abbrev pub TellsNeeded : (Names → Entry → List Tree) → Type 0
TellsNeeded f = (h k : Names) (e : Entry) → is_collect e ≡ false
    → ((n : ℕ) (t : Tree) → Holds h n t → Holds k n t) → AllByRecursion (IsHeld h) (needed e)
    → f k e ≡ f h e

-- the tree that a creation names
abbrev pub named : Names → Entry → List Tree
named h (Make number head args row) = tree_over h head args ∷ []
named h (Find seen head args row) = tree_over h head args ∷ []
named h (Roots seen names) = []
named h (Collect number kept) = []

-- the trees of the names of Roots, and of those that a Collect keeps
abbrev pub rooted_trees : Names → Entry → List Tree
rooted_trees h (Make number head args row) = []
rooted_trees h (Find seen head args row) = []
rooted_trees h (Roots seen names) = list_of (trees_at h names)
rooted_trees h (Collect number kept) = []

abbrev pub kept_trees : Names → Entry → List Tree
kept_trees h (Make number head args row) = []
kept_trees h (Find seen head args row) = []
kept_trees h (Roots seen names) = []
kept_trees h (Collect number kept) = list_of (trees_at h kept)
