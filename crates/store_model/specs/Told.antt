-- What a seat's own entries tell: the trees of the rows that they name, and those of its creations,
-- roots and collections.
use Rattle.std.specs.Prelude.{ℕ, ◌+◌, List, [], ◌∷◌, ◌++◌, map, max}
use Rattle.std.specs.List.{flat_map}
use Rattle.term_model.specs.declared.Head.{Head}
use Rattle.term_model.specs.Tree.{Tree, Leaf, Node, trees_of, subtrees, distinct}
use Rattle.history_core.specs.declared.entry.Entry.{Entry}
use Rattle.history_core.specs.declared.entry.Entry.TheVariants.{Make, Find, Roots, Collect}
use Rattle.store_model.specs.Words.{put}

pub record Told : Type 0 where
  -- the tree of each row, by the last creation that gave the row; of other rows it says nothing
  pub tree : ℕ → Tree
  -- the trees of all creations, in order
  pub built : List Tree
  -- the rows of the last Roots, their trees, and the most different subtrees that one Roots had
  pub noted : List ℕ
  pub rooted : List Tree
  pub load : ℕ
  -- the trees of the last Roots before the last Collect, and how many Collects there are
  pub hand : List Tree
  pub sweeps : ℕ

abbrev pub nothing : Told
nothing = record {
  tree = λ r. Leaf 0;
  built = [];
  noted = [];
  rooted = [];
  load = 0;
  hand = [];
  sweeps = 0;
}

-- the tree of a head over rows that have these trees
abbrev pub tree_over : (ℕ → Tree) → Head → List ℕ → Tree
tree_over tree f rs = Node f (trees_of (map tree rs))

-- how many different subtrees these trees have
abbrev pub subtrees_in : List Tree → ℕ
subtrees_in ts = distinct (flat_map subtrees ts)

-- after a creation that gave row r
abbrev pub created : Told → Head → List ℕ → ℕ → Told
created t f rs r =
    record t {
      tree = put t.tree r (tree_over t.tree f rs);
      built = t.built ++ tree_over t.tree f rs ∷ [];
    }

abbrev pub after : Told → Entry → Told
after t (Make number f rs r) = created t f rs r
after t (Find seen f rs r) = created t f rs r
after t (Roots seen rs) =
    record t { noted = rs; rooted = map t.tree rs; load = max t.load (subtrees_in (map t.tree rs)) }
after t (Collect number kept) = record t { hand = t.rooted; sweeps = t.sweeps + 1 }

abbrev pub told_from : Told → List Entry → Told
told_from t [] = t
told_from t (e ∷ es) = told_from (after t e) es

abbrev pub told : List Entry → Told
told es = told_from nothing es

-- the trees of the rows of Roots
abbrev pub roots_told : Told → Entry → List Tree
roots_told t (Make number f rs r) = []
roots_told t (Find seen f rs r) = []
roots_told t (Roots seen rs) = map t.tree rs
roots_told t (Collect number kept) = []

-- those of all Roots, in order
abbrev pub all_roots_from : Told → List Entry → List Tree
all_roots_from t [] = []
all_roots_from t (e ∷ es) = roots_told t e ++ all_roots_from (after t e) es

abbrev pub all_roots : List Entry → List Tree
all_roots es = all_roots_from nothing es
