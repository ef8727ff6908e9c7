-- What is true of all trees and of all lists of items.
use Rattle.std.specs.Prelude.{◌≡◌, ◌≢◌, ◌<◌, ◌≤◌, List, [], ◌∷◌, ◌++◌, length, Some, true, ◌↔◌, Contains, AllPairs}
use Rattle.std.specs.List.{flat_map}
use Rattle.std.specs.List.Sorted.{IsPermutation}
use Rattle.term_model.specs.Tree.{Tree, Trees, Node, count_of, list_of, arguments, nodes, subtrees, tree_eq, among, distinct, IsWellFormed, IsGround}
use Rattle.term_model.specs.Postorder.{item_of, postorder, tree_of}
use Rattle.term_model.specs.declared.Head.{Head}
use Rattle.term_model.specs.declared.Item.{Item}

-- The items of a well-formed tree spell that tree, and items that spell a tree are that tree's.
abbrev pub TreeOfPostorder : Type 0
TreeOfPostorder = (t : Tree) → IsWellFormed t → tree_of (postorder t) ≡ Some t

abbrev pub PostorderOfTree : Type 0
PostorderOfTree = (is : List Item) (t : Tree) → tree_of is ≡ Some t → (is ≡ postorder t)
    × IsWellFormed t

-- The items of a node are those of its arguments in order, and then its own.
abbrev pub ItemsOfNode : Type 0
ItemsOfNode = (h : Head) (ts : Trees) → postorder (Node h ts) ≡ flat_map postorder (list_of ts)
    ++ item_of h (count_of ts) ∷ []

abbrev pub ItemsAreNodes : Type 0
ItemsAreNodes = (t : Tree) → length (postorder t) ≡ nodes t

-- Equality and membership are decided by the tests of their names.
abbrev pub EqualityIsExact : Type 0
EqualityIsExact = (t u : Tree) → (tree_eq t u ≡ true) ↔ (t ≡ u)

abbrev pub AmongIsExact : Type 0
AmongIsExact = (t : Tree) (ts : List Tree) → (among t ts ≡ true) ↔ Contains ts t

abbrev pub IsSubtree : Tree → Tree → Type 0
IsSubtree u t = Contains (subtrees t) u

-- A tree is its own subtree.
abbrev pub TreesAreSubtrees : Type 0
TreesAreSubtrees = (t : Tree) → IsSubtree t t

-- A subtree of a subtree is a subtree.
abbrev pub SubtreesNest : Type 0
SubtreesNest = (t u v : Tree) → IsSubtree u t → IsSubtree v u → IsSubtree v t

abbrev pub ArgumentsAreSubtrees : Type 0
ArgumentsAreSubtrees = (t u : Tree) → Contains (arguments t) u → IsSubtree u t

abbrev pub ArgumentsHaveFewerNodes : Type 0
ArgumentsHaveFewerNodes = (t u : Tree) → Contains (arguments t) u → nodes u < nodes t

abbrev pub SubtreesHaveNoMoreNodes : Type 0
SubtreesHaveNoMoreNodes = (t u : Tree) → IsSubtree u t → nodes u ≤ nodes t

abbrev pub SubtreesAreWellFormed : Type 0
SubtreesAreWellFormed = (t u : Tree) → IsWellFormed t → IsSubtree u t → IsWellFormed u

abbrev pub SubtreesAreGround : Type 0
SubtreesAreGround = (t u : Tree) → IsGround t → IsSubtree u t → IsGround u

-- In a list without repetition each tree counts.
abbrev pub IsWithoutRepetition : List Tree → Type 0
IsWithoutRepetition ts = AllPairs (λ t u. t ≢ u) ts

abbrev pub DistinctWithoutRepetition : Type 0
DistinctWithoutRepetition = (ts : List Tree) → IsWithoutRepetition ts → distinct ts ≡ length ts

-- A list that holds no other trees has no more different ones, in whatever order they stand.
abbrev pub DistinctOfPart : Type 0
DistinctOfPart = (ts us : List Tree) → ((t : Tree) → Contains ts t → Contains us t)
    → distinct ts ≤ distinct us

abbrev pub DistinctInAnyOrder : Type 0
DistinctInAnyOrder = (ts us : List Tree) → IsPermutation ts us → distinct ts ≡ distinct us

abbrev pub DistinctIsBounded : Type 0
DistinctIsBounded = (ts : List Tree) → distinct ts ≤ length ts

-- A list that holds the arguments of each of its trees holds their subtrees.
abbrev pub IsClosed : List Tree → Type 0
IsClosed ts = (t u : Tree) → Contains ts t → Contains (arguments t) u → Contains ts u

abbrev pub ClosedHoldsSubtrees : Type 0
ClosedHoldsSubtrees = (ts : List Tree) → IsClosed ts → (t u : Tree) → Contains ts t → IsSubtree u t
    → Contains ts u
