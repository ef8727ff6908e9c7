-- Matching a left side, whose variables are numbered from 0 in order of first occurrence.
use Rattle.std.specs.Prelude.{ℕ, zero, suc, List, [], ◌∷◌, Option, Some, None, if◌then◌else◌, option_and_then, slice_index_or}
use Rattle.std.specs.Option.{option_map}
use Rattle.term_model.specs.Tree.{Tree, Leaf, Node, Trees, End, More, head_eq, tree_eq}

-- a new variable is bound to the tree; one that is bound already needs an equal tree
abbrev pub bind : ℕ → Tree → List Tree → Option (List Tree)
bind zero t [] = Some (t ∷ [])
bind (suc x) t [] = None
bind zero t (u ∷ bound) = if tree_eq u t then Some (u ∷ bound) else None
bind (suc x) t (u ∷ bound) = option_map (λ more. u ∷ more) (bind x t bound)

-- A variable matches every tree, and a head over patterns matches an equal head over as many trees
-- that they match. What is bound is handed on from left to right.
abbrev mutual
  pub match_from : Tree → Tree → List Tree → Option (List Tree)
  match_from (Leaf x) t bound = bind x t bound
  match_from (Node h ps) (Leaf y) bound = None
  match_from (Node h ps) (Node g ts) bound = if head_eq h g then match_all ps ts bound else None

  pub match_all : Trees → Trees → List Tree → Option (List Tree)
  match_all End End bound = Some bound
  match_all End (More t ts) bound = None
  match_all (More p ps) End bound = None
  match_all (More p ps) (More t ts) bound =
      option_and_then (λ more. match_all ps ts more) (match_from p t bound)

-- one tree per variable in order of first occurrence, or none
abbrev pub match_of : Tree → Tree → Option (List Tree)
match_of p t = match_from p t []

abbrev pub if_matched : {A : Type 0} → Option (List Tree) → A → (List Tree → A) → A
if_matched None otherwise go = otherwise
if_matched (Some bound) otherwise go = go bound

-- the tree that a variable is bound to; a variable that is not bound stays itself
abbrev pub tree_at : ℕ → List Tree → Tree
tree_at x bound = slice_index_or bound x (Leaf x)

-- a pattern with the bound trees in place of its variables
abbrev mutual
  pub instance : Tree → List Tree → Tree
  instance (Leaf x) bound = tree_at x bound
  instance (Node h ps) bound = Node h (instances ps bound)

  pub instances : Trees → List Tree → Trees
  instances End bound = End
  instances (More p ps) bound = More (instance p bound) (instances ps bound)
