-- Building the trees on the way over a changed tree again.
use Rattle.std.specs.Prelude.{◌≡◌, ℕ, ◌+◌, ◌≤◌, List, [], ◌∷◌, ◌++◌, length, map, reverse, Bool, true, false}
use Rattle.term_model.specs.Tree.{Tree}
use Rattle.term_model.specs.declared.Row.{Row}
use Rattle.terms_api.specs.Terms.{Store, tree_at}
use Rattle.rewrite_model.specs.Rule.{Rule}
use Rattle.rewrite_model.specs.Run.{◌>>=◌, TooDeep}
use Rattle.rewrite_model.specs.Outermost.{Building, Stepped, Changed}
use Rattle.innermost.specs.declared.spots.Spot.{Spot}
use Rattle.innermost.specs.Instances.{IsNarrow}
use Rattle.innermost.specs.Outward.{Goes, Stops}
use Rattle.innermost.specs.Walking.{Crumb, onward, AreSpots, AreBegun}

-- Rows of these trees are on top, and nothing else has changed.
pub record Pushes (old new : Store) (ts : List Tree) : Type 0 where
  pub rows : List Row
  pub is : new ≡ record old { stack = old.stack ++ rows }
  pub trees : map (tree_at old) rows ≡ ts

-- Where a tree is changed: the store at the start, the whole run, the rules, the greatest arity,
-- the room, the tree that is rewritten, the fuel that is left, and what comes after the step.
pub record Change : Type 0 where
  pub start : Store
  pub whole : Building Tree
  pub rules : List Rule
  pub widest : ℕ
  pub depth : ℕ
  pub root : Tree
  pub left : ℕ
  pub go : Stepped Tree → ℕ → Building Tree

-- A changed tree lies on the tree that is rewritten, and the trees on the way over it have their
-- rows.
pub record IsChanged (change : Change) (way : List Crumb) (tree : Tree) (now : Store)
    (spots : List Spot) : Type 0 where
  pub goes : Goes change.start now change.whole (change.root ∷ tree ∷ [])
      (onward change.rules way (Changed tree) change.left >>= change.go)
  pub on_way : AreSpots change.depth change.root now (reverse spots) way
  pub begun : AreBegun way
  pub root_narrow : IsNarrow change.widest change.root
  pub narrow : IsNarrow change.widest tree
  pub wide : change.widest ≤ change.start.widest
  pub places : length change.start.stack + change.depth ≤ change.start.room

-- One more tree is built again, or there was no room for it.
abbrev pub IsRebuilt : Change → List Crumb → Store → List Spot → Bool → Type 0
IsRebuilt change way now spots true = (t : Tree) × IsChanged change way t now spots
IsRebuilt change way now spots false = Stops change.start now change.whole TooDeep

-- All of them are.
pub record HasChanged (change : Change) (now : Store) : Type 0 where
  pub tree : Tree
  pub goes : Goes change.start now change.whole (change.root ∷ tree ∷ [])
      (change.go (Changed tree) change.left)
  pub narrow : IsNarrow change.widest tree

abbrev pub IsRebuiltAll : Change → Store → Bool → Type 0
IsRebuiltAll change now true = HasChanged change now
IsRebuiltAll change now false = Stops change.start now change.whole TooDeep
