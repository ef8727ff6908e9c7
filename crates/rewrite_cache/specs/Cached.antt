-- What is built where results of reductions are remembered.
use Rattle.std.specs.Prelude.{◌≡◌, ℕ, ◌+◌, ◌<◌, List, [], ◌∷◌, ◌++◌, Contains}
use Rattle.std.specs.List.{flat_map}
use Rattle.term_model.specs.Tree.{Tree}
use Rattle.rewrite_model.specs.Rule.{Rule}
use Rattle.rewrite_model.specs.Run.{Done}
use Rattle.rewrite_model.specs.Evaluation.{Point, reduction, evaluation}

-- The reduction that begins at a point, in its room and with some fuel, ends in a value, and these
-- are all the points inside it.
pub record IsReducedAt (rules : List Rule) (p : Point) (inside : List Point) : Type 0 where
  pub given : List Tree
  pub kept : List Tree
  pub fuel : ℕ
  pub value : Tree
  pub left : ℕ
  pub run : reduction rules given kept p.tree fuel p.room
      ≡ record { notes = p ∷ inside; end = Done value left }

-- A cached list of points: their trees in order. Where the tree of a point stands before it, in the
-- list or in what was built earlier, all that its reduction builds inside may be left out.
pub data IsCached (rules : List Rule) : List Tree → List Point → List Tree → Type 0 where
  Nothing : {earlier : List Tree} → IsCached rules earlier [] []
  Whole : {earlier trees : List Tree} {p : Point} {points : List Point}
      → IsCached rules (earlier ++ p.tree ∷ []) points trees
      → IsCached rules earlier (p ∷ points) (p.tree ∷ trees)
  LeftOut : {earlier trees : List Tree} {p : Point} {inside points : List Point}
      → Contains earlier p.tree → IsReducedAt rules p inside
      → IsCached rules (earlier ++ p.tree ∷ []) points trees
      → IsCached rules earlier (p ∷ inside ++ points) (p.tree ∷ trees)

-- A cached list of several terms together: that of their points, one term after another.
abbrev pub IsCachedOfAll : List Rule → List Tree → ℕ → ℕ → List Tree → Type 0
IsCachedOfAll rules terms fuel room trees =
    IsCached rules [] (flat_map (λ t. (evaluation rules t fuel room).notes) terms) trees

-- Reducing a tree by all rules gives this value for so much fuel, in this room and in every wider
-- one, whatever is handed over and kept.
abbrev pub IsKnown : List Rule → Tree → Tree → ℕ → ℕ → Type 0
IsKnown rules t value used room = (given kept : List Tree) (more wider : ℕ)
    → (reduction rules given kept t (used + more) (room + wider)).end ≡ Done value more

-- In no smaller room does reducing the tree by all rules end in a value, whatever is handed over
-- and kept, and with whatever fuel. (That this room suffices, `IsKnown` says.)
abbrev pub IsLeastRoom : List Rule → Tree → ℕ → Type 0
IsLeastRoom rules t room = (given kept : List Tree) (fuel less : ℕ) (value : Tree) (left : ℕ)
    → less < room → (reduction rules given kept t fuel less).end ≡ Done value left → ⊥

-- no tree of the points stands before its point
abbrev pub AreNew : List Tree → List Point → Type 0
AreNew earlier [] = Unit {0}
AreNew earlier (p ∷ points) = (Contains earlier p.tree → ⊥) × AreNew (earlier ++ p.tree ∷ []) points
