-- A store in the middle of an outermost evaluation: what was built since the start, and what is
-- left.
use Rattle.std.specs.Prelude.{◌≡◌, ℕ, List, [], ◌∷◌, ◌++◌, true}
use Rattle.term_model.specs.Tree.{Tree, subtrees, among}
use Rattle.term_model.specs.declared.Row.{Row}
use Rattle.terms_api.specs.Terms.{Store, HasTree}
use Rattle.rewrite_model.specs.Run.{Ended, done, ends, noting, OutOfFuel, TooDeep}
use Rattle.rewrite_model.specs.Evaluation.{Point}
use Rattle.rewrite_model.specs.Built.{trees_at}
use Rattle.rewrite_model.specs.Outermost.{Building}
use Rattle.innermost.specs.declared.normal.Normal.{Normal}
use Rattle.innermost.specs.declared.normal.Normal.TheVariants as normal
use Rattle.innermost.specs.declared.normal.RunFault.{RunFault}
use Rattle.innermost.specs.Standing.{Stands, IsRefused}

-- the same run after these trees
abbrev pub after_trees : {A : Type 0} → List Tree → Building A → Building A
after_trees ts run = record { notes = ts ++ run.notes; end = run.end }

-- The whole run comes to what was built since the start and what is left of it; these trees lie on
-- the stack of the start.
pub record Goes (start now : Store) (whole : Building Tree) (above : List Tree)
    (left : Building Tree) : Type 0 where
  pub points : List Point
  pub stands : Stands start now points above
  pub run : whole ≡ after_trees (trees_at points) left

-- it came to an end without a value
pub record Stops (start now : Store) (whole : Building Tree) (end : Ended Tree) : Type 0 where
  pub above : List Tree
  pub goes : Goes start now whole above (ends end)

-- it came to the value on top
pub record Finishes (start now : Store) (whole : Building Tree) (left : ℕ) : Type 0 where
  pub tree : Tree
  pub goes : Goes start now whole (tree ∷ []) (done tree left)

abbrev pub EndsAs : Store → Store → Building Tree → Normal → Type 0
EndsAs start now whole (normal.Value left) = Finishes start now whole left
EndsAs start now whole normal.OutOfFuel = Stops start now whole OutOfFuel
EndsAs start now whole normal.TooDeep = Stops start now whole TooDeep

-- it was given up where a build was refused
pub record WasGivenUp (start now : Store) (whole : Building Tree) (fault : RunFault) : Type 0 where
  pub points : List Point
  pub point : Point
  pub left : Building Tree
  pub run : whole ≡ after_trees (trees_at points) (noting point.tree left)
  pub refused : IsRefused start now points point fault

-- the parts of a tree keep their rows
abbrev pub KeepsParts : Tree → Store → Store → Type 0
KeepsParts root old new = (r : Row) (t : Tree) → among t (subtrees root) ≡ true → HasTree old r t
    → HasTree new r t
