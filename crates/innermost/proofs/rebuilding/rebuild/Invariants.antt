use Rattle.std.proofs.Common.{◌≡◌, List}
use Rattle.std.specs.Prelude.{true, vec_capacity}
use Rattle.term_model.specs.Tree.{Tree}
use Rattle.innermost.specs.Walking.{Crumb}
use Rattle.innermost.specs.Rebuilding.{Change, IsChanged}
use Rattle.innermost.proofs.rebuilding.rebuild.Given as goal

-- a changed tree lies on top, under the trees that are still on the way
abbrev pub invariant-spots : goal.invariant-spots
invariant-spots g l =
    record {
      inside : (g.T.Terms.store l.terms).inside ≡ true;
      spots_room : vec_capacity l.spots ≡ vec_capacity l.fn.spots;
      state : (change : Change) (way : List Crumb) (tree : Tree) → IsChanged change way tree (g.T.Terms.store l.fn.terms) l.fn.spots.items → (w : List Crumb) × (t : Tree) × IsChanged change w t (g.T.Terms.store l.terms) l.spots.items;
      same : g.T.Terms.same l.fn.terms l.terms;
    }

abbrev pub decreases-spots : goal.decreases-spots
decreases-spots g l = goal.left-spots g l
