use Rattle.std.proofs.Common.{◌≡◌, length}
use Rattle.std.specs.Prelude.{true}
use Rattle.term_model.specs.Tree.{arguments}
use Rattle.terms_api.specs.Terms.{IsHeld, tree_at}
use Rattle.rewriting_trials.proofs.counting.+mark.Given as goal

abbrev pub invariant-loop-place : goal.invariant-loop-place
invariant-loop-place g l =
    record {
      inside : (g.T.Terms.store l.terms).inside ≡ true;
      held : IsHeld (g.T.Terms.store l.terms) l.row;
      count : l.count ≡ length (arguments (tree_at (g.T.Terms.store l.terms) l.row));
      store : g.T.Terms.store l.terms ≡ g.T.Terms.store l.fn.terms;
      same : g.T.Terms.same l.fn.terms l.terms;
    }

abbrev pub decreases-mark : goal.decreases-mark
decreases-mark g l = l.levels
