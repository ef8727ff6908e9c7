use Rattle.std.proofs.Common.{◌-◌, ◌≡◌, ◌≤◌, take, drop}
use Rattle.std.specs.Prelude.{true}
use Rattle.term_model.specs.Tree.{arguments}
use Rattle.terms_api.specs.Terms.{IsSound, tree_at}
use Rattle.innermost.specs.Rebuilding.{Pushes}
use Rattle.innermost.proofs.rebuilding.push_arguments.Given as goal

-- the arguments before a place are on the stack
abbrev pub invariant-arguments : goal.invariant-arguments
invariant-arguments g l =
    let s = g.T.Terms.store l.fn.terms in
    record {
      low : l.from ≤ l.at;
      high : l.at ≤ l.to;
      inside : (g.T.Terms.store l.terms).inside ≡ true;
      pushed : Pushes s (g.T.Terms.store l.terms) (take (l.at - l.from) (drop l.from (arguments (tree_at s l.row))));
      sound : IsSound (g.T.Terms.store l.terms);
      same : g.T.Terms.same l.fn.terms l.terms;
    }

abbrev pub decreases-arguments : goal.decreases-arguments
decreases-arguments g l = l.to - l.at
