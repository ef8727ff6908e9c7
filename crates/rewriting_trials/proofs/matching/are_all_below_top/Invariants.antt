use Rattle.std.proofs.Common.{◌≡◌, length}
use Rattle.std.specs.Prelude.{true}
use Rattle.rewriting_trials.proofs.matching.are_all_below_top.Given as goal

abbrev pub invariant-loop-place : goal.invariant-loop-place
invariant-loop-place g l =
    record {
      inside : (g.T.Terms.store l.terms).inside ≡ true;
      places : length (g.T.Terms.store l.terms).stack ≡ l.places;
    }
