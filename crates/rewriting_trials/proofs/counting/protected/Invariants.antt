use Rattle.std.proofs.Common.{◌≡◌, length}
use Rattle.std.specs.Prelude.{true}
use Rattle.rewriting_trials.proofs.counting.protected.Given as goal

abbrev pub invariant-places : goal.invariant-places
invariant-places g l =
    record {
      inside : (g.T.Terms.store l.terms).inside ≡ true;
      places : length (g.T.Terms.store l.terms).stack ≡ l.places;
      store : g.T.Terms.store l.terms ≡ g.T.Terms.store l.fn.terms;
      same : g.T.Terms.same l.fn.terms l.terms;
    }
