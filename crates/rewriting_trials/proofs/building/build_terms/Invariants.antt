use Rattle.std.proofs.Common.{◌≡◌}
use Rattle.std.specs.Prelude.{true}
use Rattle.rewriting_trials.proofs.building.build_terms.Given as goal

abbrev pub invariant-loop-item : goal.invariant-loop-item
invariant-loop-item g l =
    record {
      inside : (g.T.Terms.store l.terms).inside ≡ true;
      wide : (g.T.Terms.store l.terms).widest ≡ (g.T.Terms.store l.fn.terms).widest;
    }
