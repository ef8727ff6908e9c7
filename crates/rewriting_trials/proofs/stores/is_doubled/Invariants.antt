use Rattle.std.proofs.Common.{◌≡◌}
use Rattle.std.specs.Prelude.{true}
use Rattle.terms_api.specs.Terms.{IsHeld}
use Rattle.rewriting_trials.proofs.stores.is_doubled.Given as goal

abbrev pub invariant-loop : goal.invariant-loop
invariant-loop g l =
    record {
      inside : (g.T.Terms.store l.terms).inside ≡ true;
      held : IsHeld (g.T.Terms.store l.terms) l.row;
    }
