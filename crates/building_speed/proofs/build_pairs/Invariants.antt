use Rattle.std.proofs.Common.{◌≡◌, ◌≤◌, true}
use Rattle.building_speed.proofs.build_pairs.Given as goal

abbrev pub invariant-loop-i : goal.invariant-loop-i
invariant-loop-i g l =
    record {
      inside : (g.T.Terms.store l.terms).inside ≡ true;
      width : 1 ≤ (g.T.Terms.store l.terms).widest;
    }
