use Rattle.std.proofs.Common.{◌≡◌, ◌≤◌, true}
use Rattle.building_speed.proofs.build_beside.Given as goal

abbrev pub invariant-loop : goal.invariant-loop
invariant-loop g l =
    record {
      inside : (g.T.Terms.store l.terms).inside ≡ true;
      width : 1 ≤ (g.T.Terms.store l.terms).widest;
    }

abbrev pub invariant-loop-leaf : goal.invariant-loop-leaf
invariant-loop-leaf g l =
    record {
      inside : (g.T.Terms.store l.terms).inside ≡ true;
      width : 1 ≤ (g.T.Terms.store l.terms).widest;
    }
