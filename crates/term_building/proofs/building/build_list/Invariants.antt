use Rattle.std.proofs.Common.{◌≡◌, ◌-◌, true}
use Rattle.terms_api.specs.Terms.{trees}
use Rattle.term_building.proofs.Lists.{rolled}
use Rattle.term_building.proofs.building.build_list.Given as goal

-- the trees that are left are the first of the list
abbrev pub invariant-loop-cell : goal.invariant-loop-cell
invariant-loop-cell g l = record {
  inside : (g.T.Terms.store l.store).inside ≡ true;
  wide : (g.T.Terms.store l.store).widest ≡ (g.T.Terms.store l.fn.store).widest;
  same : g.T.Terms.same l.fn.store l.store;
  rolled : trees (g.T.Terms.store l.store) ≡ rolled (trees (g.T.Terms.store l.fn.store)) l.count (l.count - l._cell);
}
