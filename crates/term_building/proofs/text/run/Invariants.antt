use Rattle.std.proofs.Common.{◌≤◌, ◌-◌, length}
use Rattle.term_building.specs.Reached.{HasPassed}
use Rattle.term_building.specs.Ready.{IsReady, state_in}
use Rattle.term_building.proofs.text.run.Given as goal

abbrev pub invariant-loop-at : goal.invariant-loop-at
invariant-loop-at g l = record {
  within : l.at ≤ length l.text;
  ready : IsReady (g.T.Terms.store l.store) l.builder;
  same : g.T.Terms.same l.fn.store l.store;
  passed : HasPassed l.text l.at (state_in l.builder (g.T.Terms.store l.store));
}

abbrev pub decreases-loop-at : goal.decreases-loop-at
decreases-loop-at g l = length l.text - l.at
