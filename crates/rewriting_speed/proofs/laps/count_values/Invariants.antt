use Rattle.std.proofs.Common.{◌≡◌}
use Rattle.rewriting_speed.specs.Ready.{IsReady}
use Rattle.rewriting_speed.proofs.laps.count_values.Given as goal

abbrev pub invariant-loop-term : goal.invariant-loop-term
invariant-loop-term g l = record {
  ready : IsReady l.plan l.machine (g.T.Terms.store l.store);
  machine : l.machine ≡ l.fn.machine;
}
