use Rattle.rewriting_speed.specs.Ready.{IsReady}
use Rattle.rewriting_speed.proofs.laps.laps_beside.Given as goal

abbrev pub invariant-loop : goal.invariant-loop
invariant-loop g l = record {
  own : IsReady l.plan l.machine (g.S.Terms.store l.own);
  shared : IsReady l.plan l.machine (g.T.Terms.store l.shared);
}
