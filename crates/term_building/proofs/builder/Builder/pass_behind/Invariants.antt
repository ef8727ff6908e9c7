use Rattle.std.proofs.Common.{◌≡◌, ◌-◌, length}
use Rattle.term_building.specs.Reached.{Reaches}
use Rattle.term_building.specs.Ready.{IsReady, state_in}
use Rattle.term_building.specs.Stages.{Settled}
use Rattle.term_building.proofs.builder.Builder.pass_behind.Given as goal

abbrev pub invariant-loop-next : goal.invariant-loop-next
invariant-loop-next g l = record {
  reaches : Reaches l.text l.at (state_in l.fn.self (g.T.Terms.store l.fn.store)) l.next (state_in l.self (g.T.Terms.store l.store));
  ready : IsReady (g.T.Terms.store l.store) l.self;
  same : g.T.Terms.same l.fn.store l.store;
  stage : (state_in l.self (g.T.Terms.store l.store)).stage ≡ Settled;
}

abbrev pub decreases-loop-next : goal.decreases-loop-next
decreases-loop-next g l = length l.text - l.next
