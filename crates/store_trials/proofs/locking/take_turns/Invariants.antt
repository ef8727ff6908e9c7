use Rattle.busy_forbidden.specs.Dealt.{IsReady}
use Rattle.store_trials.proofs.locking.take_turns.Given as goal

abbrev pub invariant-loop : goal.invariant-loop
invariant-loop g l = IsReady l.table.shared.table_id l.table.shared.key l.seat.seat l.seat.seats
