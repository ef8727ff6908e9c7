use Rattle.std.proofs.Common.{◌≡◌, length}
use Rattle.run_checks.specs.Held.{Grows, term_at}
use Rattle.log_check.specs.Words.{words_after}
use Rattle.run_checks.specs.Standing.{IsStanding, at_root, place_of}
use Rattle.run_checks.proofs.Replays.{traced}
use Rattle.run_checks.proofs.replaying.replay.Given as goal

-- the events that are left lead from here to where all events lead from the term
abbrev pub invariant-events : goal.invariant-events
invariant-events l = record {
  grows : Grows l.fn.table l.table;
  standing : IsStanding l.table l.cursor;
  same : traced l.plan.rules (words_after l.rest) (place_of l.table l.cursor) ≡ traced l.plan.rules (words_after l.events) (at_root (term_at l.fn.table l.term));
}

abbrev pub decreases-events : goal.decreases-events
decreases-events l = length l.rest
