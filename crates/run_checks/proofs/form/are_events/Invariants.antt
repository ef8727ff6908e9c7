use Rattle.std.proofs.Common.{◌≡◌, length}
use Rattle.std.specs.Prelude.{is_some}
use Rattle.run_checks.specs.Form.{events_in}
use Rattle.log_check.specs.Words.{words_after}
use Rattle.run_checks.proofs.form.are_events.Given as goal

abbrev pub invariant-words : goal.invariant-words
invariant-words l = is_some (events_in (words_after l.left)) ≡ is_some (events_in (words_after l.rest))

abbrev pub decreases-words : goal.decreases-words
decreases-words l = length l.left
