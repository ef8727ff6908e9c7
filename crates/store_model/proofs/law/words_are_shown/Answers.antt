use Rattle.store_model.proofs.Shown.{shown_written, past_lock, place_inside, places_apart, shown_apart, total_is}
use Rattle.store_model.proofs.law.words_are_shown.Goals as goal

pub returns-clause-written : goal.returns-clause-written
returns-clause-written c = shown_written

pub returns-clause-inside : goal.returns-clause-inside
returns-clause-inside c = λ z p e. (past_lock z p, place_inside z p e)

pub returns-clause-apart : goal.returns-clause-apart
returns-clause-apart c = places_apart

pub returns-clause-lock : goal.returns-clause-lock
returns-clause-lock c = shown_apart

pub returns-clause-count : goal.returns-clause-count
returns-clause-count c = total_is
