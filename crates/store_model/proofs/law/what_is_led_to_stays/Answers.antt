use Rattle.store_model.proofs.Leading.{keeps_exactly_led, keeps_their_words, entry_keeps}
use Rattle.store_model.proofs.law.what_is_led_to_stays.Goals as goal

pub returns-clause-rows : goal.returns-clause-rows
returns-clause-rows c = keeps_exactly_led

pub returns-clause-words : goal.returns-clause-words
returns-clause-words c = keeps_their_words

pub returns-clause-entry : goal.returns-clause-entry
returns-clause-entry c = entry_keeps
