use Rattle.store_core.proofs.Tables.{shows_none}
use Rattle.store_core.proofs.machine.table.Table.zeros.Goals as goal

pub returns-clause-words : goal.returns-clause-words
returns-clause-words c = λ p. rw c.in_ok-words.ensures.items (shows_none c.args.sizes.now c.count_words.result p)
