use Rattle.store_core.proofs.Tables.{begun_by}
use Rattle.store_core.proofs.machine.table.Table.begun.Goals as goal

pub returns-clause-words : goal.returns-clause-words
returns-clause-words c = begun_by _ _ _ _ _ _ _ c.requires c.store.ensures.words c.from.ensures c.store-2.ensures.words c.from-2.ensures c.store-3.ensures.words
