use Rattle.term_file.proofs.TableLaws.{lacks_new}
use Rattle.term_file.proofs.symbols.take_up.Goals as goal

pub returns-in-Ok-clause-added : goal.returns-in-Ok-clause-added
returns-in-Ok-clause-added c = c.in-Ok.ensures.added (lacks_new _ _ c.requires.absent)
