use Rattle.term_syntax.proofs.Pieces.{plain_is}
use Rattle.term_syntax.proofs.scanner.plain_name.Goals as goal

pub returns-clause-name : goal.returns-clause-name
returns-clause-name c = plain_is c.args.bytes.now c.args.at c.name_end-end.result c.requires.within c.name_end-end.ensures.end
