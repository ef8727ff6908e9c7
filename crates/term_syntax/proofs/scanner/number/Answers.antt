use Rattle.term_syntax.proofs.Pieces.{number_is}
use Rattle.term_syntax.proofs.scanner.number.Goals as goal

pub returns-clause-number : goal.returns-clause-number
returns-clause-number c = number_is c.args.bytes.now c.args.at c.number_end-end.result c.requires.within c.requires.digit c.number_end-end.ensures.end
