use Rattle.std.proofs.Common.{arith}
use Rattle.term_syntax.proofs.Known.{known_taken}
use Rattle.term_syntax.proofs.symbols.take_symbol.Goals as goal

pub returns-in-Some-clause-taken : goal.returns-in-Some-clause-taken
returns-in-Some-clause-taken c =
    let pool = c.args.symbols.now in
    let short = c.if-name-gt-SHORT.false in
    let found = c.in-Some.ensures pool c.requires in
    known_taken pool c.args.name.now c.args.count c.in-Some.symbol (omega (arith, short)) found.0 found.1
