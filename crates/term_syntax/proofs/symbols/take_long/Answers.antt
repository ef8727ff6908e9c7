use Rattle.term_syntax.proofs.Known.{known_taken}
use Rattle.term_syntax.proofs.symbols.take_long.Goals as goal

pub returns-in-Some-clause-taken : goal.returns-in-Some-clause-taken
returns-in-Some-clause-taken c =
    let found = c.in-Some.ensures in
    known_taken c.args.symbols.now c.args.name.now c.args.count c.in-Some.symbol c.if-name-gt-LONGEST_NAME.false found.held found.is_pool
