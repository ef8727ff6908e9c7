use Rattle.term_create.proofs.Reading.{uses_below, word_there}
use Rattle.term_create.proofs.reads.place_of.Goals as goal

pub returns-clause-there : goal.returns-clause-there
returns-clause-there c =
    let ready = c.requires.inside.ready in
    let z = c.args._store.now.sizes in
    word_there z c.args._row.0 c.args.k (uses_below z c.args._pass.now.seat.seat.me.0.store c.args._row.0 ready.rest ready.known c.requires.uses) c.requires.within
