use Rattle.std.proofs.Common.{arith}
use Rattle.term_create.proofs.Reading.{uses_below}
use Rattle.term_create.proofs.reads.start_of.Goals as goal

pub word_in-requires : goal.word_in-requires
word_in-requires c =
    let ready = c.requires.inside.ready in
    (c.requires.inside.store.small, uses_below c.args.store.now.sizes c.args.pass.now.seat.seat.me.0.store c.args.row.0 ready.rest ready.known c.requires.uses, omega arith)
