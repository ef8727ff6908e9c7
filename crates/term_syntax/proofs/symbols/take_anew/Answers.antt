use Rattle.std.proofs.Common.{ap, refl, Err}
use Rattle.term_syntax.proofs.Names.{symbol_taken, symbol_refused}
use Rattle.term_syntax.proofs.Known.{known_grown}
use Rattle.term_syntax.proofs.symbols.take_anew.Goals as goal

pub returns-in-Ok-clause-taken : goal.returns-in-Ok-clause-taken
returns-in-Ok-clause-taken c =
    let e = c.in-Ok.ensures in
    symbol_taken c.args.symbols.now c.intern.new.self c.args.name.now c.args.count c.in-Ok.symbol c.requires.short e.held e.added e.found (λ f. absurd (let bad = e.full.1 f in cc)) e.pool

pub returns-in-Err-Full-clause-refused : goal.returns-in-Err-Full-clause-refused
returns-in-Err-Full-clause-refused c =
    let full = c.in-Err-Full.ensures.full.0 (ap Err c.in-Err-Full.field-0-is) in
    rw c.refused.ensures (symbol_refused c.args.symbols.now c.args.name.now c.args.count full, refl, refl)

pub returns-in-Ok-clause-known : goal.returns-in-Ok-clause-known
returns-in-Ok-clause-known c =
    let e = c.in-Ok.ensures in
    let new = c.intern.new.self in
    c.note.ensures new (known_grown c.args.symbols.now new c.args.lately.now c.args.name.now c.args.count c.in-Ok.symbol (returns-in-Ok-clause-taken c) e.pool c.requires.known) e.within e.held e.pool
