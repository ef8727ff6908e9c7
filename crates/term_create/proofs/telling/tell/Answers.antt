use Rattle.std.proofs.Common.{subst}
use Rattle.term_create.specs.declared.asked.Noted.{Noted}
use Rattle.term_create.specs.Stage.{Notes}
use Rattle.term_create.proofs.Told.{made_tells, found_tells}
use Rattle.term_create.proofs.telling.tell.Goals as goal

pub returns-in-Made-clause-told : goal.returns-in-Made-clause-told
returns-in-Made-clause-told c = λ v f rs told notes.
    let p = c.args.pass.now in
    made_tells v p.seat.seat.me.0 f rs c.in-Made.row c.in-Made.number p.rows p.seen p.last p.marks told (subst (λ (n : Noted). Notes v p.seat.seat.me.0 f rs n) c.in-Made.is notes)

pub returns-in-Found-clause-told : goal.returns-in-Found-clause-told
returns-in-Found-clause-told c = λ v f rs told notes.
    let p = c.args.pass.now in
    found_tells v p.seat.seat.me.0 f rs c.in-Found.row c.in-Found.birth p.rows p.seen c.max-after.result p.last p.marks told c.max-after.ensures (subst (λ (n : Noted). Notes v p.seat.seat.me.0 f rs n) c.in-Found.is notes)
