use Rattle.std.proofs.Common.{◌+◌, ◌*◌, arith}
use Rattle.term_syntax.proofs.Short.{told_long, told_two, told_one}
use Rattle.term_syntax.proofs.lately.number_of.Goals as goal

pub returns-then-size-gt-SHORT : goal.returns-then-size-gt-SHORT
returns-then-size-gt-SHORT c = λ short. absurd (omega (arith, short, c.if-size-gt-SHORT.true))

pub returns-then-size-ge4 : goal.returns-then-size-ge4
returns-then-size-ge4 c = λ short.
    told_long _ c.args.name.now (λ i l. omega (arith, c.type_inv.name i)) c.if-size-ge4.true short (λ i. c.four_bytes.ensures.is i + c.four_bytes-then-size-ge4.ensures.is i * 4294967296)

pub returns-then-size-ge2 : goal.returns-then-size-ge2
returns-then-size-ge2 c = λ short.
    told_two _ c.args.name.now (λ i l. omega (arith, c.type_inv.name i)) c.if-size-ge2.true (omega (arith, c.if-size-ge4.false)) (λ i. c.two_bytes.ensures.is i + c.two_bytes-then-size-ge2.ensures.is i * 65536)

pub returns-then-size-eq1 : goal.returns-then-size-eq1
returns-then-size-eq1 c = λ short.
    told_one _ c.args.name.now (λ i l. omega (arith, c.type_inv.name i)) c.if-size-eq1.true c.from.ensures
