use Rattle.std.proofs.Common.{◌++◌, take, arith, length-append}
use Rattle.std.proofs.KnownBytes.{Consumes-trans}
use Rattle.ends.proofs.source.read_all.Goals as goal

pub returns-then-limit-len-clause-too_long_only_past_limit :
    goal.returns-then-limit-len-clause-too_long_only_past_limit
returns-then-limit-len-clause-too_long_only_past_limit g c = λ _.
    let given = c.pieces.all.items ++ take c.in-Ok.count c.read.new.buf in
    (given, Consumes-trans _ _ _ _ _ c.pieces.invariant.given c.in-Ok.ensures.bytes.0, omega (arith, c.in-Ok.ensures.bound, length-append c.pieces.all.items (take c.in-Ok.count c.read.new.buf)))

pub returns-then-limit-len-clause-given : goal.returns-then-limit-len-clause-given
returns-then-limit-len-clause-given g c =
    (c.pieces.all.items ++ take c.in-Ok.count c.read.new.buf, Consumes-trans _ _ _ _ _ c.pieces.invariant.given c.in-Ok.ensures.bytes.0)

pub returns-in_err-extend_from_slice-clause-given : goal.returns-in_err-extend_from_slice-clause-given
returns-in_err-extend_from_slice-clause-given g c =
    (c.pieces.all.items ++ take c.in-Ok.count c.read.new.buf, Consumes-trans _ _ _ _ _ c.pieces.invariant.given c.in-Ok.ensures.bytes.0)
