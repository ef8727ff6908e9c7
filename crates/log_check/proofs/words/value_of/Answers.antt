use Rattle.std.proofs.Common.{refl, arith}
use Rattle.std.specs.Prelude.{slice_index_or}
use Rattle.log_check.proofs.Scanning.{one_digit_more}
use Rattle.log_check.proofs.words.value_of.Goals as goal

pub loop-byte-preserved : goal.loop-byte-preserved
loop-byte-preserved c =
    let e = one_digit_more c.args.digits.now c.loop-byte.byte-index (slice_index_or c.args.digits.now c.loop-byte.byte-index 0) 0 c.loop-byte-test.true refl in
    grind (arith, e, c.loop-byte.invariant, c.saturating_sub.ensures, c.from.ensures, c.min-value.ensures)
