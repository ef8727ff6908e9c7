use Rattle.std.proofs.Common.{arith, ◌∙◌, sym}
use Rattle.rec_reader.proofs.Pieces.{run_more}
use Rattle.rec_reader.proofs.scanner.run_length.Goals as goal

pub loop-at-preserved : goal.loop-at-preserved
loop-at-preserved c =
    let i = c.loop-at.invariant in
    let more = run_more c.args.bytes.now c.loop-at.at c.loop-at-test.true (sym c.is_name_byte.ensures ∙ c.if-is_name_byte.true) in
    record { from = omega arith; within = omega arith; counted = omega (arith, more, i.counted) }
