use Rattle.std.proofs.Common.{refl, arith}
use Rattle.rec_reader.proofs.Counts.{counted_on, few_of}
use Rattle.rec_reader.proofs.Runs.{run_one, stops_at}
use Rattle.rec_reader.proofs.parser.run.Goals as goal

pub loop-token-preserved : goal.loop-token-preserved
loop-token-preserved c =
    record {
      ran = run_one c.args.tokens.now c.loop-token.token-index _ c.loop-token-test.true c.loop-token.invariant.ran c.in-Ok.ensures;
      counted = counted_on c.loop-token.token-index _ _ _ c.in-Ok.ensures c.loop-token.invariant.counted;
    }

pub returns-in-Err-Unexpected-clause-stopped : goal.returns-in-Err-Unexpected-clause-stopped
returns-in-Err-Unexpected-clause-stopped c =
    rw c.refused.ensures (refl, stops_at c.args.tokens.now c.loop-token.token-index _ c.place.result c.loop-token-test.true c.loop-token.invariant.ran (rw c.in-Err-Unexpected.field-0-is at c.in-Err-Unexpected.ensures) c.place.ensures)

pub step-requires : goal.step-requires
step-requires c = few_of c.loop-token.token-index c.loop-token.machine.heads (omega (arith, c.loop-token-test.true, c.requires)) c.loop-token.invariant.counted
