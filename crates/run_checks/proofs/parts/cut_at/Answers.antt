use Rattle.std.proofs.Common.{refl, sym, arith}
use Rattle.std.specs.Prelude.{slice_index_or}
use Rattle.run_checks.proofs.Feeds.{cut_past, found_here, no_feed_here}
use Rattle.run_checks.proofs.parts.cut_at.Goals as goal

pub returns-then-size-bytes : goal.returns-then-size-bytes
returns-then-size-bytes c = λ n e. sym (cut_past c.args.size n c.args.bytes.now e c.if-size-bytes.true)

pub returns-then-bytes-size-eq10 : goal.returns-then-bytes-size-eq10
returns-then-bytes-size-eq10 c = λ n e. found_here c.args.size n (slice_index_or c.args.bytes.now c.args.size 0) 0 c.args.bytes.now e (omega arith) (omega arith) refl c.if-bytes-size-eq10.true

pub returns-else-bytes-size-eq10 : goal.returns-else-bytes-size-eq10
returns-else-bytes-size-eq10 c = λ n e. sym (no_feed_here c.args.size n (slice_index_or c.args.bytes.now c.args.size 0) 0 c.args.bytes.now e (omega arith) (omega arith) refl c.if-bytes-size-eq10.false)
