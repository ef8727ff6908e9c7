use Rattle.log_text.proofs.Names.{one_more}
use Rattle.log_text.proofs.writing.write_names.Goals as goal

pub loop-row-preserved : goal.loop-row-preserved
loop-row-preserved c =
    rw (c.in_ok-write_number.ensures, c.in_ok-push.ensures.items, c.loop-row.invariant)
    (search (one_more c.args.out.now.items c.args.rows.now c.loop-row.row-index (record { 0 = 0 }) c.loop-row-test.true))
