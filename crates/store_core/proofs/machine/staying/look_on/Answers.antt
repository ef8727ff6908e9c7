use Rattle.store_model.proofs.Staying.{joined_more}
use Rattle.store_core.proofs.machine.staying.look_on.Goals as goal

pub loop-word-preserved : goal.loop-word-preserved
loop-word-preserved c =
    joined_more c.args.words.now c.loop-word.word-index record { row = 0; word = 0; value = 0 } c.args.rows.items c.loop-word.rows.items c.in_ok-rows.rows.items c.loop-word-test.true c.loop-word.invariant c.in_ok-rows.ensures
