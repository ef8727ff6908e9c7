use Rattle.std.proofs.Common.{◌≡◌}
use Rattle.store_model.specs.Staying.{joined_often}
use Rattle.store_core.proofs.machine.staying.rows_led_to.Given as goal

abbrev pub invariant-loop-look : goal.invariant-loop-look
invariant-loop-look l = l.rows.items ≡ joined_often l.words l._look l.fn.rows.items
