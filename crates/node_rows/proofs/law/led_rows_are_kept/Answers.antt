use Rattle.node_rows.proofs.Keeping.{entry_keeps_led, collection_keeps_led, led_to_arguments}
use Rattle.node_rows.proofs.law.led_rows_are_kept.Goals as goal

pub returns-clause-entry : goal.returns-clause-entry
returns-clause-entry c = entry_keeps_led

pub returns-clause-collection : goal.returns-clause-collection
returns-clause-collection c = collection_keeps_led

pub returns-clause-arguments : goal.returns-clause-arguments
returns-clause-arguments c = led_to_arguments
