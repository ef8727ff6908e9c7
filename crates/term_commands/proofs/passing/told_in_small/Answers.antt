use Rattle.term_commands.proofs.AtOnce.{more_rows}
use Rattle.term_commands.proofs.passing.told_in_small.Goals as goal

pub returns : goal.returns
returns c = more_rows c.rows_for.result c.args.rows c.args.input.now _ c.rows_for.ensures c.in_ok-text.ensures
