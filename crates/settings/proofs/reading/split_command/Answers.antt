use Rattle.settings.proofs.Told.{too_few}
use Rattle.settings.proofs.reading.split_command.Goals as goal

pub returns-in_default : goal.returns-in_default
returns-in_default c = too_few c.args.words.now c.in_default.len_below
