use Rattle.term_lines.proofs.OutermostNaming.{values_have_names}
use Rattle.term_lines.proofs.laws.name_laws.Goals as goal

pub returns : goal.returns
returns c = values_have_names
