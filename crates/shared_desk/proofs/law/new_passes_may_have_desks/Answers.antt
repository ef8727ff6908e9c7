use Rattle.shared_desk.proofs.Telling.{new_may_have_desks}
use Rattle.shared_desk.proofs.law.new_passes_may_have_desks.Goals as goal

pub returns : goal.returns
returns c = new_may_have_desks
