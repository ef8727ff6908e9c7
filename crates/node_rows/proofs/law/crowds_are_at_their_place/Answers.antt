use Rattle.node_rows.proofs.Crowding.{crowd_at_its_place}
use Rattle.node_rows.proofs.law.crowds_are_at_their_place.Goals as goal

pub returns : goal.returns
returns c = crowd_at_its_place
