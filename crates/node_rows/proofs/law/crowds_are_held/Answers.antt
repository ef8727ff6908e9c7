use Rattle.node_rows.specs.Joining.{with_views}
use Rattle.node_rows.proofs.Crowding.{full_is_crowded, absent_is_not_crowded, pairs_are_kept}
use Rattle.node_rows.proofs.Own.{crowd_stands}
use Rattle.node_rows.proofs.CrowdFull.{filled_is_crowded}
use Rattle.node_rows.proofs.law.crowds_are_held.Goals as goal

pub returns-clause-held : goal.returns-clause-held
returns-clause-held c = λ s rule i v at swept. (crowd_stands c.args.about.now (with_views s rule.known) i v rule.shows at rule.crowds).held swept

pub returns-clause-stands : goal.returns-clause-stands
returns-clause-stands c = λ s rule i v at. crowd_stands c.args.about.now (with_views s rule.known) i v rule.shows at rule.crowds

pub returns-clause-full : goal.returns-clause-full
returns-clause-full c = full_is_crowded c.args.about.now

pub returns-clause-absent : goal.returns-clause-absent
returns-clause-absent c = absent_is_not_crowded c.args.about.now

pub returns-clause-pairs : goal.returns-clause-pairs
returns-clause-pairs c = pairs_are_kept

pub returns-clause-filled : goal.returns-clause-filled
returns-clause-filled c = filled_is_crowded c.args.about.now
