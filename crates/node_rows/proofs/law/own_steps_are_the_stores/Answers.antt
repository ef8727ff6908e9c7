use Rattle.std.proofs.Common.{refl}
use Rattle.node_rows.specs.Shown.{state_of}
use Rattle.node_rows.specs.Steps.{act}
use Rattle.node_rows.specs.Joining.{with_views}
use Rattle.node_rows.proofs.Own.{acts, action_after}
use Rattle.node_rows.proofs.law.own_steps_are_the_stores.Goals as goal

pub returns : goal.returns
returns c = λ s rule i v x at is there ok. record { in_place = ok; after = action_after c.args.about.now (with_views s rule.known) i v rule.shows at x (act i x) (acts c.args.about.now (state_of c.args.about.now s.words rule.known rule.shows.lock.state) i x is) there v.crowd _ refl }
