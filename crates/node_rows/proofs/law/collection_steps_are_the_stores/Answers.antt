use Rattle.std.proofs.Common.{refl}
use Rattle.node_rows.specs.Shown.{state_of}
use Rattle.node_rows.specs.Collecting.{collects}
use Rattle.node_rows.specs.Joining.{with_views}
use Rattle.node_rows.specs.Locking.{store_here}
use Rattle.node_rows.proofs.Own.{action_after}
use Rattle.node_rows.proofs.Collects.{sweep_acts}
use Rattle.node_rows.proofs.law.collection_steps_are_the_stores.Goals as goal

pub returns : goal.returns
returns c = λ s rule i v x crowd at is there ok.
    let z = c.args.about.now in
    let t = state_of z s.words rule.known rule.shows.lock.state in
    record {
      in_place = ok;
      after = action_after z (with_views s rule.known) i v rule.shows at x (collects z x) (sweep_acts z t i rule.shows.holds v.store (store_here z rule.known i v at) x is) there crowd _ refl;
    }
