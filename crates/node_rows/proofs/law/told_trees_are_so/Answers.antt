use Rattle.std.proofs.Common.{sym, subst}
use Rattle.store_model.specs.declared.view.View.{View}
use Rattle.store_model.specs.Machine.{In, has_got}
use Rattle.store_model.specs.Steps.{IsAtRest}
use Rattle.store_model.proofs.RecallsHold.{named_are_recalled}
use Rattle.node_rows.specs.Joining.{with_views}
use Rattle.node_rows.specs.Shown.{state_of}
use Rattle.node_rows.specs.Recalling.{HoldsTold}
use Rattle.node_rows.specs.Locking.{store_here, below}
use Rattle.node_rows.proofs.law.told_trees_are_so.Goals as goal

pub returns-clause-entries : goal.returns-clause-entries
returns-clause-entries c = λ s rule i l. (rule.recalls i l).entries

pub returns-clause-rows : goal.returns-clause-rows
returns-clause-rows c = λ s rule i v at rest r has.
    let z = c.args.about.now in
    let state = state_of z s.words rule.known rule.shows.lock.state in
    let here = store_here z rule.known i v at in
    subst (λ (u : View). HoldsTold z rule.known u r) here
    (named_are_recalled z state i r rule.shows.holds rule.recalls (below z (with_views s rule.known) i v rule.shows at)
    (subst IsAtRest (sym here) rest) (has_got r (subst (λ (u : View). In r u.got) (sym here) has)))
