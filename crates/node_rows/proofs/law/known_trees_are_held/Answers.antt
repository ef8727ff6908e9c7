use Rattle.std.proofs.Common.{sym, subst}
use Rattle.store_model.specs.declared.view.View.{View}
use Rattle.store_model.specs.Steps.{IsAtRest}
use Rattle.store_model.proofs.Eight.{inductive}
use Rattle.node_rows.specs.Knowing.{KnowsTree}
use Rattle.node_rows.specs.Shown.{state_of}
use Rattle.node_rows.specs.Locking.{store_here}
use Rattle.node_rows.proofs.Named.{known_held}
use Rattle.node_rows.proofs.law.known_trees_are_held.Goals as goal

pub returns : goal.returns
returns c = λ s rule i v at rest r t known.
    let z = c.args.about.now in
    let state = state_of z s.words rule.known rule.shows.lock.state in
    let here = store_here z rule.known i v at in
    known_held z state i (inductive z state rule.shows.holds) (subst IsAtRest (sym here) rest) r t
    (subst (λ (u : View). KnowsTree u.knows r t) (sym here) known)
