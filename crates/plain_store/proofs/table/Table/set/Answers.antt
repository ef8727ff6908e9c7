use Rattle.std.proofs.Common.{◌∙◌, List, length, take, ap}
use Rattle.term_model.specs.declared.Row.{Row}
use Rattle.plain_store.specs.Slots.{with_slot}
use Rattle.plain_store.proofs.Placing.{node_of}
use Rattle.plain_store.proofs.Pairing.{filled_again, pair_filled}
use Rattle.plain_store.proofs.table.Table.set.Goals as goal

pub returns-in-Some : goal.returns-in-Some
returns-in-Some c =
    let was = c.args.self.now in
    let rows = c.args.arguments.now in
    c.set_pair.ensures
    ∙ ap (λ (xs : List Row). with_slot was c.args.row (node_of c.args.head (take (length rows) xs))) c.in-Some.ensures.filled
    ∙ ap (λ (xs : List Row). with_slot was c.args.row (node_of c.args.head xs)) (filled_again rows c.in-Some.ensures.few)

pub set_pair-requires-clause-filled : goal.set_pair-requires-clause-filled
set_pair-requires-clause-filled c =
    pair_filled c.in-Some.pair c.args.arguments.now c.in-Some.ensures.filled c.in-Some.ensures.few
