use Rattle.std.proofs.Common.{◌≡◌, ◌↔◌, List, subst}
use Rattle.std.specs.Prelude.{IsTrue}
use Rattle.term_model.specs.declared.Row.{Row}
use Rattle.plain_store.specs.Slots.{slot_at}
use Rattle.plain_store.proofs.Placing.{node_of}
use Rattle.plain_store.proofs.Pairing.{first_in_pair, pair_filled}
use Rattle.plain_store.proofs.table.Table.is.Goals as goal

pub is_pair-requires-clause-filled : goal.is_pair-requires-clause-filled
is_pair-requires-clause-filled c =
    pair_filled c.in-Some.pair c.args.arguments.now c.in-Some.ensures.filled c.in-Some.ensures.few

pub returns-in-Some : goal.returns-in-Some
returns-in-Some c =
    let slot = slot_at c.args.self.now c.args.row in
    subst (λ (xs : List Row). IsTrue c.is_pair.result ↔ (slot ≡ node_of c.args.head xs)) (first_in_pair c.in-Some.pair c.args.arguments.now c.in-Some.ensures.filled c.in-Some.ensures.few) c.is_pair.ensures
