use Rattle.std.proofs.Common.{sym, subst}
use Rattle.plain_store.specs.Slots.{Slots}
use Rattle.plain_store.specs.Index.{IsIndexedTo}
use Rattle.plain_store.proofs.Fronts.{indexed_at_first}
use Rattle.plain_store.proofs.nodes.Nodes.new.Goals as goal

pub invariant_of-result : goal.invariant_of-result
invariant_of-result c =
    let x = c.in_ok-index.index in
    let h = c.in_ok-index.ensures in
    subst (λ (t : Slots). IsIndexedTo 0 t.slots x) (sym c.in_ok-table.ensures) (indexed_at_first c.args.rows x h.room h.places h.none)
