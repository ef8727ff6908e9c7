use Rattle.std.proofs.Common.{length, ap, arith}
use Rattle.plain_store.specs.Slots.{Slots}
use Rattle.plain_store.proofs.Filling.{length-all}
use Rattle.plain_store.proofs.table.Table.len.Goals as goal

pub returns : goal.returns
returns c =
    let s = c.self.inside in
    let shown = ap (λ (x : Slots). length x.slots) c.self.view_is in
    omega (arith, shown, length-all s.widest s.rows s.entries.items s.places.items c.self.invariant.front)
