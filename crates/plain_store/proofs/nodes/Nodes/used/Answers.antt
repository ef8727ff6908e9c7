use Rattle.std.proofs.Common.{◌∙◌, sym, ap}
use Rattle.plain_store.specs.Slots.{Slots, some_count}
use Rattle.plain_store.proofs.Used.{used_front}
use Rattle.plain_store.proofs.nodes.Nodes.used.Goals as goal

pub returns-else-has_free : goal.returns-else-has_free
returns-else-has_free c =
    let s = c.self.inside in
    sym (used_front s.fresh s.table.slots s.index (c.has_free.ensures.0 c.if-has_free.false) c.self.invariant)
    ∙ ap (λ (x : Slots). some_count x.slots) c.self.view_is
