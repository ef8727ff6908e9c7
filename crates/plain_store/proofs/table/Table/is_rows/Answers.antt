use Rattle.std.proofs.Common.{◌≡◌, ◌∙◌, None, sym, arith}
use Rattle.std.proofs.lemmas.List.{get_or_past}
use Rattle.plain_store.proofs.Placing.{node_of}
use Rattle.plain_store.specs.Slots.{Slot}
use Rattle.plain_store.proofs.table.Table.is_rows.Goals as goal

pub returns-then-row-len : goal.returns-then-row-len
returns-then-row-len c =
    let none = get_or_past {X = Slot} c.args.self.now.slots c.args.row.0 None (omega (arith, c.if-row-len.true, c.len.ensures)) in
    (λ t. absurd (cc), λ given. absurd (let bad : None ≡ node_of c.args.head c.args.arguments.now = sym none ∙ given in cc))
