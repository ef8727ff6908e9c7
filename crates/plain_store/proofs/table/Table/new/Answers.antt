use Rattle.std.proofs.Common.{◌∙◌, ◌≡◌, ◌-◌, ℕ, List, None, ap, arith}
use Rattle.std.specs.Prelude.{replicate}
use Rattle.plain_store.specs.declared.table.Entry.{Entry}
use Rattle.plain_store.specs.Slots.{Slots, Slot}
use Rattle.plain_store.specs.Flat.{all_slots}
use Rattle.plain_store.proofs.table.Table.new.Goals as goal

pub returns : goal.returns
returns c =
    let w = c.args.widest in
    let rows = c.args.rows in
    let none : Slot = None in
    let whole : rows - 0 ≡ rows = omega arith in
    ap (λ (es : List Entry). let s : Slots = record { slots = all_slots w rows es c.in_ok-places.places.items; widest = w } in s) c.in_ok-entries.ensures.items
    ∙ ap (λ (n : ℕ). let s : Slots = record { slots = replicate n none; widest = w } in s) whole
