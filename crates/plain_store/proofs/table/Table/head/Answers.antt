use Rattle.std.proofs.Common.{◌*◌, ◌<◌, None, Bool, length, drop, get_or, ap, sym, ◌∙◌, arith}
use Rattle.plain_store.specs.Slots.{Slots}
use Rattle.plain_store.proofs.Flattened.{slot_is, head_if, head_of_slot}
use Rattle.std.specs.Option.{option_map}
use Rattle.term_model.specs.declared.Row.{Row}
use Rattle.term_model.specs.declared.Head.{Head}
use Rattle.std.specs.Prelude.{List}
use Rattle.plain_store.proofs.Filling.{free_behind}
use Rattle.plain_store.proofs.table.Table.head.Goals as goal

pub index-entry-requires : goal.index-entry-requires
index-entry-requires c =
    let s = c.self.inside in
    omega (arith, c.if-row-len.false, c.len.ensures, s.entries.ok.0)

pub returns-then-entry : goal.returns-then-entry
returns-then-entry c =
    let s = c.self.inside in
    let k = c.args.row.0 in
    let e = c.index-entry.result.now in
    let shown = ap (λ (x : Slots). x.slots) c.self.view_is in
    let lt : k < length s.entries.items = omega (arith, c.if-row-len.false, c.len.ensures, s.entries.ok.0) in
    let is = slot_is s.widest s.rows s.entries.items s.places.items c.args.self.now.slots k e shown lt c.index-entry.ensures in
    ap (λ (b : Bool). head_if b e.head) (sym c.if-entry.true) ∙ head_of_slot e (drop (k * s.widest) s.places.items) (get_or c.args.self.now.slots k None) is

pub returns-else-entry : goal.returns-else-entry
returns-else-entry c =
    let s = c.self.inside in
    let k = c.args.row.0 in
    let e = c.index-entry.result.now in
    let shown = ap (λ (x : Slots). x.slots) c.self.view_is in
    let lt : k < length s.entries.items = omega (arith, c.if-row-len.false, c.len.ensures, s.entries.ok.0) in
    let is = slot_is s.widest s.rows s.entries.items s.places.items c.args.self.now.slots k e shown lt c.index-entry.ensures in
    ap (λ (b : Bool). head_if b e.head) (sym c.if-entry.false) ∙ head_of_slot e (drop (k * s.widest) s.places.items) (get_or c.args.self.now.slots k None) is

pub returns-then-row-len : goal.returns-then-row-len
returns-then-row-len c =
    let s = c.self.inside in
    let shown = ap (λ (x : Slots). x.slots) c.self.view_is in
    let none = free_behind s.widest s.rows s.entries.items s.places.items c.args.self.now.slots c.args.row.0 shown (omega (arith, c.if-row-len.true, c.len.ensures, s.entries.ok.0)) in
    ap (option_map (λ (n : Head × List Row). n.0)) (sym none)
