use Rattle.std.proofs.Common.{◌∙◌, ◌*◌, ◌<◌, ◌≤◌, None, length, take, drop, get_or, ap, sym, subst, List, arith}
use Rattle.term_model.specs.declared.Row.{Row}
use Rattle.plain_store.specs.Slots.{Slots, arguments_of}
use Rattle.plain_store.specs.Flat.{IsEntry}
use Rattle.plain_store.proofs.Flattened.{slot_is, rows_of_slot, rows_in_pair, rows_in_places}
use Rattle.plain_store.proofs.Filling.{free_behind}
use Rattle.plain_store.proofs.table.Table.arguments.Goals as goal

pub index-entry-requires : goal.index-entry-requires
index-entry-requires c =
    let s = c.self.inside in
    omega (arith, c.if-row-len.false, c.len.ensures, s.entries.ok.0)

pub part-requires : goal.part-requires
part-requires c =
    let s = c.self.inside in
    let k = c.args.row.0 in
    let e = c.index-entry.result.now in
    let shown = ap (λ (x : Slots). x.slots) c.self.view_is in
    let lt : k < length s.entries.items = omega (arith, c.if-row-len.false, c.len.ensures, s.entries.ok.0) in
    let ok = subst (IsEntry s.widest (length s.places.items) k) (sym c.index-entry.ensures) (c.self.invariant.entries k e lt) in
    let few : e.count ≤ 2 = omega (arith, c.if-count-le2.true) in
    omega (arith, ok.two, few)

pub part-requires-2 : goal.part-requires-2
part-requires-2 c =
    let s = c.self.inside in
    let k = c.args.row.0 in
    let e = c.index-entry.result.now in
    let shown = ap (λ (x : Slots). x.slots) c.self.view_is in
    let lt : k < length s.entries.items = omega (arith, c.if-row-len.false, c.len.ensures, s.entries.ok.0) in
    let ok = subst (IsEntry s.widest (length s.places.items) k) (sym c.index-entry.ensures) (c.self.invariant.entries k e lt) in
    omega (arith, ok.places (omega (arith, c.if-count-le2.false)), ok.fits, ap (λ (xs : List Row). length xs) c.deref.ensures.value)

pub returns-then-count-le2-clause-arguments : goal.returns-then-count-le2-clause-arguments
returns-then-count-le2-clause-arguments c =
    let s = c.self.inside in
    let k = c.args.row.0 in
    let e = c.index-entry.result.now in
    let shown = ap (λ (x : Slots). x.slots) c.self.view_is in
    let lt : k < length s.entries.items = omega (arith, c.if-row-len.false, c.len.ensures, s.entries.ok.0) in
    let ok = subst (IsEntry s.widest (length s.places.items) k) (sym c.index-entry.ensures) (c.self.invariant.entries k e lt) in
    let is = slot_is s.widest s.rows s.entries.items s.places.items c.args.self.now.slots k e shown lt c.index-entry.ensures in
    c.part.ensures
    ∙ sym (rows_in_pair e (drop (k * s.widest) s.places.items) (omega (arith, c.if-count-le2.true)))
    ∙ rows_of_slot s.widest (length s.places.items) k e (drop (k * s.widest) s.places.items) (get_or c.args.self.now.slots k None) ok is

pub returns-clause-arguments : goal.returns-clause-arguments
returns-clause-arguments c =
    let s = c.self.inside in
    let k = c.args.row.0 in
    let e = c.index-entry.result.now in
    let shown = ap (λ (x : Slots). x.slots) c.self.view_is in
    let lt : k < length s.entries.items = omega (arith, c.if-row-len.false, c.len.ensures, s.entries.ok.0) in
    let ok = subst (IsEntry s.widest (length s.places.items) k) (sym c.index-entry.ensures) (c.self.invariant.entries k e lt) in
    let is = slot_is s.widest s.rows s.entries.items s.places.items c.args.self.now.slots k e shown lt c.index-entry.ensures in
    c.part-2.ensures ∙ ap (λ (xs : List Row). take e.count (drop (k * s.widest) xs)) c.deref.ensures.value
    ∙ sym (rows_in_places e (drop (k * s.widest) s.places.items) (omega (arith, c.if-count-le2.false)))
    ∙ rows_of_slot s.widest (length s.places.items) k e (drop (k * s.widest) s.places.items) (get_or c.args.self.now.slots k None) ok is

pub returns-then-row-len-clause-arguments : goal.returns-then-row-len-clause-arguments
returns-then-row-len-clause-arguments c =
    let s = c.self.inside in
    let shown = ap (λ (x : Slots). x.slots) c.self.view_is in
    let none = free_behind s.widest s.rows s.entries.items s.places.items c.args.self.now.slots c.args.row.0 shown (omega (arith, c.if-row-len.true, c.len.ensures, s.entries.ok.0)) in
    ap arguments_of (sym none)
