use Rattle.std.proofs.Common.{◌∙◌, ◌<◌, true, List, length, take, ap, sym, subst, refl, arith}
use Rattle.std.proofs.lemmas.List.{length-set}
use Rattle.plain_store.specs.declared.table.Entry.{Entry}
use Rattle.plain_store.specs.Slots.{Slots, Slot, with_slot}
use Rattle.plain_store.specs.Flat.{all_slots, IsEntry, HasEntries, reached}
use Rattle.plain_store.proofs.Pairing.{filled_has_two}
use Rattle.plain_store.proofs.Placing.{node_of}
use Rattle.plain_store.proofs.Filling.{length-all, length-reached, pair_made, entries_reached, entries_set}
use Rattle.plain_store.proofs.table.Table.set_pair.Goals as goal

pub put-requires : goal.put-requires
put-requires c =
    let s = c.self.inside in
    let shown = ap (λ (x : Slots). length x.slots) c.self.view_is in
    let below : c.args.row.0 < s.rows = omega (arith, shown, length-all s.widest s.rows s.entries.items s.places.items c.self.invariant.front, c.requires.below) in
    omega (arith, below, c.self.invariant.room)

pub returns : goal.returns
returns c =
    let s = c.self.inside in
    let k = c.args.row.0 in
    let es = s.entries.items in
    let shown = ap (λ (x : Slots). length x.slots) c.self.view_is in
    let below : k < s.rows = omega (arith, shown, length-all s.widest s.rows es s.places.items c.self.invariant.front, c.requires.below) in
    let w = s.widest in
    let vs = take c.args.count c.args.pair in
    let e : Entry = record { head = c.args.head; pair = c.args.pair; count = c.args.count; used = true } in
    let made = ap (λ (xs : List Entry). all_slots w s.rows xs s.places.items) c.put.ensures.items
    ∙ pair_made w s.rows es s.places.items k e vs c.self.invariant.front below c.requires.few refl in
    ap (λ (xs : List Slot). let x : Slots = record { slots = xs; widest = w } in x) made
    ∙ ap (λ (x : Slots). with_slot x c.args.row (node_of c.args.head vs)) c.self.view_is

pub invariant_of-self : goal.invariant_of-self
invariant_of-self c =
    let s = c.self.inside in
    let k = c.args.row.0 in
    let es = s.entries.items in
    let shown = ap (λ (x : Slots). length x.slots) c.self.view_is in
    let below : k < s.rows = omega (arith, shown, length-all s.widest s.rows es s.places.items c.self.invariant.front, c.requires.below) in
    let w = s.widest in
    let size = length s.places.items in
    let wide = ap (λ (x : Slots). x.widest) c.self.view_is in
    let e : Entry = record { head = c.args.head; pair = c.args.pair; count = c.args.count; used = true } in
    let own : IsEntry w size k e = record { two = filled_has_two c.args.pair c.args.count c.requires.filled c.requires.few; pair = λ u few. c.requires.filled; fits = omega (arith, wide, c.requires.room); places = λ many. absurd (omega (arith, many, c.requires.few)); free = λ u. absurd (cc); other = λ u. absurd (cc) } in
    let all = entries_set w size k (reached k es) e own (entries_reached w size k es c.self.invariant.entries) in
    record {
      rows = c.self.invariant.rows;
      widest = c.self.invariant.widest;
      front = omega (arith, below, c.self.invariant.front, length-set (reached k es) k e, ap (λ (xs : List Entry). length xs) c.put.ensures.items, length-reached k es);
      room = omega (arith, c.self.invariant.room, c.put.ensures.room);
      places = c.self.invariant.places;
      entries = subst (HasEntries w size) (sym c.put.ensures.items) all;
    }
