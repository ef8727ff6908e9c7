use Rattle.std.proofs.Common.{◌∙◌, ◌+◌, ◌-◌, ◌*◌, ◌<◌, ◌≤◌, ◌++◌, ◌∷◌, [], true, List, length, take, drop, ap, sym, subst, refl, arith}
use Rattle.std.specs.Prelude.{replicate}
use Rattle.std.proofs.lemmas.List.{length-set, length-append, length-replicate}
use Rattle.term_model.specs.declared.Row.{Row}
use Rattle.plain_store.specs.declared.table.Entry.{Entry}
use Rattle.plain_store.specs.Slots.{Slots, Slot, with_slot}
use Rattle.plain_store.specs.Pairs.{no_row}
use Rattle.plain_store.specs.Flat.{all_slots, written, IsEntry, HasEntries, reached}
use Rattle.plain_store.proofs.Placing.{node_of}
use Rattle.plain_store.proofs.Flattened.{place_below, refilled}
use Rattle.plain_store.proofs.Filling.{length-all, length-reached, row_made, entries_reached, entries_set, entries_more}
use Rattle.plain_store.proofs.table.Table.set_rows.Goals as goal

pub put-requires : goal.put-requires
put-requires c =
    let s = c.self.inside in
    let shown = ap (λ (x : Slots). length x.slots) c.self.view_is in
    let below : c.args.row.0 < s.rows = omega (arith, shown, length-all s.widest s.rows s.entries.items s.places.items c.self.invariant.front, c.requires.below) in
    omega (arith, below, c.self.invariant.room)

pub reach_places-requires : goal.reach_places-requires
reach_places-requires c =
    let s = c.self.inside in
    let k = c.args.row.0 in
    let es = s.entries.items in
    let shown = ap (λ (x : Slots). length x.slots) c.self.view_is in
    let below : k < s.rows = omega (arith, shown, length-all s.widest s.rows es s.places.items c.self.invariant.front, c.requires.below) in
    omega (arith, place_below s.rows k s.widest s.widest below (omega arith), c.self.invariant.places)

pub write-requires : goal.write-requires
write-requires c =
    let s = c.self.inside in
    let k = c.args.row.0 in
    let wide = ap (λ (x : Slots). x.widest) c.self.view_is in
    let more = replicate (k * s.widest + s.widest - length s.places.items) no_row in
    let long = ap (λ (xs : List Row). length xs) c.reach_places.ensures.items ∙ length-append s.places.items more in
    omega (arith, long, length-replicate (k * s.widest + s.widest - length s.places.items) no_row, wide, c.requires.room, ap (λ (xs : List Row). length xs) c.deref_mut.ensures.value)

pub returns : goal.returns
returns c =
    let s = c.self.inside in
    let k = c.args.row.0 in
    let es = s.entries.items in
    let shown = ap (λ (x : Slots). length x.slots) c.self.view_is in
    let below : k < s.rows = omega (arith, shown, length-all s.widest s.rows es s.places.items c.self.invariant.front, c.requires.below) in
    let w = s.widest in
    let vs = c.args.arguments.now in
    let e : Entry = record { head = c.args.head; pair = no_row ∷ no_row ∷ []; count = length vs; used = true } in
    let wide = ap (λ (x : Slots). x.widest) c.self.view_is in
    let more = replicate (k * w + w - length s.places.items) no_row in
    let now = c.reach_places.new.places in
    let long = length-append s.places.items more in
    let there : k * w + w ≤ length (s.places.items ++ more) = omega (arith, long, length-replicate (k * w + w - length s.places.items) no_row) in
    let deref = ap (λ (xs : List Row). length xs) c.deref_mut.ensures.value in
    let whole = refilled now.len c.write.new.places (drop (length c.write.new.places) now.items) (omega (arith, c.write.ensures.size, now.ok.0, deref)) in
    let places = whole ∙ c.write.ensures.written ∙ ap (λ (xs : List Row). written xs (k * w) vs) (c.deref_mut.ensures.value ∙ c.reach_places.ensures.items) in
    let made = ap (λ (xs : List Row). all_slots w s.rows c.put.new.entries.items xs) places
    ∙ ap (λ (xs : List Entry). all_slots w s.rows xs (written (s.places.items ++ more) (k * w) vs)) c.put.ensures.items
    ∙ row_made w s.rows es s.places.items more k e vs c.self.invariant.front below c.self.invariant.entries there refl c.requires.many (omega (arith, wide, c.requires.room)) in
    ap (λ (xs : List Slot). let x : Slots = record { slots = xs; widest = w } in x) made
    ∙ ap (λ (x : Slots). with_slot x c.args.row (node_of c.args.head vs)) c.self.view_is

pub invariant_of-self : goal.invariant_of-self
invariant_of-self c =
    let s = c.self.inside in
    let k = c.args.row.0 in
    let es = s.entries.items in
    let shown = ap (λ (x : Slots). length x.slots) c.self.view_is in
    let below : k < s.rows = omega (arith, shown, length-all s.widest s.rows es s.places.items c.self.invariant.front, c.requires.below) in
    let w = s.widest in
    let vs = c.args.arguments.now in
    let wide = ap (λ (x : Slots). x.widest) c.self.view_is in
    let size = length s.places.items in
    let more = replicate (k * w + w - size) no_row in
    let now = c.reach_places.new.places in
    let long = ap (λ (xs : List Row). length xs) c.reach_places.ensures.items ∙ length-append s.places.items more in
    let deref = ap (λ (xs : List Row). length xs) c.deref_mut.ensures.value in
    let whole = ap (λ (xs : List Row). length xs) (refilled now.len c.write.new.places (drop (length c.write.new.places) now.items) (omega (arith, c.write.ensures.size, now.ok.0, deref))) in
    let after = length (take now.len (c.write.new.places ++ drop (length c.write.new.places) now.items)) in
    let e : Entry = record { head = c.args.head; pair = no_row ∷ no_row ∷ []; count = length vs; used = true } in
    let filled_up = length-replicate (k * w + w - size) no_row in
    let fs = reached k es in
    let own : IsEntry w after k e = record { two = refl; pair = λ u few. absurd (omega (arith, few, c.requires.many)); fits = omega (arith, wide, c.requires.room); places = λ many. omega (arith, whole, c.write.ensures.size, deref, long, filled_up); free = λ u. absurd (cc); other = λ u. absurd (cc) } in
    let all = entries_set w after k fs e own (entries_more w size after fs (omega (arith, whole, c.write.ensures.size, deref, long)) (entries_reached w size k es c.self.invariant.entries)) in
    record {
      rows = c.self.invariant.rows;
      widest = c.self.invariant.widest;
      front = omega (arith, below, c.self.invariant.front, length-set fs k e, ap (λ (xs : List Entry). length xs) c.put.ensures.items, length-reached k es);
      room = omega (arith, c.self.invariant.room, c.put.ensures.room);
      places = omega (arith, c.self.invariant.places, c.reach_places.ensures.room);
      entries = subst (HasEntries w after) (sym c.put.ensures.items) all;
    }
