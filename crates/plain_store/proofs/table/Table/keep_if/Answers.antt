use Rattle.std.proofs.Common.{◌∙◌, ◌≡◌, None, true, false, not, Bool, List, length, sym, ap, refl, arith}
use Rattle.std.proofs.Math.ListN.{set}
use Rattle.std.proofs.lemmas.List.{length-set}
use Rattle.std.specs.Option.{option_map, is_some}
use Rattle.term_model.specs.declared.Row.{Row}
use Rattle.term_model.specs.declared.Head.{Head}
use Rattle.plain_store.specs.Slots.{Slots, Slot, slot_at, with_slot, kept_if}
use Rattle.plain_store.specs.Flat.{free_entry}
use Rattle.plain_store.proofs.Flattened.{set-entry}
use Rattle.plain_store.proofs.Filling.{used_below, all_set, entries_set, entry_is_free}
use Rattle.plain_store.proofs.table.Table.keep_if.Goals as goal

pub index_mut-requires : goal.index_mut-requires
index_mut-requires c =
    let s = c.self.inside in
    let was = c.args.self.now in
    let k = c.args.row.0 in
    let shown = ap (λ (x : Slots). x.slots) c.self.view_is in
    let seen : is_some c.head.result ≡ true = c.is_none.ensures ∙ ap not c.if-is_none.false in
    let used : slot_at was c.args.row ≡ None → ⊥ = λ e. (
    let gone : is_some c.head.result ≡ false = ap is_some (c.head.ensures ∙ ap (option_map (λ (n : Head × List Row). n.0)) e) in
    let both : true ≡ false = sym seen ∙ gone in absurd (cc)) in
    let lt = used_below s.widest s.rows s.entries.items s.places.items was.slots k shown used in
    omega (arith, lt, s.entries.ok.0)

pub returns-clause-kept : goal.returns-clause-kept
returns-clause-kept c =
    let s = c.self.inside in
    let was = c.args.self.now in
    let k = c.args.row.0 in
    let shown = ap (λ (x : Slots). x.slots) c.self.view_is in
    let seen : is_some c.head.result ≡ true = c.is_none.ensures ∙ ap not c.if-is_none.false in
    let used : slot_at was c.args.row ≡ None → ⊥ = λ e. (
    let gone : is_some c.head.result ≡ false = ap is_some (c.head.ensures ∙ ap (option_map (λ (n : Head × List Row). n.0)) e) in
    let both : true ≡ false = sym seen ∙ gone in absurd (cc)) in
    let lt = used_below s.widest s.rows s.entries.items s.places.items was.slots k shown used in
    let es = s.entries.items in
    let set_free = all_set s.widest s.rows es (set es k free_entry) s.places.items s.places.items k None lt (length-set es k free_entry) (set-entry s.widest es s.places.items k free_entry lt) in
    ap (λ (xs : List Slot). let x : Slots = record { slots = xs; widest = s.widest } in x) set_free
    ∙ ap (λ (x : Slots). with_slot x c.args.row None) c.self.view_is
    ∙ ap (λ (b : Bool). with_slot was c.args.row (kept_if b (slot_at was c.args.row))) (sym c.if-kept.false)

pub invariant_of-self : goal.invariant_of-self
invariant_of-self c =
    let s = c.self.inside in
    let k = c.args.row.0 in
    let es = s.entries.items in
    let size = length s.places.items in
    record {
      rows = c.self.invariant.rows;
      widest = c.self.invariant.widest;
      front = omega (arith, c.self.invariant.front, length-set es k free_entry);
      room = c.self.invariant.room;
      places = c.self.invariant.places;
      entries = entries_set s.widest size k es free_entry (entry_is_free s.widest size k free_entry refl) c.self.invariant.entries;
    }
