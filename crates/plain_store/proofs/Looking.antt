-- What a look at an entry tells of its row.
use Rattle.std.proofs.Common.{◌≡◌, ℕ, ◌<◌, ◌≤◌, Bool, true, false, List, inl, inr, length, take, refl, ap, sym, ◌∙◌, arith}
use Rattle.std.proofs.lemmas.Bool.{cases_lt}
use Rattle.std.proofs.lemmas.List.{length-take-le}
use Rattle.term_model.specs.declared.Row.{Row}
use Rattle.term_model.specs.declared.Head.{Head}
use Rattle.plain_store.specs.declared.table.Entry.{Entry}
use Rattle.plain_store.specs.Slots.{Slot}
use Rattle.plain_store.specs.Pairs.{filled}
use Rattle.plain_store.specs.Flat.{slot_if, rows_of, slot_of, IsEntry}
use Rattle.plain_store.proofs.Rows.{head_of_node, rows_of_node, node_same}
use Rattle.plain_store.proofs.Placing.{node_of}
use Rattle.plain_store.proofs.Pairing.{filled_has_two}
use Rattle.plain_store.proofs.Flattened.{rows_in_pair, rows_in_places}

rows_counted : (w size k : ℕ) (e : Entry) (places : List Row) → IsEntry w size k e → (2 < e.count → e.count ≤ length places) → length (rows_of e places) ≡ e.count
rows_counted w size k e places ok fits =
    elim (cases_lt 2 e.count) [
      | inl many ↦ ap length (rows_in_places e places many) ∙ length-take-le e.count places (fits many)
      | inr few ↦ (
          let two = ok.two in
          ap length (rows_in_pair e places few) ∙ length-take-le e.count e.pair (omega arith))
    ]

used_if : (b : Bool) (h g : Head) (xs ys : List Row) → slot_if b h xs ≡ node_of g ys → b ≡ true
used_if false h g xs ys e = absurd (cc)
used_if true h g xs ys e = refl

-- an entry with the pair of a row in use isn't that of a free one
pub used_so : (w size k : ℕ) (e : Entry) (pair : List Row) (n : ℕ) → IsEntry w size k e → e.count ≡ n → e.pair ≡ pair → pair ≡ filled (take n pair) → e.used ≡ true
used_so w size k e pair n ok count same full = by e.used refl
  where
    by : (b : Bool) → e.used ≡ b → e.used ≡ true
    by true is = is
    by false is =
        let none : n ≡ 0 = sym count ∙ ok.free is in
        absurd (ok.other is (same ∙ full ∙ ap (λ i. filled (take i pair)) none))

-- an entry whose row has at most two arguments, as they stand in the pair
pub record HasPair (e : Entry) (h : Head) (pair : List Row) (n : ℕ) : Type 0 where
  pub used : e.used ≡ true
  pub count : e.count ≡ n
  pub same : e.pair ≡ pair
  pub head : e.head ≡ h

pub pair_told : (w size k : ℕ) (e : Entry) (places : List Row) (slot : Slot) (h : Head) (pair : List Row) (n : ℕ) → IsEntry w size k e → (2 < e.count → e.count ≤ length places) → slot ≡ slot_of e places → n ≤ 2 → pair ≡ filled (take n pair) → slot ≡ node_of h (take n pair) → HasPair e h pair n
pair_told w size k e places slot h pair n ok fits is few full told =
    let rows = rows_of e places in
    let both : slot_if e.used e.head rows ≡ node_of h (take n pair) = sym is ∙ told in
    let used = used_if e.used e.head h rows (take n pair) both in
    let same : node_of e.head rows ≡ node_of h (take n pair) = sym (ap (λ (b : Bool). slot_if b e.head rows) used) ∙ both in
    let own = rows_of_node (e.head, rows) (h, take n pair) same in
    let two = filled_has_two pair n full few in
    let all = length-take-le n pair (omega arith) in
    let count : e.count ≡ n = omega (arith, ap length own, rows_counted w size k e places ok fits, all) in
    let low : e.count ≤ 2 = omega arith in
    record {
      used = used;
      count = count;
      same = ok.pair used low ∙ ap filled (sym (rows_in_pair e places low) ∙ own) ∙ sym full;
      head = head_of_node (e.head, rows) (h, take n pair) same;
    }

pub pair_shows : (e : Entry) (places : List Row) (slot : Slot) (h : Head) (pair : List Row) (n : ℕ) → slot ≡ slot_of e places → n ≤ 2 → HasPair e h pair n → slot ≡ node_of h (take n pair)
pair_shows e places slot h pair n is few has =
    let rows = rows_of e places in
    let own : rows ≡ take n pair = rows_in_pair e places (omega (arith, has.count)) ∙ ap (λ (xs : List Row). take e.count xs) has.same ∙ ap (λ (k : ℕ). take k pair) has.count in
    is ∙ ap (λ (b : Bool). slot_if b e.head rows) has.used ∙ node_same e.head h rows (take n pair) has.head own
