-- Entries and places that are made when they are first needed.
use Rattle.std.proofs.Common.{◌≡◌, ℕ, ◌+◌, ◌-◌, ◌*◌, ◌<◌, ◌≤◌, List, [], ◌∷◌, ◌++◌, None, inl, inr, length, take, drop, get_or, refl, ap, sym, ◌∙◌, subst, arith, append_assoc}
use Rattle.std.proofs.Math.ListN.{set}
use Rattle.std.specs.Prelude.{replicate}
use Rattle.std.proofs.lemmas.List.{length-append, length-replicate, length-set, length-drop, replicate-append-replicate, set-append_left, get_or_append_left, get_or-append_right, get_or-replicate, get_or-set_same, get_or-set_other, take-append-le, drop-append-le}
use Rattle.std.proofs.lemmas.Bool.{cases_lt}
use Rattle.std.proofs.lemmas.Bool.Decides.{eqb_tells}
use Rattle.term_model.specs.declared.Row.{Row}
use Rattle.plain_store.specs.declared.table.Entry.{Entry}
use Rattle.plain_store.specs.Slots.{Slot}
use Rattle.plain_store.specs.Flat.{slot_if, slot_of, slots_of, all_slots, written, IsEntry, HasEntries, free_entry, other_row, reached}
use Rattle.plain_store.specs.Pairs.{filled, no_row}
use Rattle.plain_store.proofs.Rows.{none_at}
use Rattle.plain_store.proofs.Flattened.{length-slots_of, free-slots, same_places, set-pair, set-row}

slots_reached : (w n : ℕ) (es : List Entry) (places : List Row) → slots_of w (es ++ replicate n free_entry) places ≡ slots_of w es places ++ replicate n None
slots_reached w n [] places = free-slots w n free_entry places refl
slots_reached w n (e ∷ es) places = ap (λ ss. slot_of e places ∷ ss) (slots_reached w n es (drop w places))

pub length-reached : (k : ℕ) (es : List Entry) → length (reached k es) ≡ length es + (k + 1 - length es)
length-reached k es =
    let n = k + 1 - length es in
    length-append es (replicate n free_entry) ∙ ap (λ j. length es + j) (length-replicate n free_entry)

-- the next entry is written by setting it
pub set_behind : (es : List Entry) (d e : Entry) → set (es ++ d ∷ []) (length es) e ≡ es ++ e ∷ []
set_behind [] d e = refl
set_behind (x ∷ es) d e = ap (λ xs. x ∷ xs) (set_behind es d e)

pub put_next : (k : ℕ) (es : List Entry) (e : Entry) → length es ≡ k → es ++ e ∷ [] ≡ set (reached k es) k e
put_next k es e is =
    let one : k + 1 - length es ≡ 1 = omega (arith, is) in
    sym (ap (λ n. set (es ++ replicate n free_entry) k e) one ∙ ap (λ i. set (es ++ free_entry ∷ []) i e) (sym is) ∙ set_behind es free_entry e)

pub all_reached : (w rows k : ℕ) (es : List Entry) (places : List Row) → length es ≤ rows → k < rows → all_slots w rows (reached k es) places ≡ all_slots w rows es places
all_reached w rows k es places le lt =
    let n = k + 1 - length es in
    let rest = rows - length (reached k es) in
    let whole : n + rest ≡ rows - length es = omega (arith, length-reached k es, le, lt) in
    let none : Slot = None in
    ap (λ ss. ss ++ replicate rest none) (slots_reached w n es places)
    ∙ append_assoc (slots_of w es places) (replicate n none) (replicate rest none)
    ∙ ap (λ ss. slots_of w es places ++ ss) (replicate-append-replicate n rest none ∙ ap (λ j. replicate j none) whole)

-- a row with an entry is set
pub all_set : (w rows : ℕ) (es fs : List Entry) (places others : List Row) (k : ℕ) (v : Slot) → k < length es → length fs ≡ length es → slots_of w fs others ≡ set (slots_of w es places) k v → all_slots w rows fs others ≡ set (all_slots w rows es places) k v
all_set w rows es fs places others k v lt long is =
    let none : Slot = None in
    let rest = replicate (rows - length es) none in
    ap (λ n. slots_of w fs others ++ replicate (rows - n) none) long
    ∙ ap (λ ss. ss ++ rest) is
    ∙ sym (set-append_left (slots_of w es places) rest k v (omega (arith, lt, length-slots_of w es places)))

-- a row without an entry is free
pub all_behind : (w rows : ℕ) (es : List Entry) (places : List Row) (k : ℕ) → length es ≤ k → get_or (all_slots w rows es places) k None ≡ None
all_behind w rows es places k le =
    let none : Slot = None in
    let front = slots_of w es places in
    let le' : length front ≤ k = omega (arith, le, length-slots_of w es places) in
    get_or-append_right front (replicate (rows - length es) none) (length front) k none refl le' ∙ none_at (rows - length es) (k - length front)

-- a row in use has an entry
pub used_below : (w rows : ℕ) (es : List Entry) (places : List Row) (slots : List Slot) (k : ℕ) → all_slots w rows es places ≡ slots → (get_or slots k None ≡ None → ⊥) → k < length es
used_below w rows es places slots k shown used =
    elim (cases_lt k (length es)) [
      | inl lt ↦ lt
      | inr le ↦ absurd (used (ap (λ ss. get_or ss k None) (sym shown) ∙ all_behind w rows es places k le))
    ]

pub length-all : (w rows : ℕ) (es : List Entry) (places : List Row) → length es ≤ rows → length (all_slots w rows es places) ≡ rows
length-all w rows es places le =
    let none : Slot = None in
    let more = length-append (slots_of w es places) (replicate (rows - length es) none) in
    omega (arith, more, length-slots_of w es places, length-replicate (rows - length es) none, le)

-- more places behind change no row
pub more_places : (w : ℕ) (es : List Entry) (places more : List Row) → HasEntries w (length places) es → slots_of w es (places ++ more) ≡ slots_of w es places
more_places w es places more ok =
    same_places w es (places ++ more) places (λ k d lt many. (
    let e = get_or es k d in
    let there = (ok k d lt).places many in
    let le : k * w ≤ length places = omega (arith, there) in
    let fits : e.count ≤ length (drop (k * w) places) = omega (arith, there, (ok k d lt).fits, length-drop (k * w) places) in
    ap (take e.count) (drop-append-le (k * w) places more le) ∙ take-append-le e.count (drop (k * w) places) more fits))

pairs_differ : no_row ∷ other_row ∷ [] ≡ filled [] → ⊥
pairs_differ e = let second : other_row.0 ≡ no_row.0 = ap (λ (xs : List Row). (get_or xs 1 no_row).0) e in omega (arith, second)

pub entry_is_free : (w size k : ℕ) (e : Entry) → e ≡ free_entry → IsEntry w size k e
entry_is_free w size k e is =
    subst (IsEntry w size k) (sym is) (record { two = refl; pair = λ u few. absurd (cc); fits = omega arith; places = λ many. absurd (omega (arith, many)); free = λ u. refl; other = λ u same. pairs_differ same })

pub entries_reached : (w size k : ℕ) (es : List Entry) → HasEntries w size es → HasEntries w size (reached k es)
entries_reached w size k es ok j d lt =
    let n = k + 1 - length es in
    let more = replicate n free_entry in
    elim (cases_lt j (length es)) [
      | inl in_front ↦ subst (IsEntry w size j) (sym (get_or_append_left es more d j in_front)) (ok j d in_front)
      | inr le ↦ entry_is_free w size j _ (
          get_or-append_right es more (length es) j d refl le ∙ get_or-replicate n (j - length es) free_entry d (omega (arith, lt, le, length-reached k es)))
    ]

pub entries_set : (w size k : ℕ) (es : List Entry) (e : Entry) → IsEntry w size k e → HasEntries w size es → HasEntries w size (set es k e)
entries_set w size k es e own ok j d lt =
    elim (eqb_tells j k) [
      | inl same ↦ (
          let here : get_or (set es k e) j d ≡ e = ap (λ i. get_or (set es k e) i d) same.1 ∙ get_or-set_same es k e d (omega (arith, lt, same.1, length-set es k e)) in
          subst (IsEntry w size j) (sym here) (subst (λ i. IsEntry w size i e) (sym same.1) own))
      | inr ne ↦ subst (IsEntry w size j) (sym (get_or-set_other es k j e d ne.1)) (ok j d (omega (arith, lt, length-set es k e)))
    ]

-- more places serve as well
pub entries_more : (w size more : ℕ) (es : List Entry) → size ≤ more → HasEntries w size es → HasEntries w more es
entries_more w size more es le ok j d lt =
    let was = ok j d lt in
    record { two = was.two; pair = was.pair; fits = was.fits; places = λ many. (let there = was.places many in omega (arith, there, le)); free = was.free; other = was.other }

pub free_behind : (w rows : ℕ) (es : List Entry) (places : List Row) (slots : List Slot) (k : ℕ) → all_slots w rows es places ≡ slots → length es ≤ k → get_or slots k None ≡ None
free_behind w rows es places slots k shown le =
    ap (λ ss. get_or ss k None) (sym shown) ∙ all_behind w rows es places k le

pub reached_below : (k : ℕ) (es : List Entry) → k < length (reached k es)
reached_below k es = omega (arith, length-reached k es)

-- the row at k gets an entry with its arguments
pub pair_made : (w rows : ℕ) (es : List Entry) (places : List Row) (k : ℕ) (e : Entry) (vs : List Row) → length es ≤ rows → k < rows → e.count ≤ 2 → take e.count e.pair ≡ vs → all_slots w rows (set (reached k es) k e) places ≡ set (all_slots w rows es places) k (slot_if e.used e.head vs)
pair_made w rows es places k e vs le lt few is =
    let fs = reached k es in
    let v = slot_if e.used e.head vs in
    all_set w rows fs (set fs k e) places places k v (reached_below k es) (length-set fs k e) (set-pair w fs places k e vs (reached_below k es) few is)
    ∙ ap (λ ss. set ss k v) (all_reached w rows k es places le lt)

-- the row at k gets an entry, and more than two arguments
pub row_made : (w rows : ℕ) (es : List Entry) (places more : List Row) (k : ℕ) (e : Entry) (vs : List Row) → length es ≤ rows → k < rows → HasEntries w (length places) es → k * w + w ≤ length (places ++ more) → e.count ≡ length vs → 2 < length vs → length vs ≤ w → all_slots w rows (set (reached k es) k e) (written (places ++ more) (k * w) vs) ≡ set (all_slots w rows es places) k (slot_if e.used e.head vs)
row_made w rows es places more k e vs le lt ok there count many fits =
    let fs = reached k es in
    let none : Slot = None in
    let v = slot_if e.used e.head vs in
    let ok' = entries_reached w (length places) k es ok in
    let done = set-row w fs (places ++ more) k (k * w) e vs refl (reached_below k es) there (λ j d l. (ok' j d l).fits) count many fits in
    all_set w rows fs (set fs k e) (places ++ more) (written (places ++ more) (k * w) vs) k v (reached_below k es) (length-set fs k e) done
    ∙ ap (λ ss. set (ss ++ replicate (rows - length fs) none) k v) (more_places w fs places more ok')
    ∙ ap (λ ss. set ss k v) (all_reached w rows k es places le lt)
