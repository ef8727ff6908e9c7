-- Reading and writing rows in flat lists.
use Rattle.std.proofs.Common.{◌≡◌, ℕ, zero, suc, ◌+◌, ◌-◌, ◌*◌, ◌<◌, ◌≤◌, Bool, true, false, List, [], ◌∷◌, ◌++◌, Option, Some, None, inl, inr, length, take, drop, get_or, refl, ap, sym, ◌∙◌, arith}
use Rattle.std.proofs.Math.ListN.{set}
use Rattle.std.specs.Prelude.{replicate, if◌then◌else◌}
use Rattle.std.proofs.lemmas.List.{drop-drop, drop-take, length-drop, length-take-le, take-take, take-append-le, drop-append-le, get_or_append_left}
use Rattle.std.proofs.lemmas.Slice.{drop-append-drop}
use Rattle.std.proofs.lemmas.Bool.{cases_lt, le-leb, lt-leb}
use Rattle.std.proofs.Math.Nat.{mul-le-mul_right}
use Rattle.std.proofs.Math.Seq.{take-append_seam}
use Rattle.term_model.specs.declared.Row.{Row}
use Rattle.term_model.specs.declared.Head.{Head}
use Rattle.std.specs.Option.{option_map}
use Rattle.plain_store.specs.declared.table.Entry.{Entry}
use Rattle.plain_store.specs.Slots.{Slot, arguments_of}
use Rattle.plain_store.specs.Flat.{slot_if, rows_of, slot_of, slots_of, all_slots, written, IsEntry}

pub length-slots_of : (w : ℕ) (es : List Entry) (places : List Row) → length (slots_of w es places) ≡ length es
length-slots_of w [] places = refl
length-slots_of w (e ∷ es) places = ap suc (length-slots_of w es (drop w places))

next_places : (w k : ℕ) (places : List Row) → drop (k * w) (drop w places) ≡ drop (suc k * w) places
next_places w k places =
    drop-drop (k * w) w places ∙ ap (λ n. drop n places) (let e : w + k * w ≡ suc k * w = omega arith in e)

-- the slot of a row
pub slot-at : (w : ℕ) (es : List Entry) (places : List Row) (k : ℕ) (d : Entry) → k < length es → get_or (slots_of w es places) k None ≡ slot_of (get_or es k d) (drop (k * w) places)
slot-at w [] places k d lt = absurd (omega arith)
slot-at w (e ∷ es) places zero d lt = ap (λ j. slot_of e (drop j places)) (let z : 0 ≡ 0 * w = omega arith in z)
slot-at w (e ∷ es) places (suc k) d lt =
    slot-at w es (drop w places) k d (omega arith) ∙ ap (slot_of (get_or es k d)) (next_places w k places)

-- the entry of a row is set
pub set-entry : (w : ℕ) (es : List Entry) (places : List Row) (k : ℕ) (e : Entry) → k < length es → slots_of w (set es k e) places ≡ set (slots_of w es places) k (slot_of e (drop (k * w) places))
set-entry w [] places k e lt = absurd (omega arith)
set-entry w (x ∷ es) places zero e lt = ap (λ j. slot_of e (drop j places) ∷ slots_of w es (drop w places)) (let z : 0 ≡ 0 * w = omega arith in z)
set-entry w (x ∷ es) places (suc k) e lt =
    ap (λ ss. slot_of x places ∷ ss) (set-entry w es (drop w places) k e (omega arith) ∙ ap (λ ps. set (slots_of w es (drop w places)) k (slot_of e ps)) (next_places w k places))

pub free-slots : (w n : ℕ) (e : Entry) (places : List Row) → e.used ≡ false → slots_of w (replicate n e) places ≡ replicate n None
free-slots w zero e places h = refl
free-slots w (suc n) e places h =
    ap (λ s. s ∷ slots_of w (replicate n e) (drop w places)) (ap (λ (b : Bool). slot_if b e.head (rows_of e places)) h) ∙ ap (λ ss. None ∷ ss) (free-slots w n e (drop w places) h)

-- a row's places are there
pub place_below : (n k w c : ℕ) → k < n → c ≤ w → k * w + c ≤ n * w
place_below n k w c lt le =
    let h : suc k * w ≤ n * w = mul-le-mul_right w (let l : suc k ≤ n = omega arith in l) in
    let e : suc k * w ≡ k * w + w = omega arith in
    omega arith

before_part : (n i : ℕ) (places rest : List Row) → n ≤ i → i ≤ length places → take n (take i places ++ rest) ≡ take n places
before_part n i places rest le fits =
    take-append-le n (take i places) rest (omega (arith, length-take-le i places fits)) ∙ take-take n i places le

behind_part : (w m : ℕ) (places vs : List Row) → w + m ≤ length places → drop w (written places (w + m) vs) ≡ written (drop w places) m vs
behind_part w m places vs fits =
    let rest = vs ++ drop (w + m + length vs) places in
    let n : m + length vs + w ≡ w + m + length vs = omega arith in
    drop-append-le w (take (w + m) places) rest (omega (arith, length-take-le (w + m) places fits))
    ∙ ap (λ (xs : List Row). xs ++ rest) (drop-take w m places)
    ∙ ap (λ (xs : List Row). take m (drop w places) ++ (vs ++ xs)) (ap (λ j. drop j places) (let e : w + m + length vs ≡ w + (m + length vs) = omega arith in e) ∙ sym (drop-drop (m + length vs) w places))

-- where the arguments stand
pub rows_in_pair : (e : Entry) (places : List Row) → e.count ≤ 2 → rows_of e places ≡ take e.count e.pair
rows_in_pair e places few =
    ap (λ (b : Bool). take e.count (if b then e.pair else places)) (le-leb e.count 2 few)

pub rows_in_places : (e : Entry) (places : List Row) → 2 < e.count → rows_of e places ≡ take e.count places
rows_in_places e places many =
    ap (λ (b : Bool). take e.count (if b then e.pair else places)) (lt-leb e.count 2 many)

-- a row has the same arguments in places that begin with the same
same_start : (e : Entry) (places others : List Row) → (2 < e.count → take e.count places ≡ take e.count others) → rows_of e places ≡ rows_of e others
same_start e places others same =
    elim (cases_lt 2 e.count) [
      | inl many ↦ rows_in_places e places many ∙ same many ∙ sym (rows_in_places e others many)
      | inr few ↦ rows_in_pair e places few ∙ sym (rows_in_pair e others few)
    ]

-- the row at k gets an entry with its arguments
pub set-pair : (w : ℕ) (es : List Entry) (places : List Row) (k : ℕ) (e : Entry) (vs : List Row) → k < length es → e.count ≤ 2 → take e.count e.pair ≡ vs → slots_of w (set es k e) places ≡ set (slots_of w es places) k (slot_if e.used e.head vs)
set-pair w es places k e vs lt few is =
    set-entry w es places k e lt ∙ ap (λ (xs : List Row). set (slots_of w es places) k (slot_if e.used e.head xs)) (rows_in_pair e (drop (k * w) places) few ∙ is)

-- the row at k gets an entry, and more than two arguments
-- the rows are the same in places where each has the same arguments
pub same_places : (w : ℕ) (es : List Entry) (places others : List Row) → ((k : ℕ) (d : Entry) → k < length es → 2 < (get_or es k d).count → take (get_or es k d).count (drop (k * w) places) ≡ take (get_or es k d).count (drop (k * w) others)) → slots_of w es places ≡ slots_of w es others
same_places w [] places others same = refl
same_places w (e ∷ es) places others same =
    let none : 0 * w ≡ 0 = omega arith in
    let own : rows_of e places ≡ rows_of e others = same_start e places others (λ many. (
    ap (λ j. take e.count (drop j places)) (sym none) ∙ same 0 e (omega arith) many ∙ ap (λ j. take e.count (drop j others)) none)) in
    ap (λ (xs : List Row). slot_if e.used e.head xs ∷ slots_of w es (drop w places)) own
    ∙ ap (λ ss. slot_of e others ∷ ss) (same_places w es (drop w places) (drop w others) (λ k d lt many. (
    let n = (get_or es k d).count in
    ap (take n) (next_places w k places) ∙ same (suc k) d (omega arith) many ∙ ap (take n) (sym (next_places w k others)))))

pub set-row : (w : ℕ) (es : List Entry) (places : List Row) (k i : ℕ) (e : Entry) (vs : List Row) → i ≡ k * w → k < length es → k * w + w ≤ length places → ((j : ℕ) (d : Entry) → j < length es → (get_or es j d).count ≤ w) → e.count ≡ length vs → 2 < length vs → length vs ≤ w → slots_of w (set es k e) (written places i vs) ≡ set (slots_of w es places) k (slot_if e.used e.head vs)
set-row w [] places k i e vs at lt long counts count many fits = absurd (omega arith)
set-row w (x ∷ es) places zero i e vs at lt long counts count many fits =
    let z : i ≡ 0 = omega arith in
    let all : written places i vs ≡ vs ++ drop (length vs) places = ap (λ j. written places j vs) z ∙ ap (λ j. vs ++ drop j places) (let n : 0 + length vs ≡ length vs = omega arith in n) in
    let own : rows_of e (written places i vs) ≡ vs = rows_in_places e (written places i vs) (omega arith) ∙ ap (λ n. take n (written places i vs)) count ∙ ap (take (length vs)) all ∙ take-append_seam vs (drop (length vs) places) in
    let rest : drop w (written places i vs) ≡ drop w places = ap (drop w) all ∙ drop-append-drop (length vs) places vs w fits refl in
    ap (λ (xs : List Row). slot_if e.used e.head xs ∷ slots_of w es (drop w (written places i vs))) own
    ∙ ap (λ (xs : List Row). slot_if e.used e.head vs ∷ slots_of w es xs) rest
set-row w (x ∷ es) places (suc k) i e vs at lt long counts count many fits =
    let m = k * w in
    let there : i ≡ w + m = omega arith in
    let inside : w + m ≤ length places = omega arith in
    let long' : k * w + w ≤ length (drop w places) = omega (arith, length-drop w places) in
    let x_fits = counts 0 x (omega arith) in
    let own : rows_of x (written places i vs) ≡ rows_of x places = same_start x (written places i vs) places (λ many. before_part x.count i places (vs ++ drop (i + length vs) places) (omega arith) (omega arith)) in
    let rest : drop w (written places i vs) ≡ written (drop w places) m vs = ap (λ j. drop w (written places j vs)) there ∙ behind_part w m places vs inside in
    let ih = set-row w es (drop w places) k m e vs refl (omega arith) long' (λ j d l. counts (suc j) d (omega arith)) count many fits in
    ap (λ (xs : List Row). slot_if x.used x.head xs ∷ slots_of w (set es k e) (drop w (written places i vs))) own
    ∙ ap (λ (ss : List Slot). slot_of x places ∷ ss) (ap (slots_of w (set es k e)) rest ∙ ih)

abbrev pub head_if : Bool → Head → Option Head
head_if false h = None
head_if true h = Some h

-- what a row has, read from its entry
pub slot_is : (w rows : ℕ) (es : List Entry) (places : List Row) (slots : List Slot) (k : ℕ) (e : Entry) → all_slots w rows es places ≡ slots → k < length es → e ≡ get_or es k e → get_or slots k None ≡ slot_of e (drop (k * w) places)
slot_is w rows es places slots k e shown lt is =
    ap (λ ss. get_or ss k None) (sym shown)
    ∙ get_or_append_left (slots_of w es places) (replicate (rows - length es) None) None k (omega (arith, length-slots_of w es places))
    ∙ slot-at w es places k e lt ∙ ap (λ (x : Entry). slot_of x (drop (k * w) places)) (sym is)

head_again : (b : Bool) (h : Head) (xs : List Row) → option_map (λ (n : Head × List Row). n.0) (slot_if b h xs) ≡ head_if b h
head_again false h xs = refl
head_again true h xs = refl

pub head_of_slot : (e : Entry) (places : List Row) (slot : Slot) → slot ≡ slot_of e places → head_if e.used e.head ≡ option_map (λ (n : Head × List Row). n.0) slot
head_of_slot e places slot is =
    sym (head_again e.used e.head (rows_of e places)) ∙ ap (option_map (λ (n : Head × List Row). n.0)) (sym is)

no_rows : (e : Entry) (places : List Row) → e.count ≡ 0 → rows_of e places ≡ []
no_rows e places none =
    rows_in_pair e places (omega arith) ∙ ap (λ (n : ℕ). take n e.pair) none

rows_again : (b : Bool) (h : Head) (xs : List Row) → (b ≡ false → xs ≡ []) → xs ≡ arguments_of (slot_if b h xs)
rows_again false h xs none = none refl
rows_again true h xs none = refl

pub rows_of_slot : (w size k : ℕ) (e : Entry) (places : List Row) (slot : Slot) → IsEntry w size k e → slot ≡ slot_of e places → rows_of e places ≡ arguments_of slot
rows_of_slot w size k e places slot ok is =
    rows_again e.used e.head (rows_of e places) (λ free. no_rows e places (ok.free free)) ∙ ap arguments_of (sym is)

pub refilled : (n : ℕ) (places rest : List Row) → n ≡ length places → take n (places ++ rest) ≡ places
refilled n places rest e = ap (λ j. take j (places ++ rest)) e ∙ take-append_seam places rest
