-- Parts as they are kept, and what they are in a text.
use Rattle.std.proofs.Common.{◌≡◌, ◌≤◌, ◌<◌, ℕ, zero, suc, List, [], ◌∷◌, ◌++◌, length, get_or, set, refl, ap, arith, false}
use Rattle.std.proofs.lemmas.List.{length-map}
use Rattle.term_syntax.specs.declared.machine.Entry.{Entry}
use Rattle.term_syntax.specs.declared.token.Shape.TheVariants as shape
use Rattle.term_syntax.specs.Counts.{with_count, counted}
use Rattle.term_syntax.specs.Shown.{part_in, parts_in}

pub kept_at : (es : List Entry) (i n : ℕ) (d : Entry) → i < length es → set es i (record (get_or es i d) { count = n }) ≡ counted es i n
kept_at [] i n d h = absurd (omega arith)
kept_at (e ∷ es) zero n d h = refl
kept_at (e ∷ es) (suc i) n d h = ap (λ qs. e ∷ qs) (kept_at es i n d (omega arith))

pub kept_past : (es : List Entry) (i n : ℕ) → length es ≤ i → es ≡ counted es i n
kept_past [] i n h = refl
kept_past (e ∷ es) zero n h = absurd (omega arith)
kept_past (e ∷ es) (suc i) n h = ap (λ qs. e ∷ qs) (kept_past es i n (omega arith))

-- one more part, its count, and how many there are, in a text
pub parts_push : (text : List ℕ) (es : List Entry) (e : Entry) → parts_in text (es ++ e ∷ []) ≡ parts_in text es ++ part_in text e ∷ []
parts_push text [] e = refl
parts_push text (d ∷ es) e = ap (λ ps. part_in text d ∷ ps) (parts_push text es e)

pub parts_counted : (text : List ℕ) (es : List Entry) (i n : ℕ) → parts_in text (counted es i n) ≡ with_count (parts_in text es) i n
parts_counted text [] i n = refl
parts_counted text (e ∷ es) zero n = refl
parts_counted text (e ∷ es) (suc i) n = ap (λ ps. part_in text e ∷ ps) (parts_counted text es i n)

pub parts_many : (text : List ℕ) (es : List Entry) → length (parts_in text es) ≡ length es
parts_many text es = length-map es (part_in text)

-- the part of a number
pub part_at : (text : List ℕ) (es : List Entry) (i : ℕ) (e : Entry) → i < length es → e ≡ get_or es i e → part_in text e ≡ get_or (parts_in text es) i (part_in text e)
part_at text [] i e h at = absurd (omega arith)
part_at text (d ∷ es) zero e h at = ap (part_in text) at
part_at text (d ∷ es) (suc i) e h at = part_at text es i e (omega arith) at

pub at_any : (es : List Entry) (i : ℕ) (d e : Entry) → i < length es → get_or es i d ≡ get_or es i e
at_any [] i d e h = absurd (omega arith)
at_any (x ∷ es) zero d e h = refl
at_any (x ∷ es) (suc i) d e h = at_any es i d e (omega arith)

-- what indexing gives is the part of that number
abbrev pub entry_at : List Entry → ℕ → Entry
entry_at es i = get_or es i (record { place = 0; count = 0; over = false; shape = shape.Word })

pub part_there : (text : List ℕ) (es : List Entry) (i : ℕ) → i < length es → part_in text (entry_at es i) ≡ get_or (parts_in text es) i (part_in text (entry_at es i))
part_there text es i h = part_at text es i (entry_at es i) h (at_any es i _ (entry_at es i) h)
