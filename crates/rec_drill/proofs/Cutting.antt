-- Cut at its line feeds, the text is its lines.
use Rattle.std.proofs.Common.{◌≡◌, ℕ, zero, suc, codes, Bool, true, false, List, [], ◌∷◌, ◌++◌, ap, ◌∙◌, refl, append_assoc, arith}
use Rattle.std.proofs.lemmas.List.Splits.{slice_split-cons_no}
use Rattle.std.specs.Prelude.{◌==◌, if◌then◌else◌}
use Rattle.std.specs.List.{flat_map, slice_split, onto_first}
use Rattle.rec_drill.specs.Drill.{opening_lines, first_count, second_count, numeral, ended, term_line, term_lines, drill_lines, drill_bytes}

-- no byte of the line is a line feed
abbrev pub has_no_feed : List ℕ → Bool
has_no_feed [] = true
has_no_feed (x ∷ xs) = if x == 10 then false else has_no_feed xs

abbrev pub HaveNoFeed : List (List ℕ) → Type 0
HaveNoFeed [] = Unit {0}
HaveNoFeed (line ∷ lines) = (has_no_feed line ≡ true) × HaveNoFeed lines

onwards : (b m n : Bool) → (m ≡ true → n ≡ true) → (if b then false else m) ≡ true → (if b then false else n) ≡ true
onwards true m n f h = h
onwards false m n f h = f h

pub no_feed-append : (xs ys : List ℕ) → has_no_feed xs ≡ true → has_no_feed ys ≡ true → has_no_feed (xs ++ ys) ≡ true
no_feed-append [] ys p q = q
no_feed-append (x ∷ xs) ys p q = onwards (x == 10) (has_no_feed xs) (has_no_feed (xs ++ ys)) (λ h. no_feed-append xs ys h q) p

pub no_feeds-append : (xs ys : List (List ℕ)) → HaveNoFeed xs → HaveNoFeed ys → HaveNoFeed (xs ++ ys)
no_feeds-append [] ys p q = q
no_feeds-append (x ∷ xs) ys p q = (p.0, no_feeds-append xs ys p.1 q)

pub no_feed-numeral : (k : ℕ) → has_no_feed (numeral k) ≡ true
no_feed-numeral zero = refl
no_feed-numeral (suc k) = no_feed-append (codes "s(" ++ numeral k) (codes ")") (no_feed-append (codes "s(") (numeral k) refl (no_feed-numeral k)) refl

pub no_feed-term : (i : ℕ) → has_no_feed (term_line i) ≡ true
no_feed-term i =
    let a : List ℕ = numeral (first_count i) in
    let b : List ℕ = numeral (second_count i) in
    let one = no_feed-append (codes "mult(") a refl (no_feed-numeral (first_count i)) in
    let two = no_feed-append (codes "mult(" ++ a) (codes ",") one refl in
    let three = no_feed-append (codes "mult(" ++ a ++ codes ",") b two (no_feed-numeral (second_count i)) in
    no_feed-append (codes "mult(" ++ a ++ codes "," ++ b) (codes ")") three refl

pub no_feeds-terms : (n : ℕ) → HaveNoFeed (term_lines n)
no_feeds-terms zero = tt
no_feeds-terms (suc n) = no_feeds-append (term_lines n) (term_line n ∷ []) (no_feeds-terms n) (no_feed-term n, tt)

pub no_feeds-opening : HaveNoFeed opening_lines
unfolding opening_lines
no_feeds-opening = (refl, (refl, (refl, (refl, (refl, (refl, (refl, (refl, (refl, (refl, (refl, (refl, tt))))))))))))

-- one more byte in front of the first line
before : (x : ℕ) (line rest : List ℕ) (b : Bool) → (x == 10) ≡ b → (if b then false else has_no_feed line) ≡ true
    → (has_no_feed line ≡ true → slice_split (λ y. y == 10) (line ++ 10 ∷ rest) ≡ line ∷ slice_split (λ y. y == 10) rest)
    → slice_split (λ y. y == 10) ((x ∷ line) ++ 10 ∷ rest) ≡ (x ∷ line) ∷ slice_split (λ y. y == 10) rest
before x line rest true e h f = absurd (grind arith)
before x line rest false e h f =
    slice_split-cons_no (λ (y : ℕ). y == 10) x (line ++ 10 ∷ rest) e ∙ ap (onto_first x) (f h)

pub first_line : (line rest : List ℕ) → has_no_feed line ≡ true → slice_split (λ y. y == 10) (line ++ 10 ∷ rest) ≡ line ∷ slice_split (λ y. y == 10) rest
first_line [] rest h = refl
first_line (x ∷ line) rest h = before x line rest (x == 10) refl h (first_line line rest)

pub all_lines : (lines : List (List ℕ)) → HaveNoFeed lines → slice_split (λ y. y == 10) (flat_map ended lines) ≡ lines ++ [] ∷ []
all_lines [] h = refl
all_lines (line ∷ lines) h =
    ap (slice_split (λ (y : ℕ). y == 10)) (append_assoc line (codes "\n") (flat_map ended lines))
    ∙ (first_line line (flat_map ended lines) h.0 ∙ ap (λ (z : List (List ℕ)). line ∷ z) (all_lines lines h.1))

pub text_cut : (n : ℕ) → slice_split (λ y. y == 10) (drill_bytes n) ≡ drill_lines n ++ [] ∷ []
text_cut n =
    all_lines (drill_lines n)
    (no_feeds-append (opening_lines ++ term_lines n) (codes "END-SPEC" ∷ [])
    (no_feeds-append opening_lines (term_lines n) no_feeds-opening (no_feeds-terms n)) (refl, tt))
