-- How long the text is.
use Rattle.std.proofs.Common.{◌≡◌, ℕ, zero, suc, ◌+◌, ◌*◌, ◌<◌, ◌≤◌, codes, [], ◌∷◌, ◌++◌, length, ap, refl, append-nil, length-append, arith}
use Rattle.std.proofs.lemmas.List.Concat.{flat_map-append}
use Rattle.std.proofs.lemmas.Nat.{mod_below}
use Rattle.std.specs.List.{flat_map}
use Rattle.rec_drill.specs.Drill.{opening_lines, first_count, second_count, numeral, ended, term_line, term_lines, drill_bytes}
use Rattle.rec_drill.proofs.Numerals.{numeral_length}

-- the five sums of a term's line
bound : (a b l1 l2 l3 l4 l5 na nb : ℕ) → na ≡ 3 * a + 1 → nb ≡ 3 * b + 1 → l1 ≡ 5 + na → l2 ≡ l1 + 1 → l3 ≡ l2 + nb → l4 ≡ l3 + 1 → l5 ≡ l4 + 1 → a < 11 → b < 13 → l5 ≤ 76
bound a b l1 l2 l3 l4 l5 na nb p q r s t u v w x = omega arith

-- the line of a term has at most 76 bytes with its line feed
pub term_short : (i : ℕ) → length (ended (term_line i)) ≤ 76
term_short i =
    let a : ℕ = first_count i in
    let b : ℕ = second_count i in
    let below_eleven : a < 11 = mod_below (7 * i + 3) 11 (omega arith) in
    let below_thirteen : b < 13 = mod_below (5 * i + 1) 13 (omega arith) in
    let one = length-append (codes "mult(") (numeral a) in
    let two = length-append (codes "mult(" ++ numeral a) (codes ",") in
    let three = length-append (codes "mult(" ++ numeral a ++ codes ",") (numeral b) in
    let four = length-append (codes "mult(" ++ numeral a ++ codes "," ++ numeral b) (codes ")") in
    let five = length-append (codes "mult(" ++ numeral a ++ codes "," ++ numeral b ++ codes ")") (codes "\n") in
    bound a b _ _ _ _ _ _ _ (numeral_length a) (numeral_length b) one two three four five below_eleven below_thirteen

pub opening_length : length (flat_map ended opening_lines) ≡ 207
unfolding opening_lines
opening_length = refl

pub terms_short : (n : ℕ) → length (flat_map ended (term_lines n)) ≤ 76 * n
terms_short zero = omega arith
terms_short (suc n) =
    let cut = ap length (flat_map-append ended (term_lines n) (term_line n ∷ [])) in
    let sum = length-append (flat_map ended (term_lines n)) (flat_map ended (term_line n ∷ [])) in
    let alone = ap length (append-nil (ended (term_line n))) in
    let before = terms_short n in
    let line = term_short n in
    omega (arith, cut, sum, alone, before, line)

pub text_short : (n : ℕ) → length (drill_bytes n) ≤ 216 + 76 * n
text_short n =
    let cut = ap length (flat_map-append ended (opening_lines ++ term_lines n) (codes "END-SPEC" ∷ [])) in
    let cut_before = ap length (flat_map-append ended opening_lines (term_lines n)) in
    let sum = length-append (flat_map ended (opening_lines ++ term_lines n)) (flat_map ended (codes "END-SPEC" ∷ [])) in
    let sum_before = length-append (flat_map ended opening_lines) (flat_map ended (term_lines n)) in
    let opening = opening_length in
    let terms = terms_short n in
    omega (arith, cut, cut_before, sum, sum_before, opening, terms)
