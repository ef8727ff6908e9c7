-- A token that was cut stands in the text as canonical text, but for a name in quotes that can be
-- plain.
use Rattle.std.proofs.Common.{◌≡◌, ◌≤◌, ◌<◌, ◌∙◌, ℕ, ◌+◌, ◌-◌, ◌^◌, List, [], ◌∷◌, ◌++◌, length, take, drop, get_or, Bool, true, false, ◌&&◌, cond, refl, ap, sym, subst, arith, Some, None, Result, Ok, Err, decimal, leb, eqb}
use Rattle.std.specs.Prelude.{if◌then◌else◌}
use Rattle.std.specs.Char.{is_ascii_digit}
use Rattle.std.specs.Str.Parse.{AllDigits, digits_value}
use Rattle.std.proofs.lemmas.List.{drop_more}
use Rattle.std.proofs.lemmas.Bool.{eqb-true, leb-true}
use Rattle.std.proofs.lemmas.Bool.Decides.{nat_tests}
use Rattle.std.proofs.lemmas.Fmt.{decimal-digits_value}
use Rattle.faults.specs.declared.refusal.Refusal.{Refusal}
use Rattle.tree_text.specs.NameBytes.{begins_name, continues_name}
use Rattle.tree_text.specs.Canonical.{is_plain, escaped}
use Rattle.term_syntax.specs.Token.{Token, Word, Number, At, Piece, Whole}
use Rattle.term_syntax.specs.Tokens.{is_space, front_length, quoted, integer_of, is_longer_than_one, begins_with_zero, piece_at, plain_piece, number_piece, quoted_piece, mark_of}
use Rattle.term_syntax.specs.declared.token.Shape.{Shape}
use Rattle.term_syntax.specs.declared.token.Shape.TheVariants as shape
use Rattle.term_syntax.specs.declared.token.Mark.{Mark}
use Rattle.term_syntax.specs.declared.token.Mark.TheVariants as mark
use Rattle.term_syntax.specs.Shown.{plain_name, quoted_at, name_read, token_at, BeginsShape}
use Rattle.term_syntax.proofs.Quotes.{quoted_cut, one_byte}
use Rattle.term_syntax.proofs.Pieces.{cut, plain_again, value_again, digits_cut}
use Rattle.term_building.proofs.Tokens.{IsToken, IsCut, byte_of, cut_is_plain}

-- ---- which bytes begin what
not_space : (b : ℕ) → 33 ≤ b → is_space b ≡ false
not_space b h = grind (arith, nat_tests)

name_low : (b : ℕ) → begins_name b ≡ true → 65 ≤ b
name_low b h = grind (arith, nat_tests)

no_name : (b : ℕ) → b < 65 → begins_name b ≡ false
no_name b h = grind (arith, nat_tests)

digit_low : (b : ℕ) → is_ascii_digit b ≡ true → (48 ≤ b) × (b < 58)
digit_low b h = (grind (arith, nat_tests), grind (arith, nat_tests))

not_quote : (b : ℕ) → 48 ≤ b → eqb b 34 ≡ false
not_quote b h = grind (arith, nat_tests)

second : {A : Type 0} (s n : Bool) (x y z : A) → s ≡ false → n ≡ true → cond s x (cond n y z) ≡ y
second s n x y z e f = ap (λ t. cond t x (cond n y z)) e ∙ ap (λ t. cond t y z) f

fourth : {A : Type 0} (s n q d : Bool) (x y z v w : A) → s ≡ false → n ≡ false → q ≡ false → d ≡ true → cond s x (cond n y (cond q z (cond d v w))) ≡ v
fourth s n q d x y z v w e f g h =
    ap (λ t. cond t x (cond n y (cond q z (cond d v w)))) e
    ∙ ap (λ t. cond t y (cond q z (cond d v w))) f
    ∙ ap (λ t. cond t z (cond d v w)) g
    ∙ ap (λ t. cond t v w) h

same_end : (t u : Token) (m n : ℕ) (r : Result Piece Refusal) → r ≡ Ok (Whole t m) → r ≡ Ok (Whole u n) → n ≡ m
same_end t u m n (Ok p) e f =
    let same : Ok (Whole t m) ≡ Ok (Whole u n) = sym e ∙ f in
    cc
same_end t u m n (Err p) e f = absurd cc

-- the piece that begins with a byte
piece_here : (text : List ℕ) (place : ℕ) (r : Result Piece Refusal) → place < length text → piece_at place (drop place text) ≡ r → piece_at place (get_or text place 0 ∷ drop (place + 1) text) ≡ r
piece_here text place r h e = ap (piece_at place) (sym (drop_more text place 0 h)) ∙ e

word_cut : (text : List ℕ) (place end : ℕ) (t : Token) → place < length text → begins_name (get_or text place 0) ≡ true → piece_at place (drop place text) ≡ Ok (Whole t end) → IsCut text place end shape.Word
word_cut text place end t h begins e =
    let b = get_or text place 0 in
    let bs = drop (place + 1) text in
    let low = name_low b begins in
    let piece : piece_at place (b ∷ bs) ≡ Ok (plain_piece place (b ∷ bs)) = second _ _ _ _ _ (not_space b (omega (arith, low))) begins in
    let ends : end ≡ place + 1 + front_length continues_name bs = sym (same_end t (Word (b ∷ take (front_length continues_name bs) bs) place) end (place + 1 + front_length continues_name bs) (piece_at place (b ∷ bs)) (piece_here text place _ h e) piece) in
    (plain_again text place end h ends, ap (λ xs. is_plain (plain_name xs)) (drop_more text place 0 h) ∙ cut_is_plain b bs begins)

-- ---- numbers
integer_bound : (ds : List ℕ) (v : ℕ) → integer_of ds ≡ Some v → ((is_longer_than_one ds && begins_with_zero ds) ≡ false) × (digits_value 10 ds ≡ v) × (v < 2 ^ 64)
integer_bound ds v e = by (is_longer_than_one ds && begins_with_zero ds) refl (leb (digits_value 10 ds) 18446744073709551615) refl e
  where
    by : (z : Bool) → (is_longer_than_one ds && begins_with_zero ds) ≡ z → (s : Bool) → leb (digits_value 10 ds) 18446744073709551615 ≡ s → (if z then None else (if s then Some (digits_value 10 ds) else None)) ≡ Some v → ((is_longer_than_one ds && begins_with_zero ds) ≡ false) × (digits_value 10 ds ≡ v) × (v < 2 ^ 64)
    by true f s g e = absurd cc
    by false f false g e = absurd cc
    by false f true g e =
        let same : digits_value 10 ds ≡ v = cc in
        let most = leb-true (digits_value 10 ds) 18446744073709551615 g in
        (f, same, omega (arith, same, most))

no_zero : (d : ℕ) (ds : List ℕ) → (is_longer_than_one (d ∷ ds) && begins_with_zero (d ∷ ds)) ≡ false → d ≡ 48 → length (d ∷ ds) ≡ 1
no_zero d [] f e = refl
no_zero d (c ∷ ds) f e = grind (arith, nat_tests)

number_cut : (text : List ℕ) (place end : ℕ) (t : Token) → place < length text → is_ascii_digit (get_or text place 0) ≡ true → piece_at place (drop place text) ≡ Ok (Whole t end) → IsCut text place end shape.Number
number_cut text place end t h digit e v value =
    let b = get_or text place 0 in
    let bs = drop (place + 1) text in
    let low = digit_low b digit in
    let piece : piece_at place (b ∷ bs) ≡ Ok (number_piece place (b ∷ bs)) =
    fourth _ _ _ _ _ _ _ _ _ (not_space b (let l = low.0 in omega (arith, l))) (no_name b (let l = low.1 in omega (arith, l))) (not_quote b low.0) digit in
    let n = front_length is_ascii_digit bs in
    let ends : end ≡ place + 1 + n = sym (same_end t (Number (integer_of (b ∷ take n bs)) place) end (place + 1 + n) (piece_at place (b ∷ bs)) (piece_here text place _ h e) piece) in
    let is : take (end - place) (drop place text) ≡ b ∷ take n bs = cut text place n end h ends in
    let all = digits_cut text place end h ends digit in
    let bound = integer_bound (b ∷ take n bs) v (ap integer_of (sym is) ∙ value_again text place end h digit ends ∙ value) in
    let small : digits_value 10 (b ∷ take n bs) < 2 ^ 64 = subst (λ k. k < 2 ^ 64) (sym bound.1) bound.2 in
    is
    ∙ sym (decimal-digits_value {P = AllDigits 10} {v = digits_value 10} (record { to = λ ds p. p; from = λ ds p. p; same = λ ds p. refl }) (b ∷ take n bs) (subst (AllDigits 10) is all) (omega arith) (no_zero b (take n bs) bound.0) small)
    ∙ ap decimal bound.1

-- ---- marks
mark_byte : (b : ℕ) (m : Mark) → mark_of b ≡ Some m → b ≡ byte_of m
mark_byte b m e = by (eqb b 40) refl (eqb b 41) refl (eqb b 91) refl (eqb b 93) refl (eqb b 44) refl e
  where
    by : (p : Bool) → eqb b 40 ≡ p → (q : Bool) → eqb b 41 ≡ q → (r : Bool) → eqb b 91 ≡ r → (s : Bool) → eqb b 93 ≡ s → (t : Bool) → eqb b 44 ≡ t →
        (if p then Some mark.Open else (if q then Some mark.Close else (if r then Some mark.OpenList else (if s then Some mark.CloseList else (if t then Some mark.Comma else None))))) ≡ Some m → b ≡ byte_of m
    by true f q g r h s i t j e = let same : mark.Open ≡ m = cc in eqb-true b 40 f ∙ ap byte_of same
    by false f true g r h s i t j e = let same : mark.Close ≡ m = cc in eqb-true b 41 g ∙ ap byte_of same
    by false f false g true h s i t j e = let same : mark.OpenList ≡ m = cc in eqb-true b 91 h ∙ ap byte_of same
    by false f false g false h true i t j e = let same : mark.CloseList ≡ m = cc in eqb-true b 93 i ∙ ap byte_of same
    by false f false g false h false i true j e = let same : mark.Comma ≡ m = cc in eqb-true b 44 j ∙ ap byte_of same
    by false f false g false h false i false j e = absurd cc

mark_piece_is : (m : Mark) (place : ℕ) (bs : List ℕ) → piece_at place (byte_of m ∷ bs) ≡ Ok (Whole (At m place) (place + 1))
mark_piece_is mark.Open place bs = refl
mark_piece_is mark.Close place bs = refl
mark_piece_is mark.OpenList place bs = refl
mark_piece_is mark.CloseList place bs = refl
mark_piece_is mark.Comma place bs = refl

-- the piece that a mark is
pub piece_of_mark : (text : List ℕ) (place : ℕ) (m : Mark) → place < length text → mark_of (get_or text place 0) ≡ Some m → piece_at place (drop place text) ≡ Ok (Whole (At m place) (place + 1))
piece_of_mark text place m h is =
    let b = mark_byte (get_or text place 0) m is in
    let bs = drop (place + 1) text in
    ap (piece_at place) (drop_more text place 0 h ∙ ap (λ c. c ∷ bs) b) ∙ mark_piece_is m place bs

mark_cut : (text : List ℕ) (place end : ℕ) (t : Token) (m : Mark) → place < length text → mark_of (get_or text place 0) ≡ Some m → piece_at place (drop place text) ≡ Ok (Whole t end) → IsCut text place end (shape.At m)
mark_cut text place end t m h is e =
    let b = mark_byte (get_or text place 0) m is in
    let bs = drop (place + 1) text in
    let front : drop place text ≡ byte_of m ∷ bs = drop_more text place 0 h ∙ ap (λ c. c ∷ bs) b in
    let ends : end ≡ place + 1 = sym (same_end t (At m place) end (place + 1) (piece_at place (byte_of m ∷ bs)) (ap (piece_at place) (sym front) ∙ e) (mark_piece_is m place bs)) in
    let one : end - place ≡ 1 = omega (arith, ends) in
    ap (λ n. take n (drop place text)) one ∙ ap (take 1) front

-- ---- names in quotes
quoted_whole : (text : List ℕ) (place end : ℕ) (t : Token) (r : Result (List ℕ × ℕ) Refusal) → quoted_piece place r ≡ Ok (Whole t end) → (name : List ℕ) × (r ≡ Ok (name, end))
quoted_whole text place end t (Ok q) e =
    let same : q.1 ≡ end = same_end t (Word q.0 place) end q.1 (Ok (Whole (Word q.0 place) q.1)) e refl in
    (q.0, ap (λ k. Ok (q.0, k)) same)
quoted_whole text place end t (Err f) e = absurd cc

name_cut : (text : List ℕ) (place end : ℕ) (t : Token) → place < length text → get_or text place 0 ≡ 34 → piece_at place (drop place text) ≡ Ok (Whole t end) → IsCut text place end shape.Quoted
name_cut text place end t h quote e =
    let bs = drop (place + 1) text in
    let front : drop place text ≡ 34 ∷ bs = drop_more text place 0 h ∙ ap (λ c. c ∷ bs) quote in
    let w = quoted_whole text place end t (quoted (place + 1) false bs) (ap (piece_at place) (sym front) ∙ e) in
    let q = quoted_cut bs (place + 1) false w.0 end w.1 in
    let after = q.after in
    let name : w.0 ≡ quoted_at text place = sym (ap name_read w.1) in
    ap (take (end - place)) front
    ∙ one_byte place end 34 bs (omega (arith, after))
    ∙ ap (λ xs. 34 ∷ xs) (q.is ∙ ap (λ n. escaped n ++ 34 ∷ []) name)

-- a token that was cut
pub token_cut : (text : List ℕ) (place end : ℕ) (sh : Shape) → place < length text → place < end → end ≤ length text → BeginsShape (get_or text place 0) sh → piece_at place (drop place text) ≡ Ok (Whole (token_at text place sh) end) → IsToken text place end sh
token_cut text place end shape.Word h after fits b e = record { after = after; fits = fits; is = word_cut text place end _ h b e }
token_cut text place end shape.Quoted h after fits b e = record { after = after; fits = fits; is = name_cut text place end _ h b e }
token_cut text place end shape.Number h after fits b e = record { after = after; fits = fits; is = number_cut text place end _ h b e }
token_cut text place end (shape.At m) h after fits b e = record { after = after; fits = fits; is = mark_cut text place end _ m h b e }
