-- What is written as a token is cut off as that token.
use Rattle.std.proofs.Common.{◌≡◌, ◌≤◌, ◌<◌, ◌^◌, ◌∙◌, ℕ, zero, suc, ◌+◌, ◌-◌, List, [], ◌∷◌, ◌++◌, length, length-append, take, get_or, refl, ap, sym, arith, Bool, true, false, ◌&&◌, ◌||◌, cond, eqb, leb, Some, None, Ok, decimal}
use Rattle.std.specs.List.{list_all}
use Rattle.std.specs.Char.{is_ascii_digit, digit_value}
use Rattle.std.specs.Str.Parse.{AllDigits, digits_value}
use Rattle.std.proofs.lemmas.List.{take_at, drop_at}
use Rattle.std.proofs.lemmas.Bool.{le-leb, ne_eqb}
use Rattle.std.proofs.lemmas.Bool.Decides.{nat_tests}
use Rattle.std.proofs.lemmas.Str.Parse.{digit_from_value}
use Rattle.std.proofs.lemmas.Fmt.{decimal_is_IsNumeral, first_decimal, decimal_digit}
use Rattle.term_model.proofs.Order.{both_hold, both}
use Rattle.term_syntax.specs.Token.{Token, Word, Number, At, Whole}
use Rattle.term_syntax.specs.declared.token.Mark.{Mark}
use Rattle.term_syntax.specs.declared.scanner.Role.TheVariants.{Closes, Escapes, Stands, Bad}
use Rattle.term_syntax.specs.Tokens.{is_space, front_length, integer_of, up_to_most, is_longer_than_one, begins_with_zero, quoted, by_role, role_of, with_byte, quoted_piece, plain_piece, number_piece, piece_at, read_piece, tokens_from, after_token}
use Rattle.tree_text.specs.NameBytes.{begins_name, continues_name, is_printable}
use Rattle.tree_text.specs.Canonical.{is_plain, escaped, spelled_name}
use Rattle.term_syntax.proofs.Cutting.{passed_over}

-- neither a name nor a number goes on with these bytes
pub record Stops (post : List ℕ) : Type 0 where
  pub name : front_length continues_name post ≡ 0
  pub digits : front_length is_ascii_digit post ≡ 0

-- a piece is cut off, and what follows it is read
piece_back : (b : ℕ) (bs post : List ℕ) (p : ℕ) (t : Token) → piece_at p (b ∷ (bs ++ post)) ≡ Ok (Whole t (p + 1 + length bs)) → tokens_from p 0 ((b ∷ bs) ++ post) ≡ after_token t (tokens_from (p + length (b ∷ bs)) 0 post)
piece_back b bs post p t e =
    let n : p + 1 + length bs - (p + 1) ≡ length bs = omega arith in
    let fits : length bs ≤ length (bs ++ post) = omega (arith, length-append bs post) in
    let m : p + 1 + length bs ≡ p + suc (length bs) = omega arith in
    ap (λ q. read_piece p q (λ next. tokens_from (p + 1) (next - (p + 1)) (bs ++ post))) e
    ∙ ap (λ k. after_token t (tokens_from (p + 1) k (bs ++ post))) n
    ∙ ap (after_token t) (passed_over (length bs) (p + 1) (bs ++ post) fits)
    ∙ ap (λ xs. after_token t (tokens_from (p + 1 + length bs) 0 xs)) (drop_at bs post (length bs) refl)
    ∙ ap (λ k. after_token t (tokens_from k 0 post)) m

front_whole : (passes : ℕ → Bool) (bs post : List ℕ) → list_all passes bs ≡ true → front_length passes post ≡ 0 → front_length passes (bs ++ post) ≡ length bs
front_whole passes [] post h e = e
front_whole passes (b ∷ bs) post h e =
    let hs = both_hold (passes b) (list_all passes bs) h in
    let n = front_whole passes bs post hs.1 e in
    ap (λ c. cond c (front_length passes (bs ++ post) + 1) 0) hs.0 ∙ omega (arith, n)

-- which bytes begin what
not_space : (b : ℕ) → 33 ≤ b → is_space b ≡ false
not_space b h = grind (arith, nat_tests)

name_low : (b : ℕ) → begins_name b ≡ true → 65 ≤ b
name_low b h = grind (arith, nat_tests)

no_name : (b : ℕ) → b < 65 → begins_name b ≡ false
no_name b h = grind (arith, nat_tests)

second : {A : Type 0} (s n : Bool) (x y z : A) → s ≡ false → n ≡ true → cond s x (cond n y z) ≡ y
second s n x y z e f = ap (λ t. cond t x (cond n y z)) e ∙ ap (λ t. cond t y z) f

fourth : {A : Type 0} (s n q d : Bool) (x y z v w : A) → s ≡ false → n ≡ false → q ≡ false → d ≡ true → cond s x (cond n y (cond q z (cond d v w))) ≡ v
fourth s n q d x y z v w e f g h =
    ap (λ t. cond t x (cond n y (cond q z (cond d v w)))) e
    ∙ ap (λ t. cond t y (cond q z (cond d v w))) f
    ∙ ap (λ t. cond t z (cond d v w)) g
    ∙ ap (λ t. cond t v w) h

-- a plain name
word_back : (b : ℕ) (bs post : List ℕ) (p : ℕ) → begins_name b ≡ true → list_all continues_name bs ≡ true → Stops post → tokens_from p 0 ((b ∷ bs) ++ post) ≡ after_token (Word (b ∷ bs) p) (tokens_from (p + length (b ∷ bs)) 0 post)
word_back b bs post p begins goes stops =
    let low = name_low b begins in
    let front = front_whole continues_name bs post goes stops.name in
    let piece : piece_at p (b ∷ (bs ++ post)) ≡ Ok (plain_piece p (b ∷ (bs ++ post))) = second _ _ _ _ _ (not_space b (omega arith)) begins in
    let cut : plain_piece p (b ∷ (bs ++ post)) ≡ Whole (Word (b ∷ bs) p) (p + 1 + length bs) =
    ap (λ n. Whole (Word (b ∷ take n (bs ++ post)) p) (p + 1 + n)) front
    ∙ ap (λ xs. Whole (Word (b ∷ xs) p) (p + 1 + length bs)) (take_at bs post (length bs) refl) in
    piece_back b bs post p (Word (b ∷ bs) p) (piece ∙ ap Ok cut)

plain_role : (b : ℕ) → (eqb b 34 || eqb b 92) ≡ false → is_printable b ≡ true → role_of false b ≡ Stands
plain_role b e h = by (eqb b 34) refl (eqb b 92) refl e
  where
    by : (q : Bool) → eqb b 34 ≡ q → (s : Bool) → eqb b 92 ≡ s → (eqb b 34 || eqb b 92) ≡ false → role_of false b ≡ Stands
    by true f s g e = let t : (eqb b 34 || eqb b 92) ≡ true = ap (λ x. x || eqb b 92) f in absurd cc
    by false f true g e = let t : (eqb b 34 || eqb b 92) ≡ true = (λ i. f i || g i) in absurd cc
    by false f false g e =
        ap (λ t. cond t Closes (cond (eqb b 92) Escapes (cond (is_printable b) Stands Bad))) f
        ∙ ap (λ t. cond t Escapes (cond (is_printable b) Stands Bad)) g
        ∙ ap (λ t. cond t Stands Bad) h

-- a name in quotes
quoted_back : (name post : List ℕ) (at : ℕ) → list_all is_printable name ≡ true → quoted at false ((escaped name ++ 34 ∷ []) ++ post) ≡ Ok (name, at + length (escaped name ++ 34 ∷ []))
quoted_back [] post at h = refl
quoted_back (b ∷ bs) post at h = by (eqb b 34 || eqb b 92) refl (both_hold (is_printable b) (list_all is_printable bs) h) (λ k. quoted_back bs post k (both_hold (is_printable b) (list_all is_printable bs) h).1)
  where
    rest : List ℕ
    rest = (escaped bs ++ 34 ∷ []) ++ post

    size : ℕ
    size = length (escaped bs ++ 34 ∷ [])

    by : (t : Bool) → (eqb b 34 || eqb b 92) ≡ t → (is_printable b ≡ true) × (list_all is_printable bs ≡ true) → ((k : ℕ) → quoted k false rest ≡ Ok (bs, k + size)) → quoted at false ((escaped (b ∷ bs) ++ 34 ∷ []) ++ post) ≡ Ok (b ∷ bs, at + length (escaped (b ∷ bs) ++ 34 ∷ []))
    by true e hs more =
        let is : escaped (b ∷ bs) ≡ 92 ∷ b ∷ escaped bs = ap (λ t. cond t (92 ∷ b ∷ escaped bs) (b ∷ escaped bs)) e in
        let role : role_of true b ≡ Stands = ap (λ t. cond t Stands Bad) e in
        let n : at + 1 + 1 + size ≡ at + suc (suc size) = omega arith in
        ap (λ xs. quoted at false ((xs ++ 34 ∷ []) ++ post)) is
        ∙ ap (λ r. by_role r (at + 1) b (λ next. quoted (at + 1 + 1) next rest)) role
        ∙ ap (with_byte b) (more (at + 1 + 1))
        ∙ ap (λ m. Ok (b ∷ bs, m)) n
        ∙ ap (λ xs. Ok (b ∷ bs, at + length (xs ++ 34 ∷ []))) (sym is)
    by false e hs more =
        let is : escaped (b ∷ bs) ≡ b ∷ escaped bs = ap (λ t. cond t (92 ∷ b ∷ escaped bs) (b ∷ escaped bs)) e in
        let role : role_of false b ≡ Stands = plain_role b e hs.0 in
        let n : at + 1 + size ≡ at + suc size = omega arith in
        ap (λ xs. quoted at false ((xs ++ 34 ∷ []) ++ post)) is
        ∙ ap (λ r. by_role r at b (λ next. quoted (at + 1) next rest)) role
        ∙ ap (with_byte b) (more (at + 1))
        ∙ ap (λ m. Ok (b ∷ bs, m)) n
        ∙ ap (λ xs. Ok (b ∷ bs, at + length (xs ++ 34 ∷ []))) (sym is)

quoted_name_back : (name post : List ℕ) (p : ℕ) → list_all is_printable name ≡ true → tokens_from p 0 ((34 ∷ (escaped name ++ 34 ∷ [])) ++ post) ≡ after_token (Word name p) (tokens_from (p + length (34 ∷ (escaped name ++ 34 ∷ []))) 0 post)
quoted_name_back name post p h =
    piece_back 34 (escaped name ++ 34 ∷ []) post p (Word name p) (ap (quoted_piece p) (quoted_back name post (p + 1) h))

-- a name
pub name_back : (name post : List ℕ) (p : ℕ) → list_all is_printable name ≡ true → Stops post → tokens_from p 0 (spelled_name name ++ post) ≡ after_token (Word name p) (tokens_from (p + length (spelled_name name)) 0 post)
name_back [] post p h stops = quoted_name_back [] post p h
name_back (b ∷ bs) post p h stops = by (is_plain (b ∷ bs)) refl
  where
    by : (t : Bool) → is_plain (b ∷ bs) ≡ t → tokens_from p 0 (spelled_name (b ∷ bs) ++ post) ≡ after_token (Word (b ∷ bs) p) (tokens_from (p + length (spelled_name (b ∷ bs))) 0 post)
    by true e =
        let is : spelled_name (b ∷ bs) ≡ b ∷ bs = ap (λ t. cond t (b ∷ bs) (34 ∷ (escaped (b ∷ bs) ++ 34 ∷ []))) e in
        let hs = both_hold (begins_name b) (list_all continues_name bs) e in
        ap (λ xs. tokens_from p 0 (xs ++ post)) is
        ∙ word_back b bs post p hs.0 hs.1 stops
        ∙ ap (λ xs. after_token (Word (b ∷ bs) p) (tokens_from (p + length xs) 0 post)) (sym is)
    by false e =
        let is : spelled_name (b ∷ bs) ≡ 34 ∷ (escaped (b ∷ bs) ++ 34 ∷ []) = ap (λ t. cond t (b ∷ bs) (34 ∷ (escaped (b ∷ bs) ++ 34 ∷ []))) e in
        ap (λ xs. tokens_from p 0 (xs ++ post)) is
        ∙ quoted_name_back (b ∷ bs) post p h
        ∙ ap (λ xs. after_token (Word (b ∷ bs) p) (tokens_from (p + length xs) 0 post)) (sym is)

-- the digits of an integer
digit_is : (c : ℕ) → digit_value c < 10 → is_ascii_digit c ≡ true
digit_is c h = let r = digit_from_value c h in both (leb 48 c) (leb c 57) (le-leb 48 c r.0) (le-leb c 57 r.1)

digits_all : (ds : List ℕ) → AllDigits 10 ds → list_all is_ascii_digit ds ≡ true
digits_all [] h = refl
digits_all (d ∷ ds) h = both (is_ascii_digit d) (list_all is_ascii_digit ds) (digit_is d h.0) (digits_all ds h.1)

digits_back : (d : ℕ) (ds post : List ℕ) (p : ℕ) → AllDigits 10 (d ∷ ds) → Stops post → tokens_from p 0 ((d ∷ ds) ++ post) ≡ after_token (Number (integer_of (d ∷ ds)) p) (tokens_from (p + length (d ∷ ds)) 0 post)
digits_back d ds post p h stops =
    let r = digit_from_value d h.0 in
    let front = front_whole is_ascii_digit ds post (digits_all ds h.1) stops.digits in
    let piece : piece_at p (d ∷ (ds ++ post)) ≡ Ok (number_piece p (d ∷ (ds ++ post))) =
    fourth _ _ _ _ _ _ _ _ _ (not_space d (omega (arith, r.0))) (no_name d (omega (arith, r.1))) (ne_eqb d 34 (λ e. absurd (omega (arith, r.0, e)))) (digit_is d h.0) in
    let cut : number_piece p (d ∷ (ds ++ post)) ≡ Whole (Number (integer_of (d ∷ ds)) p) (p + 1 + length ds) =
    ap (λ n. Whole (Number (integer_of (d ∷ take n (ds ++ post))) p) (p + 1 + n)) front
    ∙ ap (λ xs. Whole (Number (integer_of (d ∷ xs)) p) (p + 1 + length ds)) (take_at ds post (length ds) refl) in
    piece_back d ds post p (Number (integer_of (d ∷ ds)) p) (piece ∙ ap Ok cut)

-- an integer in decimal
value_is : (v : ℕ) → v ≤ 18446744073709551615 → integer_of (decimal v) ≡ Some v
value_is v h =
    let small : v < 2 ^ 64 = omega arith in
    let n = decimal_is_IsNumeral v small in
    let kept : up_to_most (digits_value 10 (decimal v)) ≡ Some v = ap up_to_most n.1 ∙ ap (λ b. cond b (Some v) None) (le-leb v 18446744073709551615 h) in
    ap (λ b. cond b None (up_to_most (digits_value 10 (decimal v)))) (no_zero v small) ∙ kept
  where
    first_of : (ds : List ℕ) → (eqb (get_or ds 0 0) 48 ≡ false) → begins_with_zero ds ≡ false
    first_of [] e = refl
    first_of (d ∷ ds) e = e

    second_false : (a b : Bool) → b ≡ false → (a && b) ≡ false
    second_false true b e = e
    second_false false b e = refl

    first_false : (a b : Bool) → a ≡ false → (a && b) ≡ false
    first_false a b e = ap (λ t. t && b) e

    no_zero : (v : ℕ) → v < 2 ^ 64 → (is_longer_than_one (decimal v) && begins_with_zero (decimal v)) ≡ false
    no_zero zero s = first_false (is_longer_than_one (decimal 0)) (begins_with_zero (decimal 0)) (ap is_longer_than_one (decimal_digit 0 (omega arith)))
    no_zero (suc n) s =
        let f = first_decimal (suc n) (omega arith) s in
        second_false (is_longer_than_one (decimal (suc n))) (begins_with_zero (decimal (suc n))) (first_of (decimal (suc n)) (ne_eqb (get_or (decimal (suc n)) 0 0) 48 (λ e. absurd (omega (arith, f, e)))))

pub number_back : (v : ℕ) (post : List ℕ) (p : ℕ) → v ≤ 18446744073709551615 → Stops post → tokens_from p 0 (decimal v ++ post) ≡ after_token (Number (Some v) p) (tokens_from (p + length (decimal v)) 0 post)
number_back v post p h stops =
    let n = decimal_is_IsNumeral v (omega arith) in
    by (decimal v) n.0.0 n.0.1 (value_is v h)
  where
    by : (ds : List ℕ) → 0 < length ds → AllDigits 10 ds → integer_of ds ≡ Some v → tokens_from p 0 (ds ++ post) ≡ after_token (Number (Some v) p) (tokens_from (p + length ds) 0 post)
    by [] l a e = absurd (omega arith)
    by (d ∷ ds) l a e = digits_back d ds post p a stops ∙ ap (λ o. after_token (Number o p) (tokens_from (p + length (d ∷ ds)) 0 post)) e

-- the marks, and the line feed
pub mark_back : (b : ℕ) (m : Mark) (post : List ℕ) (p : ℕ) → piece_at p (b ∷ post) ≡ Ok (Whole (At m p) (p + 1)) → tokens_from p 0 (b ∷ post) ≡ after_token (At m p) (tokens_from (p + 1) 0 post)
mark_back b m post p e =
    let n : p + 1 ≡ p + 1 + 0 = omega arith in
    piece_back b [] post p (At m p) (e ∙ ap (λ k. Ok (Whole (At m p) k)) n)

pub line_feed_back : (post : List ℕ) (p : ℕ) → tokens_from p 0 (10 ∷ post) ≡ tokens_from (p + 1) 0 post
line_feed_back post p =
    let n : p + 1 - (p + 1) ≡ 0 = omega arith in
    ap (λ k. tokens_from (p + 1) k post) n
