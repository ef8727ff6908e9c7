-- Bytes are scanned for the first separator: what stands before it is the first word of a line.
use Rattle.std.proofs.Common.{◌≡◌, ◌≢◌, ℕ, zero, suc, ◌+◌, ◌*◌, ◌-◌, ◌<◌, ◌≤◌, cond, List, [], ◌∷◌, ◌++◌, length, take, drop, get_or, refl, sym, ap, ◌∙◌, arith, append-nil, ne_eqb, eq-eqb, length-drop}
use Rattle.std.proofs.lemmas.List.{drop_more, drop_all, take_more}
use Rattle.log_check.specs.Words.{before_first, words, words_after, with_digits}

-- ---- words

abbrev before_all : List ℕ → List (List ℕ) → List (List ℕ)
before_all [] ws = ws
before_all (x ∷ xs) ws = before_first x (before_all xs ws)

before_all-last : (front : List ℕ) (x : ℕ) (ws : List (List ℕ)) → before_all (front ++ x ∷ []) ws ≡ before_all front (before_first x ws)
before_all-last [] x ws = refl
before_all-last (y ∷ front) x ws = ap (before_first y) (before_all-last front x ws)

before_all-piece : (front piece : List ℕ) (ws : List (List ℕ)) → before_all front (piece ∷ ws) ≡ (front ++ piece) ∷ ws
before_all-piece [] piece ws = refl
before_all-piece (x ∷ front) piece ws = ap (before_first x) (before_all-piece front piece ws)

abbrev pub Worded : List ℕ → ℕ → Type 0
Worded bytes i = words bytes ≡ before_all (take i bytes) (words (drop i bytes))

pub worded_none : (bytes : List ℕ) → Worded bytes 0
worded_none bytes = refl

pub worded_more : (bytes : List ℕ) (i x d : ℕ) → i < length bytes → x ≡ get_or bytes i d → x ≢ 32 → Worded bytes i → Worded bytes (i + 1)
worded_more bytes i x d lt at other s =
    let here : drop i bytes ≡ x ∷ drop (i + 1) bytes = drop_more bytes i d lt ∙ ap (λ y. y ∷ drop (i + 1) bytes) (sym at) in
    let on : words (x ∷ drop (i + 1) bytes) ≡ before_first x (words (drop (i + 1) bytes)) = ap (λ c. cond c ([] ∷ words (drop (i + 1) bytes)) (before_first x (words (drop (i + 1) bytes)))) (ne_eqb x 32 other) in
    s ∙ ap (λ ds. before_all (take i bytes) (words ds)) here
    ∙ ap (before_all (take i bytes)) on
    ∙ sym (before_all-last (take i bytes) x (words (drop (i + 1) bytes)))
    ∙ ap (λ front. before_all front (words (drop (i + 1) bytes))) (sym (take_more bytes i d lt ∙ ap (λ y. take i bytes ++ y ∷ []) (sym at)))

pub worded_to : (bytes : List ℕ) (i x d : ℕ) → i < length bytes → x ≡ get_or bytes i d → x ≡ 32 → Worded bytes i → words bytes ≡ take i bytes ∷ words_after (drop i bytes)
worded_to bytes i x d lt at same s =
    let here : drop i bytes ≡ x ∷ drop (i + 1) bytes = drop_more bytes i d lt ∙ ap (λ y. y ∷ drop (i + 1) bytes) (sym at) in
    let on : words (x ∷ drop (i + 1) bytes) ≡ [] ∷ words (drop (i + 1) bytes) = ap (λ c. cond c ([] ∷ words (drop (i + 1) bytes)) (before_first x (words (drop (i + 1) bytes)))) (eq-eqb x 32 same) in
    s ∙ ap (λ ds. before_all (take i bytes) (words ds)) here
    ∙ ap (before_all (take i bytes)) on
    ∙ before_all-piece (take i bytes) [] (words (drop (i + 1) bytes))
    ∙ (λ j. append-nil (take i bytes) j ∷ words_after (sym here j))

take_all : (xs : List ℕ) (n : ℕ) → length xs ≤ n → take n xs ≡ xs
take_all [] zero le = refl
take_all [] (suc n) le = refl
take_all (x ∷ xs) zero le = absurd (omega arith)
take_all (x ∷ xs) (suc n) le = ap (λ ys. x ∷ ys) (take_all xs n (omega arith))

pub worded_all : (bytes : List ℕ) (i : ℕ) → length bytes ≤ i → Worded bytes i → words bytes ≡ bytes ∷ []
worded_all bytes i le s =
    s ∙ ap (λ ds. before_all (take i bytes) (words ds)) (drop_all i bytes le)
    ∙ before_all-piece (take i bytes) [] []
    ∙ ap (λ f. f ∷ []) (append-nil (take i bytes) ∙ take_all bytes i le)

pub worded_found : (bytes : List ℕ) (i x d n : ℕ) → i < length bytes → x ≡ get_or bytes i d → x ≡ 32 → n ≡ length bytes - i → Worded bytes i → words bytes ≡ take i bytes ∷ words_after (take n (drop i bytes))
worded_found bytes i x d n lt at same size s =
    let l = length-drop i bytes in
    worded_to bytes i x d lt at same s ∙ ap (λ ds. take i bytes ∷ words_after ds) (sym (take_all (drop i bytes) n (omega (arith, l, size))))

-- ---- numbers

pub with_digits-append : (n : ℕ) (xs ys : List ℕ) → with_digits n (xs ++ ys) ≡ with_digits (with_digits n xs) ys
with_digits-append n [] ys = refl
with_digits-append n (x ∷ xs) ys = with_digits-append (n * 10 + (x - 48)) xs ys

pub one_digit_more : (xs : List ℕ) (i x d : ℕ) → i < length xs → x ≡ get_or xs i d → with_digits 0 (take (i + 1) xs) ≡ with_digits 0 (take i xs) * 10 + (x - 48)
one_digit_more xs i x d lt at =
    ap (with_digits 0) (take_more xs i d lt ∙ ap (λ y. take i xs ++ y ∷ []) (sym at)) ∙ with_digits-append 0 (take i xs) (x ∷ [])

pub all_digits : (xs : List ℕ) (i : ℕ) → length xs ≤ i → with_digits 0 (take i xs) ≡ with_digits 0 xs
all_digits xs i le = ap (with_digits 0) (take_all xs i le)
