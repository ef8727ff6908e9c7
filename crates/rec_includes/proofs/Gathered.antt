-- Things that are gathered one after another.
use Rattle.rec_includes.proofs.Common.{◌≡◌, ℕ, zero, suc, ◌+◌, ◌<◌, ◌≤◌, List, [], ◌∷◌, ◌++◌, append_assoc, append-nil, length, drop, slice_get, get_or, Some, None, refl, sym, ap, ◌∙◌, add-one, arith, drop-cons, fold, length-append, slice_get-get_or, flat_map, option_to_list, Specification, specifications_at, Header, header_after, headers_of, common_steps}

pub drop_at : {X : Type 0} (xs : List X) (i : ℕ) (x : X) → i < length xs → x ≡ get_or xs i x → drop i xs ≡ x ∷ drop (i + 1) xs
drop_at xs i x l e = grind (arith, drop-cons, add-one)

pub drop_all : {X : Type 0} (xs : List X) (i : ℕ) → length xs ≤ i → drop i xs ≡ []
drop_all [] zero l = refl
drop_all [] (suc i) l = refl
drop_all (x ∷ xs) zero l = absurd (omega arith)
drop_all (x ∷ xs) (suc i) l = drop_all xs i (omega arith)

module _ {X Y : Type 0} (all : List X → List Y) (one : X → List Y) (splits : (x : X) (xs : List X) → all (x ∷ xs) ≡ one x ++ all xs) where
  -- after one item more
  pub gathered_turn : (xs : List X) (i : ℕ) (x : X) (was now start : List Y) → i < length xs → x ≡ get_or xs i x →
      now ≡ was ++ one x → was ++ all (drop i xs) ≡ start → now ++ all (drop (i + 1) xs) ≡ start
  gathered_turn xs i x was now start l at is before = grind (arith, append_assoc, drop_at)

pub default_in : {X : Type 0} (xs : List X) (i : ℕ) (d e : X) → i < length xs → get_or xs i d ≡ get_or xs i e
default_in xs i d e l = grind (arith, slice_get-get_or)

pub at_one : {A : Type 0} (f : Specification → List A) (earlier : List Specification) (n : ℕ) (s : Specification) → Some s ≡ slice_get earlier n → f s ≡ flat_map f (specifications_at earlier (n ∷ []))
at_one f earlier n s h = sym (append-nil (f s)) ∙ ap (λ o. flat_map f (option_to_list o ++ [])) h

pub at_none : {A : Type 0} (f : Specification → List A) (earlier : List Specification) (n : ℕ) → None ≡ slice_get earlier n → [] ≡ flat_map f (specifications_at earlier (n ∷ []))
at_none f earlier n h = ap (λ o. flat_map f (option_to_list o ++ [])) h

-- ---- the specifications of an input, one after another

fold_more : {A B : Type 0} (f : B → A → B) (b : B) (xs : List A) (x : A) → fold f b (xs ++ x ∷ []) ≡ f (fold f b xs) x
fold_more f b [] x = refl
fold_more f b (y ∷ ys) x = fold_more f (f b y) ys x

pub headers_more : (bytes : List ℕ) (xs : List Specification) (s : Specification) →
    headers_of bytes (xs ++ s ∷ []) ≡ headers_of bytes xs ++ header_after bytes (headers_of bytes xs) s ∷ []
headers_more bytes xs s = fold_more (λ headers t. headers ++ header_after bytes headers t ∷ []) [] xs s

count_from : (bytes : List ℕ) (headers : List Header) (xs : List Specification) →
    length (fold (λ hs t. hs ++ header_after bytes hs t ∷ []) headers xs) ≡ length headers + length xs
count_from bytes headers [] = omega arith
count_from bytes headers (s ∷ ss) = grind (arith, count_from bytes (headers ++ header_after bytes headers s ∷ []) ss, length-append)

-- there is a header for each specification
pub headers_counted : (bytes : List ℕ) (xs : List Specification) → length (headers_of bytes xs) ≡ length xs
headers_counted bytes xs = let h = count_from bytes [] xs in omega (arith, h)

-- what the specification with a number has, and what is gathered in turn
pub ruleset at_number = (common_steps, at_one, at_none)

pub ruleset gathering = (common_steps, gathered_turn, default_in)
