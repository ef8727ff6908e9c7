-- Pieces of a list, one after the other.
use Rattle.std.proofs.Common.{◌≡◌, ◌≤◌, ◌<◌, ℕ, ◌+◌, ◌-◌, List, [], ◌++◌, length, take, drop, sym, ap, ◌∙◌, arith, length-drop, min}
use Rattle.std.proofs.Math.Seq.{take-add, take-append_seam}
use Rattle.std.proofs.lemmas.List.{take_all, take-append-drop, length-take-le, drop-drop, drop_all}

-- the first i, and then the first n of all that follows
pub next_piece : (i n : ℕ) (xs : List ℕ) → take i xs ++ take n (take (length xs - i) (drop i xs)) ≡ take (i + n) xs
next_piece i n xs =
    let all : take (length xs - i) (drop i xs) ≡ drop i xs = take_all (length xs - i) (drop i xs) (omega (arith, length-drop i xs)) in
    ap (λ ys. take i xs ++ take n ys) all ∙ sym (take-add i n xs)

-- what a buffer has in front after a copy
pub copied_front : (front rest : List ℕ) (n : ℕ) → length front ≡ n → take n (front ++ rest) ≡ front
copied_front front rest n e = ap (λ k. take k (front ++ rest)) (sym e) ∙ take-append_seam front rest

-- what is left from i on is the copied bytes and what is left behind them
pub left_splits : (i n : ℕ) (xs front rest : List ℕ) → i + n ≤ length xs → front ≡ take n (drop i xs) → drop i xs ≡ take n (front ++ rest) ++ drop (i + n) xs
left_splits i n xs front rest le e =
    let here : length (drop i xs) ≡ length xs - i = length-drop i xs in
    let len : length front ≡ n = ap length e ∙ length-take-le n (drop i xs) (omega arith) in
    sym (ap (λ ys. ys ++ drop (i + n) xs) (copied_front front rest n len ∙ e) ∙ ap (λ ys. take n (drop i xs) ++ ys) (sym (drop-drop n i xs)) ∙ take-append-drop n (drop i xs))

-- nothing is left where no byte was due
pub none_left : (i n most room : ℕ) (xs : List ℕ) → n ≡ min (min (length xs - i) most) room → n ≡ 0 → 0 < most → 0 < room → drop (i + n) xs ≡ []
none_left i n most room xs e z m r = drop_all (i + n) xs (omega arith)
