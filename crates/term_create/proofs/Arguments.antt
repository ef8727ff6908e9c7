-- The words of a head over rows, by the rows as a caller has them.
use Rattle.std.proofs.Common.{◌≡◌, ℕ, zero, suc, ◌+◌, ◌-◌, ◌<◌, List, ◌∷◌, length, get_or, sym, ap, ◌∙◌, arith}
use Rattle.std.proofs.Math.ListN.{get_or-map}
use Rattle.std.proofs.lemmas.List.{length-map}
use Rattle.term_model.specs.declared.Row.{Row}
use Rattle.term_model.specs.declared.Head.{Head}
use Rattle.term_model.specs.declared.Head.TheVariants.{App, Int, Nil, Cons}
use Rattle.store_model.specs.Calls.{IsOver, words_of}
use Rattle.node_rows.specs.Rows.{names}
use Rattle.node_rows.specs.Steps.{over}

-- after two words come the arguments
pub argument_at : (a b : ℕ) (rows : List Row) (k : ℕ) → 1 < k → (get_or rows (k - 2) (record { 0 = 0 })).0 ≡ get_or (a ∷ b ∷ names rows) k 0
argument_at a b rows zero l = absurd (omega arith)
argument_at a b rows (suc zero) l = absurd (omega arith)
argument_at a b rows (suc (suc j)) l =
    let none : Row = record { 0 = 0 } in
    let e : suc (suc j) - 2 ≡ j = omega arith in
    ap (λ (i : ℕ). (get_or rows i none).0) e ∙ sym (get_or-map (λ (r : Row). r.0) rows j none)

argument_after : (a b : ℕ) (rows : List Row) (j : ℕ) → (get_or rows j (record { 0 = 0 })).0 ≡ get_or (a ∷ b ∷ names rows) (j + 2) 0
argument_after a b rows j =
    let none : Row = record { 0 = 0 } in
    let e : j ≡ j + 2 - 2 = omega arith in
    ap (λ (i : ℕ). (get_or rows i none).0) e ∙ argument_at a b rows (j + 2) (omega arith)

pub as_many_names : (rows : List Row) → length (names rows) ≡ length rows
as_many_names rows = length-map rows (λ (r : Row). r.0)

-- the second word is the count of the arguments
pub second_word : (f : Head) (rows : List Row) → IsOver f (names rows) → length rows ≡ get_or (words_of (over f (names rows))) 1 0
second_word (App s) rows o = sym (as_many_names rows)
second_word (Int n) rows o = sym (as_many_names rows) ∙ ap (λ (ns : List ℕ). length ns) o
second_word Nil rows o = sym (as_many_names rows) ∙ ap (λ (ns : List ℕ). length ns) o
second_word Cons rows o = sym (as_many_names rows) ∙ o

-- argument j stands after the first two words
pub later_argument : (f : Head) (rows : List Row) (j : ℕ) → length rows ≡ get_or (words_of (over f (names rows))) 1 0 → j < length rows
    → (get_or rows j (record { 0 = 0 })).0 ≡ get_or (words_of (over f (names rows))) (j + 2) 0
later_argument (App s) rows j e l = argument_after s.0 (length (names rows)) rows j
later_argument (Int n) rows j e l = absurd (omega arith)
later_argument Nil rows j e l = absurd (omega arith)
later_argument Cons rows j e l = argument_after 4294967298 2 rows j
