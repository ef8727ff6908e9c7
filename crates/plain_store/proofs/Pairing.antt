-- At most two rows, filled up to two.
use Rattle.std.proofs.Common.{◌≡◌, ℕ, ◌^◌, ◌<◌, ◌≤◌, Bool, false, List, [], ◌∷◌, length, take, get_or, refl, ap, sym, ◌∙◌, arith}
use Rattle.std.proofs.lemmas.List.{length-take}
use Rattle.term_model.specs.declared.Row.{Row}
use Rattle.std.proofs.lemmas.Bool.{le-leb, lt-leb}
use Rattle.std.specs.Prelude.{if◌then◌else◌}
use Rattle.plain_store.specs.Pairs.{filled, no_row, pair_word}
use Rattle.plain_store.specs.Hash.{head_hash, head_kind, hash_by, pair_hash, hash}
use Rattle.term_model.specs.declared.Head.{Head}
use Rattle.term_model.specs.declared.Head.TheVariants.{App, Int, Nil, Cons}
use Rattle.term_model.specs.Tree.{head_eq}
use Rattle.plain_store.proofs.Rows.{row_same}

pub filled_two : (rows : List Row) → length rows ≤ 2 → length (filled rows) ≡ 2
filled_two [] few = refl
filled_two (a ∷ []) few = refl
filled_two (a ∷ b ∷ rows) few = omega arith

pub filled_again : (rows : List Row) → length rows ≤ 2 → take (length rows) (filled rows) ≡ rows
filled_again [] few = refl
filled_again (a ∷ []) few = refl
filled_again (a ∷ b ∷ []) few = refl
filled_again (a ∷ b ∷ c ∷ rows) few = absurd (omega arith)

pub filled_many : (rows : List Row) → 2 < length rows → filled rows ≡ rows
filled_many [] many = absurd (omega arith)
filled_many (a ∷ []) many = absurd (omega arith)
filled_many (a ∷ b ∷ rows) many = refl

-- a pair of these rows has them first
pub first_in_pair : (pair rows : List Row) → pair ≡ filled rows → length rows ≤ 2 → take (length rows) pair ≡ rows
first_in_pair pair rows is few = ap (take (length rows)) is ∙ filled_again rows few

pub pair_filled : (pair rows : List Row) → pair ≡ filled rows → length rows ≤ 2 → pair ≡ filled (take (length rows) pair)
pair_filled pair rows is few = is ∙ ap filled (sym (first_in_pair pair rows is few))

pub pair_has_two : (pair rows : List Row) → pair ≡ filled rows → length rows ≤ 2 → length pair ≡ 2
pair_has_two pair rows is few = ap length is ∙ filled_two rows few

pub filled_has_two : (pair : List Row) (n : ℕ) → pair ≡ filled (take n pair) → n ≤ 2 → length pair ≡ 2
filled_has_two pair n is few =
    pair_has_two pair (take n pair) is (omega (arith, length-take n pair))

pub hash_few : (head : Head) (rows : List Row) → length rows ≤ 2 → hash head rows ≡ pair_hash head (filled rows)
hash_few head rows few =
    ap (λ (b : Bool). if b then pair_hash head (filled rows) else hash_by (head_hash head) rows) (le-leb (length rows) 2 few)

pub hash_many : (head : Head) (rows : List Row) → 2 < length rows → hash head rows ≡ hash_by (head_hash head) rows
hash_many head rows many =
    ap (λ (b : Bool). if b then pair_hash head (filled rows) else hash_by (head_hash head) rows) (lt-leb (length rows) 2 many)

-- the word of a pair tells its rows
pub word_told : (xs ys : List Row) → length xs ≡ 2 → length ys ≡ 2 → (get_or xs 0 no_row).0 < 2 ^ 32 → (get_or ys 0 no_row).0 < 2 ^ 32 → pair_word xs ≡ pair_word ys → xs ≡ ys
word_told [] ys two other low less same = absurd (omega arith)
word_told (a ∷ []) ys two other low less same = absurd (omega arith)
word_told (a ∷ b ∷ c ∷ xs) ys two other low less same = absurd (omega arith)
word_told (a ∷ b ∷ []) [] two other low less same = absurd (omega arith)
word_told (a ∷ b ∷ []) (d ∷ []) two other low less same = absurd (omega arith)
word_told (a ∷ b ∷ []) (d ∷ e ∷ f ∷ ys) two other low less same = absurd (omega arith)
word_told (a ∷ b ∷ []) (d ∷ e ∷ []) two other low less same =
    let firsts : a.0 ≡ d.0 = omega (arith, low, less, same) in
    let seconds : b.0 ≡ e.0 = omega (arith, low, less, same) in
    ap (λ (x : Row). x ∷ b ∷ []) (row_same a d firsts) ∙ ap (λ (x : Row). d ∷ x ∷ []) (row_same b e seconds)

-- heads of other kinds aren't the same
pub other_kinds : (h g : Head) → (head_kind h ≡ head_kind g → ⊥) → head_eq h g ≡ false
other_kinds (App f) (App g) ne = absurd (ne refl)
other_kinds (App f) (Int n) ne = refl
other_kinds (App f) Nil ne = refl
other_kinds (App f) Cons ne = refl
other_kinds (Int m) (App g) ne = refl
other_kinds (Int m) (Int n) ne = absurd (ne refl)
other_kinds (Int m) Nil ne = refl
other_kinds (Int m) Cons ne = refl
other_kinds Nil (App g) ne = refl
other_kinds Nil (Int n) ne = refl
other_kinds Nil Nil ne = absurd (ne refl)
other_kinds Nil Cons ne = refl
other_kinds Cons (App g) ne = refl
other_kinds Cons (Int n) ne = refl
other_kinds Cons Nil ne = refl
other_kinds Cons Cons ne = absurd (ne refl)
