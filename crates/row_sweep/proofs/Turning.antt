-- The order of turns is its own inverse, and stays below the rows.
use Rattle.std.proofs.Common.{◌≡◌, ℕ, ◌+◌, ◌*◌, ◌/◌, ◌%◌, ◌<◌, ◌≤◌, Bool, cond, refl, sym, ap, ◌∙◌, subst, ⊎_elim, arith}
use Rattle.std.proofs.lemmas.Bool.{cases_lt, lt-ltb, le-ltb}
use Rattle.store_model.specs.declared.view.Sizes.{Sizes}
use Rattle.row_sweep.specs.declared.turns.Order.{Order}
use Rattle.row_sweep.specs.declared.turns.Order.TheVariants.{Ascending, Apart}
use Rattle.row_sweep.specs.Turns.{in_blocks, row_in_turn}

-- of a block of 64 rows, the one whose two digits to the base of 8 are those of k in the other
-- order
abbrev swapped : ℕ → ℕ
swapped k = 64 * (k / 64) + (8 * (k % 8) + k / 8 % 8)

swapped_back : (k : ℕ) → swapped (swapped k) ≡ k
swapped_back k = omega arith

swapped_stays : (k n : ℕ) → k < 64 * n → swapped k < 64 * n
swapped_stays k n l = omega arith

-- the rows in blocks are a multiple of 64, and no more than there are
are_blocks : (z : Sizes) (o : Order) → (n : ℕ) × (in_blocks z o ≡ 64 * n) × (64 * n ≤ z.rows)
are_blocks z Ascending = (0, omega arith, omega arith)
are_blocks z Apart = (z.rows / 64, refl, omega arith)

block_stays : (z : Sizes) (o : Order) (k : ℕ) → k < in_blocks z o → swapped k < in_blocks z o
block_stays z o k l = let t = are_blocks z o in subst (λ (b : ℕ). swapped k < b) (sym t.1) (swapped_stays k t.0 (subst (λ (b : ℕ). k < b) t.1 l))

in_block : (z : Sizes) (o : Order) (k : ℕ) → k < in_blocks z o → row_in_turn z o k ≡ swapped k
in_block z o k l = ap (λ (b : Bool). cond b (swapped k) k) (lt-ltb k (in_blocks z o) l)

past_blocks : (z : Sizes) (o : Order) (k : ℕ) → in_blocks z o ≤ k → row_in_turn z o k ≡ k
past_blocks z o k l = ap (λ (b : Bool). cond b (swapped k) k) (le-ltb k (in_blocks z o) l)

pub turn_back : (z : Sizes) (o : Order) (k : ℕ) → row_in_turn z o (row_in_turn z o k) ≡ k
turn_back z o k = ⊎_elim
    (λ l. ap (row_in_turn z o) (in_block z o k l) ∙ (in_block z o (swapped k) (block_stays z o k l) ∙ swapped_back k))
    (λ l. ap (row_in_turn z o) (past_blocks z o k l) ∙ past_blocks z o k l) (cases_lt k (in_blocks z o))

pub turn_below : (z : Sizes) (o : Order) (k : ℕ) → k < z.rows → row_in_turn z o k < z.rows
turn_below z o k l = ⊎_elim
    (λ less. subst (λ (n : ℕ). n < z.rows) (sym (in_block z o k less)) (let s = block_stays z o k less in let t = are_blocks z o in let a = t.2 in let b = t.1 in omega (arith, s, a, b)))
    (λ past. subst (λ (n : ℕ). n < z.rows) (sym (past_blocks z o k past)) l) (cases_lt k (in_blocks z o))

-- a row with this turn is the row of the turn
pub turn_same : (z : Sizes) (o : Order) (n r : ℕ) → row_in_turn z o r ≡ n → row_in_turn z o n ≡ r
turn_same z o n r e = ap (row_in_turn z o) (sym e) ∙ turn_back z o r
