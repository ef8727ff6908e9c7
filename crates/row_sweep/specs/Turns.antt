-- The order in which a collection comes to the rows, and so the order of the free places.
use Rattle.std.specs.Prelude.{ℕ, ◌+◌, ◌*◌, ◌/◌, ◌%◌, ◌==◌, nat_lt, if◌then◌else◌}
use Rattle.store_model.specs.declared.view.Sizes.{Sizes}
use Rattle.row_sweep.specs.declared.turns.Order.{Order}
use Rattle.row_sweep.specs.declared.turns.Order.TheVariants.{Ascending, Apart}

-- The order of a collection that keeps so many rows: they stand apart where there are several seats
-- and fewer than one row in 64 is kept, and else ascend.
abbrev pub order_for : Sizes → (live : ℕ) → Order
order_for z live =
    if z.seats == 1 then Ascending else (if nat_lt live (z.rows / 64) then Apart else Ascending)

-- how many rows come in whole blocks: where they ascend none
abbrev pub in_blocks : Sizes → Order → ℕ
in_blocks z Ascending = 0
in_blocks z Apart = 64 * (z.rows / 64)

-- The row that comes in turn k: of each block of 64 rows, those that stand 8 apart come after each
-- other; the rows after the blocks ascend. It is its own inverse: row r comes in the turn whose row
-- would be r.
abbrev pub row_in_turn : Sizes → Order → ℕ → ℕ
row_in_turn z o k =
    if nat_lt k (in_blocks z o) then 64 * (k / 64) + (8 * (k % 8) + k / 8 % 8) else k
