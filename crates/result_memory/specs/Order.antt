-- The entries of a memory and their order: the row that was used last comes first.
use Rattle.std.specs.Prelude.{ℕ, ◌-◌, ◌<◌, ◌≤◌, List, ◌∷◌, length, take, nat_eq}
use Rattle.std.specs.Option.{option_map_or}
use Rattle.std.specs.Map.{lookup, remove_entry}
use Rattle.lru.specs.LruCache.{LruCache, lru_cache}
use Rattle.term_model.specs.declared.Row.{Row}
use Rattle.innermost.specs.declared.memo.Known.{Known}
use Rattle.innermost.specs.Remembered.{Map}

-- what is remembered of each row
abbrev pub map_of : LruCache ℕ Known → Map
map_of memo row = lookup (nat_eq row.0) memo.entries

-- there is room for an entry at least, and for all that there are
abbrev pub HasRoom : LruCache ℕ Known → Type 0
HasRoom memo = (length memo.entries ≤ memo.cap) × (0 < memo.cap)

-- the entries without that of this row, in their order
abbrev pub others : LruCache ℕ Known → Row → List (ℕ × Known)
others memo row = remove_entry (nat_eq row.0) memo.entries

-- The row comes first with this result. The others follow in their order, as many as there is room
-- for: where a new row meets a full memory, all but the last one.
abbrev pub with_first : LruCache ℕ Known → Row → Known → LruCache ℕ Known
with_first memo row known =
    lru_cache ((row.0, known) ∷ take (memo.cap - 1) (others memo row)) memo.cap

-- where the row has a result, it comes first with it, and the others follow in their order; else
-- all stay as they are
abbrev pub with_used : LruCache ℕ Known → Row → LruCache ℕ Known
with_used memo row =
    lru_cache (option_map_or (λ known. (row.0, known) ∷ others memo row) (map_of memo row)
    memo.entries) memo.cap
