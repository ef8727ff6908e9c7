-- Rows and their numbers, one by one.
use Rattle.std.proofs.Common.{◌≡◌, ℕ, List, length, get_or, sym}
use Rattle.std.proofs.Math.ListN.{get_or-map}
use Rattle.std.proofs.lemmas.List.{length-map}
use Rattle.term_model.specs.declared.Row.{Row}
use Rattle.node_rows.specs.Rows.{names}

pub name_at : (rows : List Row) (k : ℕ) → (get_or rows k (record { 0 = 0 })).0 ≡ get_or (names rows) k 0
name_at rows k = let none : Row = record { 0 = 0 } in sym (get_or-map (λ (r : Row). r.0) rows k none)

pub names_long : (rows : List Row) → length (names rows) ≡ length rows
names_long rows = length-map rows (λ (r : Row). r.0)
