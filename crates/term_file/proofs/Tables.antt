-- Tables that have an entry for each record.
use Rattle.std.proofs.Common.{◌≡◌, ℕ, ◌+◌, ◌<◌, List, [], ◌∷◌, ◌++◌, length, slice_get, Some, refl, sym, ap, ◌∙◌, arith}
use Rattle.std.proofs.lemmas.List.{length-append}
use Rattle.symbol_pool.proofs.Places.{slice_get-append}
use Rattle.term_file.specs.Contents.{Record, table_after, table_of}

-- the element behind a list
pub slice_get-behind : {X : Type 0} (xs : List X) (x : X) (ys : List X) → slice_get (xs ++ x ∷ ys) (length xs) ≡ Some x
slice_get-behind [] x ys = refl
slice_get-behind (a ∷ xs) x ys = slice_get-behind xs x ys

module _ {X : Type 0} (make : List X → Record → X) where
  pub length-table_after : (table : List X) (rs : List Record) → length (table_after make table rs) ≡ length table + length rs
  length-table_after table [] = omega arith
  length-table_after table (r ∷ rs) =
      let e = length-table_after (table ++ make table r ∷ []) rs in
      let f = length-append table (make table r ∷ []) in
      omega (arith, e, f)

  pub length-table_of : (rs : List Record) → length (table_of make rs) ≡ length rs
  length-table_of rs = let e = length-table_after [] rs in omega (arith, e)

  pub table_after-append : (table : List X) (rs ss : List Record) → table_after make table (rs ++ ss) ≡ table_after make (table_after make table rs) ss
  table_after-append table [] ss = refl
  table_after-append table (r ∷ rs) ss = table_after-append (table ++ make table r ∷ []) rs ss

  -- a record behind all others
  pub table_of-push : (rs : List Record) (r : Record) → table_of make (rs ++ r ∷ []) ≡ table_of make rs ++ make (table_of make rs) r ∷ []
  table_of-push rs r = table_after-append [] rs (r ∷ [])

  -- entries that are there stay
  pub entry_stays : (table : List X) (rs : List Record) (i : ℕ) → i < length table → slice_get (table_after make table rs) i ≡ slice_get table i
  entry_stays table [] i lt = refl
  entry_stays table (r ∷ rs) i lt =
      let longer : i < length (table ++ make table r ∷ []) = omega (arith, length-append table (make table r ∷ [])) in
      entry_stays (table ++ make table r ∷ []) rs i longer ∙ slice_get-append table (make table r ∷ []) i lt

  -- the entry of a record that has others before it and behind it
  pub entry_of : (rs : List Record) (r : Record) (ss : List Record) → slice_get (table_of make (rs ++ r ∷ ss)) (length rs) ≡ Some (make (table_of make rs) r)
  entry_of rs r ss =
      let table = table_of make rs in
      let len : length table ≡ length rs = length-table_of rs in
      let lt : length rs < length (table ++ make table r ∷ []) = omega (arith, length-append table (make table r ∷ [])) in
      ap (λ (t : List X). slice_get t (length rs)) (table_after-append [] rs (r ∷ ss))
      ∙ entry_stays (table ++ make table r ∷ []) ss (length rs) lt
      ∙ ap (slice_get (table ++ make table r ∷ [])) (sym len)
      ∙ slice_get-behind table (make table r) []

  -- records behind change no entry
  pub entry_before : (rs ss : List Record) (i : ℕ) → i < length rs → slice_get (table_of make (rs ++ ss)) i ≡ slice_get (table_of make rs) i
  entry_before rs ss i lt =
      let len : i < length (table_of make rs) = omega (arith, length-table_of rs) in
      ap (λ (t : List X). slice_get t i) (table_after-append [] rs ss) ∙ entry_stays (table_of make rs) ss i len
