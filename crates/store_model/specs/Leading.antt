-- What a seat keeps where its epoch ends, said without a computation: the rows that its protected
-- rows lead to, and their words.
use Rattle.std.specs.Prelude.{◌≡◌, ◌≢◌, ◌↔◌, ℕ, suc, ◌<◌, List}
use Rattle.store_model.specs.Calls.{KnownWord, View}
use Rattle.store_model.specs.Machine.{In, protected_in, rows_kept, words_kept, based}
use Rattle.store_model.specs.ByView.{KnowsWord}

-- One of these rows, or an argument of a row that they lead to: the words ks have the count of that
-- row, and the argument within it.
pub data LeadsTo (ks : List KnownWord) (rows : List ℕ) : ℕ → Type 0 where
  leads_first : (r : ℕ) → In r rows → LeadsTo ks rows r
  leads_on : (r n k a : ℕ) → LeadsTo ks rows r → KnowsWord r 1 n ks → k < n
      → KnowsWord r (suc (suc k)) a ks → LeadsTo ks rows a

-- the rows that it keeps are exactly those that its protected rows lead to by the words that it
-- knows
abbrev pub KeepsExactlyLed : Type 0
KeepsExactlyLed = (v : View) (r : ℕ) → In r (rows_kept v) ↔ LeadsTo v.knows (protected_in v) r

-- the words that it keeps are exactly those that it knows of such rows
abbrev pub KeepsTheirWords : Type 0
KeepsTheirWords = (v : View) (r k n : ℕ) → KnowsWord r k n (words_kept v)
    ↔ (LeadsTo v.knows (protected_in v) r × KnowsWord r k n v.knows)

-- a load of another base leaves these alone, and one of the same base all that there was
abbrev pub EntryKeeps : Type 0
EntryKeeps = (v : View) (n : ℕ)
    → (n ≢ v.base → ((based v n).got ≡ rows_kept v) × ((based v n).knows ≡ words_kept v))
    × (n ≡ v.base → ((based v n).got ≡ v.got) × ((based v n).knows ≡ v.knows))
