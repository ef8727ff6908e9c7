-- The machine that runs: its words at the start.
use Rattle.std.specs.Prelude.{◌≡◌, ℕ, ◌<◌}
use Rattle.store_model.specs.declared.view.Place.{Place}
use Rattle.store_model.specs.declared.view.Place.TheVariants.{Base, FreeCount, Claim, InUse, FreePlace, Bucket, RowWord, Birth, Next, RootCount, Root}
use Rattle.store_model.specs.declared.view.Sizes.{Sizes}

-- the words of a new store, but that only the first n free places are stored
pub record IsBegun (z : Sizes) (n : ℕ) (w : Place → ℕ) : Type 0 where
  pub base : w Base ≡ z.first
  pub count : w FreeCount ≡ z.rows
  pub claim : w Claim ≡ 0
  pub in_use : w InUse ≡ z.start
  pub place : (i : ℕ) → i < n → w (FreePlace i) ≡ i
  pub bucket : (b : ℕ) → w (Bucket b) ≡ 0
  pub root_count : (j : ℕ) → w (RootCount j) ≡ 0
  pub root : (j k : ℕ) → w (Root j k) ≡ 0
  pub word : (r k : ℕ) → w (RowWord r k) ≡ 0
  pub birth : (r : ℕ) → w (Birth r) ≡ 0
  pub next : (r : ℕ) → w (Next r) ≡ 0
