-- The entries of all seats make one legal history, which leaves what the store has; and each seat's
-- own keys rise.
use Rattle.std.specs.Prelude.{◌≡◌, ℕ, ◌<◌, []}
use Rattle.history_core.specs.Chronicle.{History, chronicle, IsLegal, KeysRise, set_of, last_roots}
use Rattle.store_model.specs.Calls.{View}
use Rattle.store_model.specs.Machine.{Sizes}
use Rattle.store_model.specs.Meaning.{Meaning}
use Rattle.store_model.specs.Invariant.{listed, names_of}

-- the entries of all seats, in order
abbrev pub history_of : Sizes → (ℕ → View) → History
history_of z view = chronicle (listed z.seats (λ i. (view i).entries))

pub record HistoryMatches (z : Sizes) (m : Meaning) (view : ℕ → View) : Type 0 where
  pub legal : IsLegal z.rows (history_of z view)
  pub rises : (i : ℕ) → KeysRise (view i).entries
  -- the set that it leaves is exactly the live rows with their trees, with each caller's last Roots
  pub pairs : (set_of (history_of z view)).held ≡ names_of m
  pub roots : (i : ℕ) → i < z.seats → (set_of (history_of z view)).roots i
      ≡ last_roots [] (view i).entries
