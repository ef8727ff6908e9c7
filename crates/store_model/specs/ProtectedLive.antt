-- The rows that a seat may use are live.
use Rattle.std.specs.Prelude.{◌≡◌, ℕ, ◌<◌, []}
use Rattle.history_core.specs.Chronicle.{last_roots}
use Rattle.store_model.specs.Words.{Place, Base, RootCount, Root}
use Rattle.store_model.specs.Calls.{Away, View}
use Rattle.store_model.specs.Machine.{Each, roots_of, rows_kept, words_kept}
use Rattle.store_model.specs.Meaning.{Meaning}
use Rattle.store_model.specs.Seats.{Where, wanted, IsSeen, IsKnown}

pub record ProtectedLive (w : Place → ℕ) (m : Meaning) (view : ℕ → View) : Type 0 where
  -- Protected rows and arguments of calls in flight are live, and have birth numbers of at most
  -- what their seat has seen.
  pub protected : (i k : ℕ) → k < w (RootCount i) → IsSeen w m (view i).seen (w (Root i k))
  pub arguments : (i : ℕ)
      → Where (wanted (view i).call) (λ c. Each (IsSeen w m (view i).seen) c.arguments)
  -- While the base is a seat's own, so are the rows that it got or had protected in its epoch, and
  -- the words that it knows of rows are there.
  pub got : (i : ℕ) → (view i).base ≡ w Base → Each (IsSeen w m (view i).seen) (view i).got
  pub knows : (i : ℕ) → (view i).base ≡ w Base → Each (IsKnown w m) (view i).knows
  -- Always so are the rows that its protected rows lead to by the words that it knows, and their
  -- words: its next epoch keeps them.
  pub keeps : (i : ℕ) → Each (IsSeen w m (view i).seen) (rows_kept (view i))
  pub keeps_words : (i : ℕ) → Each (IsKnown w m) (words_kept (view i))
  -- the protected rows of a seat with no granted access are those of its last Roots
  pub away : (i : ℕ) → (view i).stay ≡ Away
      → last_roots [] (view i).entries ≡ roots_of w i (w (RootCount i))
