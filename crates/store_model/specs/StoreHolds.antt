-- What every step keeps: the eight facts, and what their proof needs beside them.
use Rattle.std.specs.Prelude.{◌≡◌, ℕ, true}
use Rattle.store_model.specs.Words.{Place, Base}
use Rattle.store_model.specs.Machine.{Sizes, State}
use Rattle.store_model.specs.Meaning.{Meaning}
use Rattle.store_model.specs.Bases.{BasesKnown}
use Rattle.store_model.specs.Invariant.{Holds}
use Rattle.store_model.specs.Steps.{Collects, IsFresh}
use Rattle.store_model.specs.Reads.{Remembers}
use Rattle.store_model.specs.LockHolds.{LockHolds}
use Rattle.store_model.specs.RowsPartitioned.{RowsPartitioned}
use Rattle.store_model.specs.ChainsSound.{ChainsSound}
use Rattle.store_model.specs.WalksCurrent.{WalksCurrent}
use Rattle.store_model.specs.NumbersBounded.{NumbersBounded}
use Rattle.store_model.specs.ProtectedLive.{ProtectedLive}
use Rattle.store_model.specs.HistoryMatches.{HistoryMatches}
use Rattle.store_model.specs.CollectionUnderWay.{CollectionUnderWay}

-- The facts in the form that each step is shown to keep. They say more of the calls under way and
-- of what each seat has seen.
pub record Strengthened (z : Sizes) (s : State) (m : Meaning) (began : Place → ℕ) : Type 0 where
  pub holds : Holds z (record { lock = s.lock; words = began; view = s.view }) m
  pub under : Collects z s began
  pub bases : BasesKnown z (began Base) s.view
  pub fresh : (i : ℕ) → (s.view i).fresh ≡ true → IsFresh s.lock began m.live i (s.view i)
  pub remembers : Remembers z s

-- The words `began` are those present, or those that a collection found which has begun to store.
pub record StoreHolds (z : Sizes) (s : State) : Type 0 where
  pub meaning : Meaning
  pub began : Place → ℕ
  pub lock : LockHolds z s.lock s.view
  pub rows : RowsPartitioned z began meaning.live (λ i. (s.view i).call)
  pub chains : ChainsSound z began meaning
  pub walks : WalksCurrent z began meaning s.view
  pub numbers : NumbersBounded z began meaning s.view
  pub protected : ProtectedLive began meaning s.view
  pub history : HistoryMatches z meaning s.view
  pub collection : CollectionUnderWay z s began
  pub strengthened : Strengthened z s meaning began
