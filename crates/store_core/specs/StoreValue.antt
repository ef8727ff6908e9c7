-- A store that runs, as contracts see it, and what its calls answer.
use Rattle.std.specs.Prelude.{◌≡◌, ℕ, List, get_or, Option, MatchOption}
use Rattle.lock_core.specs.Lock.{Lock}
use Rattle.store_model.specs.declared.view.View.{View}
use Rattle.store_model.specs.Machine.{State}
use Rattle.store_model.specs.declared.view.Sizes.{Sizes}
use Rattle.store_model.specs.Steps.{newcomer}
use Rattle.store_model.specs.Shown.{shown}
use Rattle.store_model.specs.StoreSteps.{IsInPlace, after, Leads}
use Rattle.store_model.specs.NewStore.{start_of}
use Rattle.store_model.specs.declared.step.StoreStep.{StoreStep}

-- the sizes, the lock, the words of the table, and the views of the seats in order
pub record StoreValue : Type 0 where
  pub sizes : Sizes
  pub lock : Lock
  pub words : List ℕ
  pub views : List View

-- the state of the machine that it is
abbrev pub state_of : StoreValue → State
state_of t = record {
  lock = t.lock;
  words = shown t.sizes t.words;
  view = λ j. get_or t.views j (newcomer t.sizes);
}

-- it is new
pub record IsNew (z : Sizes) (t : StoreValue) : Type 0 where
  pub sizes : t.sizes ≡ z
  pub state : state_of t ≡ start_of z

-- The step was in place, and the store is as after it; or it wasn't, and the store is as it was.
pub record Stepped (i : ℕ) (x : StoreStep) (old new : StoreValue) : Type 0 where
  pub place : IsInPlace old.sizes (state_of old) i x
  pub sizes : new.sizes ≡ old.sizes
  pub state : state_of new ≡ after old.sizes (state_of old) i x

pub record Stayed (i : ℕ) (x : StoreStep) (old new : StoreValue) : Type 0 where
  pub place : IsInPlace old.sizes (state_of old) i x → ⊥
  pub same : new ≡ old

-- The list of steps leads from a new store to this one, each in place where it is made; none where
-- it leads to no state.
abbrev pub Replays : Sizes → List (ℕ × StoreStep) → Option StoreValue → Type 0
Replays z steps t = MatchOption t ((s : State) → Leads z (start_of z) steps s → ⊥)
    (λ u. (u.sizes ≡ z) × Leads z (start_of z) steps (state_of u))
