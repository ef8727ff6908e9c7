-- What one seat sees of a store, whether a step of it is in place by that, and what the step
-- changes.
use Rattle.std.specs.Prelude.{◌≡◌, ℕ, suc, pred, true, Option, Some, None, Result, List, [], ◌∷◌, ◌++◌, get_or, IfOk, MatchOption}
use Rattle.faults.specs.declared.Memory.{Memory}
use Rattle.lock_core.specs.Lock.{Lock}
use Rattle.store_model.specs.Words.{write, put}
use Rattle.store_model.specs.declared.view.Place.{Place}
use Rattle.store_model.specs.declared.view.Place.TheVariants.{Base, InUse, RowWord, Root}
use Rattle.store_model.specs.declared.view.View.{View}
use Rattle.store_model.specs.declared.view.Call.TheVariants.{Storing}
use Rattle.store_model.specs.Machine.{State, Step, LockAlone, LowerShared, UnaskSeat, GiveGranted, LoadBase, LoadInUse, Begin, Go, LoadRoot, StoreRoot, StoreCount, ReadWord, ReadArgument, LoadAny, StoreAny, StoreClaim, action, begins, based, ready, leaving, left, protected_in, rooted, root_counted, knowing, with_got, with_call}
use Rattle.store_model.specs.declared.view.Sizes.{Sizes}
use Rattle.store_model.specs.Steps.{loads, stores, loading, names_left, MayEnd, Permits, after, newcomer}
use Rattle.store_model.specs.Collection.{collected}
use Rattle.store_model.specs.Seats.{Where}
use Rattle.store_model.specs.StoreHolds.{StoreHolds}
use Rattle.store_model.specs.Ending.{IsEnding}
use Rattle.store_model.specs.Shown.{shown, in_table}
use Rattle.store_model.specs.StoreSteps as steps
use Rattle.store_model.specs.StoreSteps.{meant, Fits}
use Rattle.store_model.specs.declared.step.StoreStep.{StoreStep}
use Rattle.store_model.specs.declared.step.StoreStep.TheVariants as step
use Rattle.store_core.specs.declared.machine.change.Change.{Change}
use Rattle.store_core.specs.declared.machine.change.Sight.{Sight}

-- the state as one seat sees it: it looks at no other view than its own
abbrev pub state_seen : Sight → State
state_seen s = record {
  lock = s.lock.now;
  words = shown s.table.now.sizes s.table.now.words.items;
  view = λ _. s.view.now;
}

abbrev pub sizes_seen : Sight → Sizes
sizes_seen s = s.table.now.sizes

-- the own view after a step
abbrev pub view_after : Sizes → (Place → ℕ) → ℕ → View → Step → View
view_after z w i v (LockAlone x) = v
view_after z w i v LowerShared = left v (protected_in v)
view_after z w i v (UnaskSeat j) = leaving v
view_after z w i v GiveGranted = left v (protected_in v)
view_after z w i v LoadBase = based v (w Base)
view_after z w i v LoadInUse = ready v (w InUse)
view_after z w i v (Begin c) = (begins v c).moved (w (begins v c).place)
view_after z w i v Go = (action v v.call).moved (w (action v v.call).place)
view_after z w i v (LoadRoot k) = with_got v (w (Root i k))
view_after z w i v (StoreRoot k r) = rooted v k r
view_after z w i v (StoreCount n) = root_counted v n
view_after z w i v (ReadWord r k) = knowing v r k (w (RowWord r k))
view_after z w i v (ReadArgument r j) =
    with_got (knowing v r (suc (suc j)) (w (RowWord r (suc (suc j))))) (w (RowWord r (suc (suc j))))
view_after z w i v (LoadAny p) = with_call v (loading z (loads v.call ++ (p, w p) ∷ []))
view_after z w i v (StoreAny p n) = with_call v (Storing (loads v.call) ((p, n) ∷ stores v.call))
view_after z w i v StoreClaim = collected v (w Base) (pred (w Base)) (w InUse) (names_left z w)

-- the lock and the words with what a change has
abbrev pub lock_with : Lock → Option Lock → Lock
lock_with l None = l
lock_with l (Some m) = m

abbrev pub words_with : (Place → ℕ) → Option (Place × ℕ) → Place → ℕ
words_with w None = w
words_with w (Some q) = write w q.0 q.1

-- the state with a change by seat i, which then knows this
abbrev pub changed : State → ℕ → Change → View → State
changed s i c v = record {
  lock = lock_with s.lock c.lock;
  words = words_with s.words c.stored;
  view = put s.view i v;
}

-- what the step does to the lock, the words and the own view
pub record Makes (s : Sight) (x : Step) (c : Change) (v : View) : Type 0 where
  pub lock : lock_with s.lock.now c.lock ≡ (after (sizes_seen s) (state_seen s) s.seat x).lock
  pub words : words_with (state_seen s).words c.stored
      ≡ (after (sizes_seen s) (state_seen s) s.seat x).words
  pub view : v ≡ view_after (sizes_seen s) (state_seen s).words s.seat s.view.now x

-- the step is permitted by what the seat sees
abbrev pub Allows : Sight → Step → Type 0
Allows s x = Permits (sizes_seen s) (state_seen s) s.seat x

-- a plan of a step: none exactly where it isn't permitted or F doesn't hold, and else what it does,
-- with the own view then
abbrev pub PlansIf : Sight → Step → Type 0 → View → Result (Option Change) Memory → Type 0
PlansIf s x F v r =
    IfOk r (λ o. MatchOption o (Allows s x × F → ⊥) (λ c. Allows s x × F × Makes s x c v))

abbrev pub Plans : Sight → Step → View → Result (Option Change) Memory → Type 0
Plans s x v r = PlansIf s x (Unit {0}) v r

abbrev pub PlansStep : Sight → StoreStep → View → Result (Option Change) Memory → Type 0
PlansStep s x v r = PlansIf s (meant (state_seen s) s.seat x) (Fits (sizes_seen s) s.view.now x) v r

-- the state with this lock, the words of this table and these views
abbrev pub state_by : Sizes → Lock → List ℕ → List View → State
state_by z l words views =
    record { lock = l; words = shown z words; view = λ j. get_or views j (newcomer z) }

-- a change stores at a place that the table has
abbrev pub IsInside : Sizes → Option (Place × ℕ) → Type 0
IsInside z stored = Where stored (λ q. in_table z q.0 ≡ true)

abbrev pub HasPlace : Sizes → Option Change → Type 0
HasPlace z o = Where o (λ c. IsInside z c.stored)

-- what a whole plan answers
abbrev pub IsPlanOf : Sizes → State → ℕ → StoreStep → View → Option Change → Type 0
IsPlanOf z s i x v o = MatchOption o (steps.IsInPlace z s i x → ⊥)
    (λ c. steps.IsInPlace z s i x × (steps.after z s i x ≡ changed s i c v))

abbrev pub Planned : Sizes → State → ℕ → StoreStep → View → Result (Option Change) Memory → Type 0
Planned z s i x v r = IfOk r (λ o. IsPlanOf z s i x v o × HasPlace z o)

-- s is what the seat sees of the state
pub record IsSeen (g : Sight) (s : State) : Type 0 where
  pub lock : s.lock ≡ g.lock.now
  pub words : s.words ≡ (state_seen g).words
  pub view : s.view g.seat ≡ g.view.now

-- The end of a collection that has loaded ls, of a state of which the facts hold
abbrev pub PlansEnd : Sight → List (Place × ℕ) → ℕ → View → Result (Option Change) Memory → Type 0
PlansEnd g ls n v r =
    IfOk r (λ o. (s : State) → IsEnding (sizes_seen g) (state_seen g).words ls s g.seat →
    MatchOption o (MayEnd (sizes_seen g) s g.seat × (n ≡ 0) → ⊥)
    (λ c. MayEnd (sizes_seen g) s g.seat × (n ≡ 0) × Makes g StoreClaim c v))

abbrev pub PlansClaim : Sight → ℕ → View → Result (Option Change) Memory → Type 0
PlansClaim g n v r = IfOk r (λ o. (s : State) → StoreHolds (sizes_seen g) s → IsSeen g s →
    MatchOption o (Permits (sizes_seen g) s g.seat StoreClaim × (n ≡ 0) → ⊥)
    (λ c. Permits (sizes_seen g) s g.seat StoreClaim × (n ≡ 0) × Makes g StoreClaim c v))

-- a plan of any step
abbrev pub Serves : Sight → StoreStep → View → Result (Option Change) Memory → Type 0
Serves g (step.StoreClaim n) v r = PlansClaim g n v r
Serves g x v r = PlansStep g x v r
