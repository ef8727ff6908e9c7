-- What the entries of the passes tell of trees is so in every state of the table.
use Rattle.std.proofs.Common.{ℕ, List, sym, subst}
use Rattle.lock_core.specs.Lock.{Lock}
use Rattle.history_core.specs.TermSet.{Holds}
use Rattle.store_model.specs.declared.view.Sizes.{Sizes}
use Rattle.store_model.specs.declared.view.View.{View}
use Rattle.store_model.specs.Invariant.{listed}
use Rattle.store_model.specs.Laws.{held_by}
use Rattle.store_model.specs.Machine as core
use Rattle.store_model.specs.Recalls.{EntriesRecalled, Recalls}
use Rattle.store_model.specs.StoreHolds.{StoreHolds}
use Rattle.store_model.specs.Told.{told}
use Rattle.store_model.proofs.RecallsHold.{recalls_kept}
use Rattle.node_rows.specs.declared.view.NodeView.{NodeView}
use Rattle.node_rows.specs.Shown.{store_at, state_of, IsStoreStep}

-- the trees that the entries of seat i name in the chronicle of all, and those of its Roots, are
-- those that they tell
abbrev pub SeatTells : Sizes → List NodeView → ℕ → Type 0
SeatTells z known i = EntriesRecalled (listed z.seats (λ j. (store_at z known j).entries)) i
    (store_at z known i).entries

-- in the set that all entries leave, row r has the tree that the entries of this view tell
abbrev pub HoldsTold : Sizes → List NodeView → View → ℕ → Type 0
HoldsTold z known v r = Holds (held_by z (store_at z known)) r ((told v.entries).tree r)

-- a step of the store keeps what is recalled
pub step_recalls : (z : Sizes) (words : List ℕ) (views : List NodeView) (l : Lock) (i : ℕ)
    (y : core.Step) (words' : List ℕ) (views' : List NodeView) (m : Lock)
    → StoreHolds z (state_of z words views l)
    → IsStoreStep z words views l i y words' views' m → Recalls z (store_at z views)
    → Recalls z (store_at z views')
step_recalls z words views l i y words' views' m holds step all =
    subst (λ (t : core.State). Recalls z t.view) (sym step.after)
    (recalls_kept z (state_of z words views l) i holds y step.in_place all)
