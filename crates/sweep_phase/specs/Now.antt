-- A collection in an access of its own.
use Rattle.std.specs.Prelude.{◌≡◌, ℕ, ◌≤◌, Result, Ok, Err}
use Rattle.store_model.specs.declared.view.Sizes.{Sizes}
use Rattle.store_model.specs.declared.view.View.{View}
use Rattle.store_model.specs.Machine.{based, ready, left, protected_in}
use Rattle.busy_forbidden.specs.Exclusive.{ShowsExclusive}
use Rattle.node_rows.specs.declared.view.NodeView.{NodeView}
use Rattle.node_rows.specs.Passes.{Stayed}
use Rattle.row_sweep.specs.declared.sweep.Kept.{Kept}
use Rattle.row_sweep.specs.declared.sweep.Worn.{Worn}
use Rattle.sweep_phase.specs.declared.now.TryCollect.{TryCollect}
use Rattle.sweep_phase.specs.declared.now.TryCollect.TheVariants as try
use Rattle.row_sweep.specs.Gathered.{IsWorn}
use Rattle.row_sweep.specs.Collected.{Collects}

-- A collection was noted, and then Roots, with the rows that the pass protects.
pub record CollectsNow (z : Sizes) (i : ℕ) (v w : View) (live buckets : ℕ) : Type 0 where
  pub after : View
  pub collects : Collects z i v after live buckets
  pub left : w ≡ left after (protected_in after)

-- It was worn, and Roots was noted alone.
pub record IsWornNow (z : Sizes) (i : ℕ) (v w : View) : Type 0 where
  pub worn : IsWorn z i v
  pub left : w ≡ left v (protected_in v)

-- what a collection and a leave of seat i make of the view v in an exclusive access
abbrev pub Leaves : Sizes → ℕ → View → View → Result Kept Worn → Type 0
Leaves z i v w (Ok kept) = CollectsNow z i v w kept.live kept.buckets
Leaves z i v w (Err worn) = IsWornNow z i v w

-- The entry was granted: it loaded a base, at least the last one, and the buckets in use, and then
-- P holds.
pub record Enters (v : View) (P : View → Type 0) : Type 0 where
  pub base : ℕ
  pub in_use : ℕ
  pub later : v.base ≤ base
  pub after_it : P (ready (based v base) in_use)

-- what seat i, one of n, knows after each answer: refused, it read that word as set or held
abbrev pub Answers : Sizes → (i n : ℕ) → NodeView → NodeView → Result Kept TryCollect → Type 0
Answers z i n v w (Ok kept) = Enters v.store (λ u. CollectsNow z i u w.store kept.live kept.buckets)
Answers z i n v w (Err (try.Busy b)) = ShowsExclusive i n v.lock w.lock (Err b) × Stayed v w
Answers z i n v w (Err try.Worn) = Enters v.store (λ u. IsWornNow z i u w.store)
