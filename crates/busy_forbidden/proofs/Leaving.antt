-- What a rule adds to a view is left by the steps of the lock, and so by each entry.
use Rattle.std.proofs.Common.{◌≡◌, ℕ, ◌∷◌, [], ◌++◌, Result, Ok, Err, refl, sym, ◌∙◌, subst}
use Rattle.lock_core.specs.declared.parts.LockStep.{LockStep}
use Rattle.lock_core.specs.declared.parts.LockStep.TheVariants.{Take}
use Rattle.busy_forbidden.specs.declared.rule.Busy.{Busy}
use Rattle.busy_forbidden.specs.declared.rule.Busy.TheVariants.{Forbidden, Mutex, Seat}
use Rattle.busy_forbidden.specs.Calls.{LeavesMore, run}
use Rattle.busy_forbidden.specs.Entries.{Steps, entered, turned_away, took_after, waits, TriesShared, EntersShared}
use Rattle.busy_forbidden.specs.Exclusive.{TriesExclusive, EntersExclusive, asked_below, refused_at}

module _ {V M : Type 0} (more : V → M) (away : V → Type 0) (next : LockStep → ℕ → V → V) (leaves : (v : V) (x : LockStep) (n : ℕ) → LeavesMore more away v (next x n v)) where
  pub leaves_run : (xs : Steps) (v : V) → LeavesMore more away v (run next xs v)
  leaves_run [] v h = (h, refl)
  leaves_run (x ∷ xs) v h =
      let one = leaves v x.0 x.1 h in
      let all = leaves_run xs (next x.0 x.1 v) one.0 in
      (all.0, all.1 ∙ one.1)

  leaves_to : (xs : Steps) (v w : V) → w ≡ run next xs v → LeavesMore more away v w
  leaves_to xs v w e = subst (LeavesMore more away v) (sym e) (leaves_run xs v)

  pub tries_shared_leaves : (v w : V) (r : Result (Unit {0}) Busy) → TriesShared next v w r → LeavesMore more away v w
  tries_shared_leaves v w (Ok u) t = leaves_to entered v w t
  tries_shared_leaves v w (Err b) t = leaves_to (turned_away t.1.0) v w t.1.2

  pub enters_shared_leaves : (v w : V) → EntersShared next v w → LeavesMore more away v w
  enters_shared_leaves v w t = leaves_to (waits t.rounds ++ entered) v w t.view

  pub tries_exclusive_leaves : (i n : ℕ) (v w : V) (r : Result (Unit {0}) Busy) → TriesExclusive next i n v w r → LeavesMore more away v w
  tries_exclusive_leaves i n v w (Ok u) t = leaves_to ((Take, 0) ∷ asked_below i n) v w t
  tries_exclusive_leaves i n v w (Err Forbidden) t = absurd t
  tries_exclusive_leaves i n v w (Err Mutex) t = leaves_to ((Take, t.0) ∷ []) v w t.2
  tries_exclusive_leaves i n v w (Err (Seat j)) t = leaves_to (refused_at i j t.0) v w t.4

  pub enters_exclusive_leaves : (i n : ℕ) (v w : V) → EntersExclusive next i n v w → LeavesMore more away v w
  enters_exclusive_leaves i n v w t = leaves_to (took_after t.held ++ t.asks) v w t.view
