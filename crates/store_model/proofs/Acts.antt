-- The acts of a creation are its actions.
use Rattle.std.proofs.Common.{◌≡◌, ℕ, refl}
use Rattle.store_model.specs.Calls.{Call, Idle, View}
use Rattle.store_model.specs.Machine.{action}
use Rattle.store_model.specs.StoreSteps.{act}
use Rattle.store_model.specs.Laws.{act_place, act_written, ActsAreActions}

act_places : (v : View) (x : Call) → act_place (act v x) ≡ (action v x).place
act_places v Idle = refl
act_places v x = refl

act_writes : (v : View) (x : Call) (n : ℕ) → act_written (act v x) n ≡ (action v x).written n
act_writes v Idle n = refl
act_writes v x n = refl

pub acts_are_actions : ActsAreActions
acts_are_actions v x = (act_places v x, act_writes v x)
