-- The desks of workers, before and after the terms are rewritten.
use Rattle.std.specs.Prelude.{◌≡◌, ℕ, ◌+◌, ◌≤◌, List, [], Some, false, max, length, slice_get}
use Rattle.terms_api.specs.Terms.{Store}
use Rattle.rule_match.specs.Planned.{Planned}
use Rattle.settings.specs.declared.parts.Settings.{Settings}
use Rattle.work_order.specs.Works.{IsInnermost}

-- Nobody is inside, the stack is empty, and there are the places of the settings, no more rows than
-- they have, and the plan's width.
pub record IsReady (s : Settings) (plan : Planned) (desk : Store) : Type 0 where
  pub outside : desk.inside ≡ false
  pub empty : desk.stack ≡ []
  pub rows : desk.rows ≤ s.rows
  pub room : s.depth ≤ desk.room
  pub width : plan.widest ≤ desk.widest

-- of as many desks as before, each keeps this to what it was
abbrev pub EachDesk : {D : Type 0} → (ℕ → D → D → Type 0) → List D → List D → Type 0
EachDesk {D} P olds news = (length news ≡ length olds)
    × ((k : ℕ) (old new : D) → slice_get olds k ≡ Some old → slice_get news k ≡ Some new
    → P k old new)

-- What a desk keeps, whatever the answer is: its numbers. It collected at most once more than it
-- built trees, and where terms are rewritten innermost no more was protected at once than a term
-- needs.
pub record KeepsDesk (s : Settings) (needed : ℕ) (old new : Store) : Type 0 where
  pub rows : new.rows ≡ old.rows
  pub widest : new.widest ≡ old.widest
  pub room : new.room ≡ old.room
  pub least_sweeps : old.sweeps ≤ new.sweeps
  pub most_sweeps : new.sweeps + length old.built ≤ old.sweeps + length new.built + 1
  pub least_load : old.load ≤ new.load
  pub most_load : IsInnermost s → new.load ≤ max old.load needed
  pub refusals : old.refusals ≤ new.refusals
