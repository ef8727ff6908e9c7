-- What a worker has, and what it leaves of its desk.
use Rattle.std.specs.Prelude.{◌≡◌, ℕ, ◌≤◌, List, Result, Ok, Err, max, nat_lt, Option, Some}
use Rattle.terms_api.specs.Terms.{Store}
use Rattle.rewrite_model.specs.Rule.{Rule}
use Rattle.rule_match.specs.Planned.{Planned}
use Rattle.innermost.specs.Machines.{IsFor}
use Rattle.innermost.specs.Remembered.{Map}
use Rattle.settings.specs.declared.parts.Settings.{Settings}
use Rattle.term_lines.specs.Written.{MayRecall, SweepsMore}
use Rattle.term_lines.specs.declared.rewriter.Rewriter.{Rewriter}
use Rattle.line_ends.specs.declared.stop.LineStop.{LineStop}
use Rattle.work_order.specs.Works.{strategy_of, is_traced, IsInnermost, remembers_results}
use Rattle.line_ends.specs.declared.stop.LineStop.TheVariants as stop

-- a rewriter of a plan, with the strategy of the settings' command, their fuel, depth and rows, and
-- what they ask to be told
pub record IsRewriterOf (s : Settings) (plan : Planned) (rewriter : Rewriter) : Type 0 where
  pub machine : IsFor plan rewriter.machine
  pub strategy : rewriter.strategy ≡ strategy_of s.command
  pub depth : rewriter.machine.depth ≡ s.depth
  pub rows : rewriter.marks ≡ s.rows
  pub fuel : rewriter.fuel ≡ s.fuel
  pub sizes : rewriter.sizes ≡ s.sizes
  pub traced : rewriter.traced ≡ is_traced s plan.rules
  pub remembers : rewriter.remembers ≡ nat_lt 0 s.cache

-- What a worker remembers of a desk that nobody is inside: where results are remembered each is
-- right, and where the epoch is known it is that of the desk.
pub record Recalls (s : Settings) (rules : List Rule) (desk : Store) (map : Map)
    (epoch : Option ℕ) : Type 0 where
  pub right : MayRecall (remembers_results s rules) rules desk map
  pub epoch_is : (n : ℕ) → epoch ≡ Some n → desk.epoch ≡ Some n

-- how much more often than it built trees a desk may have collected: once, where it refused one
abbrev pub more_sweeps : {A : Type 0} → Result A LineStop → ℕ
more_sweeps (Ok _) = 0
more_sweeps (Err stop.StoreFull) = 1
more_sweeps (Err stop.Worn) = 1
more_sweeps (Err stop.Memory) = 0

-- The numbers of a desk stay. It collected so often, and where terms are rewritten innermost no
-- more was protected at once than a term needs.
pub record WorksOn {A : Type 0} (s : Settings) (needed : ℕ) (old new : Store)
    (result : Result A LineStop) : Type 0 where
  pub rows : new.rows ≡ old.rows
  pub widest : new.widest ≡ old.widest
  pub room : new.room ≡ old.room
  pub least_sweeps : old.sweeps ≤ new.sweeps
  pub most_sweeps : SweepsMore old new (more_sweeps result)
  pub least_load : old.load ≤ new.load
  pub most_load : IsInnermost s → new.load ≤ max old.load needed
