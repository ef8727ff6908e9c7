use Rattle.std.proofs.Common.{◌≡◌, ℕ, ◌<◌, ◌≤◌}
use Rattle.store_model.specs.Shown.{shown}
use Rattle.store_model.specs.declared.view.Place.TheVariants.{Bucket}
use Rattle.store_core.proofs.machine.marked_chains.buckets_in_use.Given as goal

abbrev pub invariant-loop-number : goal.invariant-loop-number
invariant-loop-number l = (b : ℕ) → l.in_use ≤ b → b < l.number → shown l.table.sizes l.table.words.items (Bucket b) ≡ 0
