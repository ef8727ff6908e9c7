-- When the numbers of the store for some work may be used up.
use Rattle.std.specs.Prelude.{◌+◌, ◌*◌, ◌^◌, ◌≤◌, List, length}
use Rattle.term_model.specs.Tree.{Tree}
use Rattle.rewrite_model.specs.Rule.{Rule}
use Rattle.settings.specs.declared.parts.Settings.{Settings}
use Rattle.work_order.specs.Works.{built_of}

-- The numbers end at 2^62, and there may be so many collections that those don't suffice: one for
-- each tree that the terms build, and for each worker one more; each, and two more, may use as many
-- numbers as there are rows and workers, and one.
abbrev pub WearsOut : Settings → List Rule → List Tree → Type 0
WearsOut s rules terms =
    2 ^ 62 ≤ (length (built_of s rules terms) + s.workers + 2) * (s.rows + s.workers + 1)
