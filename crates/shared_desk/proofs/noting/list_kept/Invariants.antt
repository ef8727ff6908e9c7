use Rattle.std.proofs.Common.{◌≡◌}
use Rattle.history_core.specs.Entry.{IsAscending}
use Rattle.node_rows.specs.Rows.{names}
use Rattle.node_rows.specs.Crowding.{kept_in}
use Rattle.shared_desk.specs.Logged.{below}
use Rattle.shared_desk.proofs.noting.list_kept.Given as goal

abbrev pub invariant-loop-number : goal.invariant-loop-number
invariant-loop-number g l =
    IsAscending (kept_in (g.S.SharedPass.view l.pass).entries)
    → names l.kept.items ≡ below l.number (kept_in (g.S.SharedPass.view l.pass).entries)
