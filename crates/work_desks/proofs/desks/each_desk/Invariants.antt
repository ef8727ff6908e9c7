use Rattle.std.proofs.Common.{◌≡◌, ◌≤◌, length}
use Rattle.std.specs.Prelude.{vec_len, vec_capacity}
use Rattle.busy_forbidden.specs.Dealt.{EachPlace}
use Rattle.work_desks.specs.NewDesks.{IsNewDesk}
use Rattle.work_desks.proofs.desks.each_desk.Given as goal

abbrev pub invariant-loop-pass : goal.invariant-loop-pass
invariant-loop-pass g l =
    EachPlace (IsNewDesk l.store) (length l.yielded) l.desks.items × (vec_len l.desks ≡ length l.yielded) × (vec_len l.fn.passes ≤ vec_capacity l.desks)
