use Rattle.std.proofs.Common.{◌≡◌, length}
use Rattle.std.specs.Prelude.{vec_len, vec_capacity}
use Rattle.busy_forbidden.specs.Dealt.{EachPlace}
use Rattle.work_desks.specs.NewDesks.{IsBackAt}
use Rattle.work_desks.proofs.desks.passes_of.Given as goal

abbrev pub invariant-loop-desk : goal.invariant-loop-desk
invariant-loop-desk g l =
    EachPlace (IsBackAt l.fn.desks.items) (length l.yielded) l.passes.items
    × (vec_len l.passes ≡ length l.yielded) × (vec_capacity l.passes ≡ vec_capacity l.fn.room)
