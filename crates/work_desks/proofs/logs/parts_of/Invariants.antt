use Rattle.std.proofs.Common.{◌≡◌, ◌++◌, length, map}
use Rattle.std.specs.Prelude.{vec_len, vec_capacity, IfSome}
use Rattle.busy_forbidden.specs.Dealt.{EachPlace}
use Rattle.log_text.specs.Lines.{callers_from}
use Rattle.work_desks.specs.NewDesks.{IsBackAt}
use Rattle.work_desks.proofs.Logging.{entries_of_desk}
use Rattle.work_desks.proofs.logs.parts_of.Given as goal

abbrev pub invariant-loop-desk : goal.invariant-loop-desk
invariant-loop-desk g l = record {
  back : EachPlace (IsBackAt l.fn.desks.items) (length l.yielded) l.passes.items;
  len : vec_len l.passes ≡ length l.yielded;
  capacity : vec_capacity l.passes ≡ vec_capacity l.fn.room;
  counted : l.caller ≡ length l.yielded;
  log : IfSome l.whole (λ text. text ≡ l.fn.log ++ callers_from 0 (map entries_of_desk l.yielded));
}
