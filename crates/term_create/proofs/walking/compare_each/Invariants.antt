use Rattle.std.specs.Prelude.{◌≡◌, ◌≤◌, ◌+◌}
use Rattle.term_create.specs.Stage.{IsAt, SameSeat, content, at_call, stage}
use Rattle.term_create.proofs.walking.compare_each.Given as goal

abbrev pub invariant-loop-j : goal.invariant-loop-j
invariant-loop-j g l = record {
  at : IsAt l.asked l.seat.seat;
  same : SameSeat l.fn.seat.seat l.seat.seat l.fn.seat.number l.seat.number l.fn.seat.seats l.seat.seats;
  view : l.seat.seat.me.0 ≡ at_call l.fn.seat.seat.me.0 (stage (content l.asked) l.walk.drawn l.walk.from l.walk.old l.at (l.j + 2));
  cost : l.steps ≤ l.fn.steps + l.j;
}
