use Rattle.std.specs.Prelude.{◌≡◌, ◌≤◌, ◌+◌}
use Rattle.term_create.specs.Stage.{IsAt, SameSeat, content, at_call, storing}
use Rattle.term_create.proofs.making.fill_row.Given as goal

abbrev pub invariant-loop-k : goal.invariant-loop-k
invariant-loop-k g l = record {
  at : IsAt l.asked l.seat.seat;
  same : SameSeat l.fn.seat.seat l.seat.seat l.fn.seat.number l.seat.number l.fn.seat.seats l.seat.seats;
  view : l.seat.seat.me.0 ≡ at_call l.fn.seat.seat.me.0 (storing (content l.asked) l.drawn.from l.drawn.index l.drawn.row l.k);
  cost : l.steps ≤ l.fn.steps + l.k;
}
