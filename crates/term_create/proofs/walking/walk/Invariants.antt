use Rattle.std.specs.Prelude.{◌≡◌}
use Rattle.term_create.specs.Counted.{Takes}
use Rattle.term_create.specs.Stage.{IsAt, SameSeat, HasWalked, content}
use Rattle.term_create.proofs.walking.walk.Given as goal

abbrev pub invariant-loop-step : goal.invariant-loop-step
invariant-loop-step g l = record {
  at : IsAt l.asked l.seat.seat;
  same : SameSeat l.fn.seat.seat l.seat.seat l.fn.seat.number l.seat.number l.fn.seat.seats l.seat.seats;
  view : HasWalked l.fn.seat.seat.me.0 l.seat.seat.me.0 (content l.asked) l.walk.drawn l.walk.from l.walk.old l.at l._step;
  first : l._step ≡ 0 → l.at ≡ l.walk.from;
  cost : Takes l.asked.store.now.sizes 0 l.fn.seat.seat.me.0.store.passed l.seat.seat.me.0.store.passed l.fn.steps l.steps;
}
