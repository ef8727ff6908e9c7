use Rattle.std.specs.Prelude.{◌≡◌, ℕ, ◌+◌, ◌*◌, ◌≤◌, List}
use Rattle.store_model.specs.declared.view.Passed.{Passed}
use Rattle.store_model.specs.declared.view.Call.TheVariants.{Linking}
use Rattle.term_create.specs.Counted.{Takes}
use Rattle.term_create.specs.Stage.{IsAt, SameSeat, content, at_walk}
use Rattle.term_create.proofs.making.publish_row.Given as goal

abbrev pub invariant-loop-step : goal.invariant-loop-step
invariant-loop-step g l = record {
  at : IsAt l.asked l.seat.seat;
  same : SameSeat l.fn.seat.seat l.seat.seat l.fn.seat.number l.seat.number l.fn.seat.seats l.seat.seats;
  view : (n : ℕ) × (ps : List Passed) × (l.fn.seat.seat.me.0.store.passed + l._step ≤ n) × (l.seat.seat.me.0 ≡ at_walk l.fn.seat.seat.me.0 n ps (Linking (content l.asked) l.head_read l.drawn.index l.drawn.row));
  cost : Takes l.asked.store.now.sizes (2 * l._step) l.fn.seat.seat.me.0.store.passed l.seat.seat.me.0.store.passed l.fn.steps l.steps;
}
