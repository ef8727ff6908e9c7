use Rattle.std.specs.Prelude.{◌≡◌, ℕ, ◌<◌, ◌≤◌, false, get_or}
use Rattle.store_model.specs.declared.view.Place.{Place}
use Rattle.store_model.specs.declared.view.Place.TheVariants.{Next}
use Rattle.store_model.specs.Marks.{IsMarked}
use Rattle.row_sweep.specs.Compared.{told_by}
use Rattle.row_sweep.specs.Stored.{Stores, StoresMore, seen_of, is_next}
use Rattle.row_sweep.proofs.storing.store_nexts.Given as goal

abbrev pub invariant-loop-row : goal.invariant-loop-row
invariant-loop-row l = record {
  at : Stores l.sweep l.seat.seat l.seat.number l.seat.seats;
  more : StoresMore l.fn.seat.seat l.fn.seat.number l.fn.seat.seats l.seat.seat l.seat.number l.seat.seats;
  nexts : (r : ℕ) → r < l.row → IsMarked l.marks r → seen_of l.seat.seat (Next r) ≡ told_by (seen_of l.fn.seat.seat (Next r)) (get_or l.nexts r 0);
  rest : (r : ℕ) → l.row ≤ r → seen_of l.seat.seat (Next r) ≡ seen_of l.fn.seat.seat (Next r);
  others : (p : Place) → is_next p ≡ false → seen_of l.seat.seat p ≡ seen_of l.fn.seat.seat p;
}
