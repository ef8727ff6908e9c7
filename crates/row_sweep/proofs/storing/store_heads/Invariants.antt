use Rattle.std.specs.Prelude.{◌≡◌, ℕ, ◌<◌, ◌≤◌, false, get_or}
use Rattle.store_model.specs.declared.view.Place.{Place}
use Rattle.store_model.specs.declared.view.Place.TheVariants.{Bucket}
use Rattle.row_sweep.specs.Compared.{told_by}
use Rattle.row_sweep.specs.Stored.{Stores, StoresMore, seen_of, is_head}
use Rattle.row_sweep.proofs.storing.store_heads.Given as goal

abbrev pub invariant-loop-b : goal.invariant-loop-b
invariant-loop-b l = record {
  at : Stores l.sweep l.seat.seat l.seat.number l.seat.seats;
  more : StoresMore l.fn.seat.seat l.fn.seat.number l.fn.seat.seats l.seat.seat l.seat.number l.seat.seats;
  heads : (b : ℕ) → b < l.b → seen_of l.seat.seat (Bucket b) ≡ told_by (seen_of l.fn.seat.seat (Bucket b)) (get_or l.heads b 0);
  rest : (b : ℕ) → l.b ≤ b → seen_of l.seat.seat (Bucket b) ≡ seen_of l.fn.seat.seat (Bucket b);
  others : (p : Place) → is_head l.in_use p ≡ false → seen_of l.seat.seat p ≡ seen_of l.fn.seat.seat p;
}
