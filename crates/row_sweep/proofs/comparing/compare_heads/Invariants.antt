use Rattle.std.specs.Prelude.{◌≡◌, ℕ, ◌<◌, ◌≤◌, length, get_or}
use Rattle.store_model.specs.declared.view.Place.TheVariants.{Bucket}
use Rattle.row_sweep.specs.Gathered.{words_of, HasGathered, LoadsAgain}
use Rattle.row_sweep.specs.Compared.{told_by}
use Rattle.row_sweep.proofs.comparing.compare_heads.Given as goal

abbrev pub invariant-loop-b : goal.invariant-loop-b
invariant-loop-b l = record {
  at : HasGathered l.sweep l.seat.seat l.seat.number l.seat.seats;
  again : LoadsAgain l.sweep l.fn.seat.seat l.fn.seat.number l.fn.seat.seats l.seat.seat l.seat.number l.seat.seats;
  tells : (b : ℕ) → b < l.b → told_by (words_of l.fn.seat.seat (Bucket b)) (get_or l.heads b 0) ≡ get_or l.fn.heads b 0;
  rest : (b : ℕ) → l.b ≤ b → get_or l.heads b 0 ≡ get_or l.fn.heads b 0;
  size : length l.heads ≡ length l.fn.heads;
}
