-- The worked runs, computed.
use Rattle.std.proofs.Common.{refl}
use Rattle.hash_buckets.specs.Hash.{hash_of, bucket_of}
use Rattle.store_model.specs.Worked.{RaceFinds, LostMakes, SweepKeeps, SweepFrees, MustFree, NestKeeps, UseDoubles, WornAtLast}
use Rattle.store_model.proofs.WorkedPlaced.{not_unless_freed, nest_placed}

pub race_finds : RaceFinds
unfolding hash_of bucket_of
race_finds = record { winner = refl; loser = refl }

pub lost_makes : LostMakes
unfolding hash_of bucket_of
lost_makes = record { winner = refl; loser = refl }

pub sweep_keeps : SweepKeeps
unfolding hash_of bucket_of
sweep_keeps = record { collector = refl; other = refl }

pub sweep_frees : SweepFrees
unfolding hash_of bucket_of
sweep_frees = record {
  claim = refl;
  count = refl;
  first_place = refl;
  second_place = refl;
  head = refl;
  next = refl;
  end = refl;
  names = refl;
  again = refl;
  drawn = refl;
}

pub must_free : MustFree
unfolding hash_of bucket_of
must_free = record { names = refl; no_end = not_unless_freed }

pub nest_keeps : NestKeeps
unfolding hash_of bucket_of
nest_keeps = record { rows = refl; words = refl; placed = nest_placed }

pub use_doubles : UseDoubles
use_doubles = record { first = refl; second = refl; third = refl }

pub worn_at_last : WornAtLast
unfolding hash_of bucket_of
worn_at_last = record { at_once = refl; none = refl; once = refl; then_worn = refl }
