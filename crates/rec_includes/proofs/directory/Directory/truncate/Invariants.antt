use Rattle.rec_includes.proofs.Common.{◌≡◌, ℕ, List, length, take, nat_eq, lookup, bytes_eq, pointwise, text_of, place_in, PlacesRise}
use Rattle.rec_includes.proofs.Places.{below}
use Rattle.rec_includes.proofs.directory.Directory.truncate.Given as goal

abbrev pub invariant-loop-place : goal.invariant-loop-place
invariant-loop-place l =
    record {
      text : l.self-inside.text.now ≡ l.fn.self.bytes;
      names : l.self-inside.names.items ≡ take l.count l.fn.self.names;
      found : (q : List ℕ) → below l.count (lookup (λ k. pointwise nat_eq q k.items) l.self-inside.places.entries) ≡ below l.count (place_in (λ n. bytes_eq q (text_of l.fn.self.bytes n)) l.fn.self.names);
      rising : PlacesRise 0 (length l.fn.self.names) l.self-inside.places.entries;
    }

abbrev pub decreases-loop-place : goal.decreases-loop-place
decreases-loop-place l = length l.self-inside.places.entries
