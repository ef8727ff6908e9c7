-- What names are declared as, by their places.
use Rattle.rec_offences.proofs.Common.{nat_tests, arith, ◌≡◌, ℕ, List, [], ◌∷◌, slice_get, refl, option_and_then, Name, same_text, place_in, Entry, names_of, look_up, common_steps}

-- what a name is declared as stands at its place
pub found_at : (bytes : List ℕ) (entries : List Entry) (n : Name) → look_up bytes entries n ≡ option_and_then (slice_get entries) (place_in (same_text bytes n) (names_of entries))
found_at bytes [] n = refl
found_at bytes (e ∷ es) n = grind (arith, nat_tests, found_at bytes es n)

-- looking up a name
pub ruleset looking_up = (common_steps, found_at)
