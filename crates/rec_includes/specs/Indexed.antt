-- Names as they are kept: beside them the place of the first with each text.
use Rattle.std.specs.Prelude.{◌≡◌, ℕ, suc, ◌≤◌, List, [], ◌∷◌, length, nat_eq}
use Rattle.std.specs.Str.{bytes_eq}
use Rattle.std.specs.Global.{Vec}
use Rattle.std.specs.Map.{lookup}
use Rattle.std.specs.Cmp.Lexicographic.{pointwise}
use Rattle.rec_includes.specs.Names.{text_of}
use Rattle.rec_includes.specs.Listing.{Listing, listing, place_in}
use Rattle.rec_includes.specs.declared.directory.Directory.TheInside.{Inside}

-- the places of entries rise from one on, and end before another
abbrev pub PlacesRise : (from to : ℕ) → List (Vec ℕ × ℕ) → Type 0
PlacesRise from to [] = from ≤ to
PlacesRise from to (e ∷ es) = (from ≤ e.1) × PlacesRise (suc e.1) to es

-- a text is looked up at the place of the first name that has it, and entries stand in the order of their places
pub record IsIndexed (d : Inside) : Type 0 where
  pub places : (q : List ℕ) → lookup (λ k. pointwise nat_eq q k.items) d.places.entries ≡ place_in (λ n. bytes_eq q (text_of d.text.now n)) d.names.items
  pub rising : PlacesRise 0 (length d.names.items) d.places.entries

abbrev pub shown : Inside → Listing
shown d = listing d.text.now d.names.items
