-- Specifications by their numbers: what the entries of each include.
use Rattle.std.specs.Prelude.{◌≡◌, ℕ, List, [], ◌∷◌, true, Option, None, nat_eq, map, take, slice_get}
use Rattle.std.specs.List.{list_any}
use Rattle.std.specs.Option.{option_map_or, option_or}
use Rattle.rec_reader.specs.declared.token.Name.{Name}
use Rattle.rec_reader.specs.declared.syntax_tree.Specification.{Specification}
use Rattle.rec_includes.specs.Names.{same_text}
use Rattle.rec_includes.specs.Material.{fresh, material_of}
use Rattle.rec_reader.specs.Parsed.{Parsed}
use Rattle.rec_includes.specs.Listing.{Listing, listing, place_in}

-- the entries of the specification with this number
abbrev pub includes_at : List Specification → ℕ → List Name
includes_at specifications number = option_map_or (λ s. s.includes) (slice_get specifications number) []

abbrev pub header_names : List Specification → List Name
header_names specifications = map (λ s. s.name) specifications

-- the names of a syntax's headers
abbrev pub headers_in : Parsed → Listing
headers_in s = listing s.bytes (header_names s.specifications)

-- the specification that an entry of the one with this number includes: the first of those before it that has the
-- entry's name
abbrev pub target : (bytes : List ℕ) (headers : List Name) → ℕ → Name → Option ℕ
target bytes headers number entry = place_in (same_text bytes entry) (take number headers)

-- the first specification that these entries include
abbrev pub first_target : (bytes : List ℕ) (headers : List Name) → ℕ → List Name → Option ℕ
first_target bytes headers number [] = None
first_target bytes headers number (n ∷ ns) = option_or (target bytes headers number n) (first_target bytes headers number ns)

-- it has all of the material of each specification that it has
pub record IsClosed (bytes : List ℕ) (specifications : List Specification) (material : List ℕ) : Type 0 where
  pub whole : (n : ℕ) → list_any (nat_eq n) material ≡ true → fresh material (material_of bytes specifications n) ≡ []
