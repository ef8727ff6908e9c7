-- The material that is at hand while specifications are checked, and what it has.
use Rattle.std.specs.Prelude.{◌≡◌, ℕ, ◌+◌, ◌-◌, ◌^◌, List, [], ◌∷◌, ◌++◌, Option, Some, length, map, min, reverse, take, slice_get}
use Rattle.std.specs.Option.{option_map}
use Rattle.rec_reader.specs.declared.syntax_tree.Specification.{Specification}
use Rattle.rec_includes.specs.Material.{included, headers_of, material_of, symbols_by, symbols_of, sorts_of, rules_of}
use Rattle.rec_offences.specs.Scope.{own_entries}
use Rattle.rec_includes.specs.Listing.{listing}
use Rattle.rec_offences.specs.Known.{known}
use Rattle.rec_includes.specs.Numbered.{IsClosed}
use Rattle.rec_offences.specs.Faults.{included_entries}
use Rattle.rec_offences.specs.declared.inclusion.Extent.{Extent}
use Rattle.rec_offences.specs.declared.inclusion.Level.{Level}
use Rattle.rec_offences.specs.declared.inclusion.Inclusion.{Inclusion}

-- counted as far as a number goes
abbrev pub counted : ℕ → ℕ
counted n = min n (2 ^ 64 - 1)

-- what is at hand is what the material has, and it has all of the material of each that it has
pub record IsInclusion (bytes : List ℕ) (specifications : List Specification) (i : Inclusion) : Type 0 where
  pub scope : i.scope ≡ known bytes (included_entries specifications i.material.keys)
  pub sorts : i.sorts ≡ listing bytes (sorts_of specifications i.material.keys)
  pub rules : i.rules ≡ counted (length (rules_of specifications i.material.keys))
  pub closed : IsClosed bytes specifications i.material.keys

-- how much a material has
abbrev pub extent_of : List Specification → List ℕ → Extent
extent_of specifications material =
    record {
      material = length material;
      symbols = length (symbols_of specifications material);
      sorts = length (sorts_of specifications material);
      rules = counted (length (rules_of specifications material));
    }

-- one list is the front of another
abbrev pub IsFront : List ℕ → List ℕ → Type 0
IsFront front whole = take (length front) whole ≡ front

-- the material of the last of these levels, or what comes before them all
abbrev pub last_material : List ℕ → List Specification → (before : List ℕ) → List Level → List ℕ
last_material bytes specifications before [] = before
last_material bytes specifications before (l ∷ ls) = last_material bytes specifications (material_of bytes specifications l.number) ls

-- the material of a level begins with this one, and its extent is how much it has
pub record IsOn (bytes : List ℕ) (specifications : List Specification) (before : List ℕ) (l : Level) : Type 0 where
  pub front : IsFront before (material_of bytes specifications l.number)
  pub extent : l.extent ≡ extent_of specifications (material_of bytes specifications l.number)

-- each level goes on from the one before
abbrev pub AreLevels : List ℕ → List Specification → (before : List ℕ) → List Level → Type 0
AreLevels bytes specifications before [] = Unit {0}
AreLevels bytes specifications before (l ∷ ls) = IsOn bytes specifications before l × AreLevels bytes specifications (material_of bytes specifications l.number) ls

-- the material at hand is that of the last level
pub record IsAtLevel (bytes : List ℕ) (specifications : List Specification) (i : Inclusion) : Type 0 where
  pub inclusion : IsInclusion bytes specifications i
  pub levels : AreLevels bytes specifications [] i.levels.items
  pub material : i.material.keys ≡ last_material bytes specifications [] i.levels.items

-- the material at hand goes on from that of the last level
pub record IsPastLevel (bytes : List ℕ) (specifications : List Specification) (i : Inclusion) : Type 0 where
  pub inclusion : IsInclusion bytes specifications i
  pub levels : AreLevels bytes specifications [] i.levels.items
  pub front : IsFront (last_material bytes specifications [] i.levels.items) i.material.keys

-- the numbers of levels, the last first
abbrev pub path_of : List Level → List ℕ
path_of levels = reverse (map (λ l. l.number) levels)

-- the number of the last level
abbrev pub last_number : List Level → Option ℕ
last_number levels = option_map (λ l. l.number) (slice_get levels (length levels - 1))

-- A specification after its own names were declared: at hand is its material without itself, with the names and
-- sorts of that material and then its own; `count` of the names are symbols.
pub record IsDeclared (bytes : List ℕ) (specifications : List Specification) (number : ℕ) (s : Specification) (count : ℕ) (i : Inclusion) : Type 0 where
  pub is : slice_get specifications number ≡ Some s
  pub material : i.material.keys ≡ included bytes (headers_of bytes (take number specifications)) s.includes
  pub scope : i.scope ≡ known bytes (included_entries specifications i.material.keys ++ own_entries s)
  pub sorts : i.sorts ≡ listing bytes (sorts_of specifications i.material.keys ++ s.sorts)
  pub rules : i.rules ≡ counted (length (rules_of specifications i.material.keys))
  pub levels : AreLevels bytes specifications [] i.levels.items
  pub front : IsFront (last_material bytes specifications [] i.levels.items) i.material.keys
  pub symbols : count ≡ length (symbols_of specifications i.material.keys) + length (symbols_by s)
