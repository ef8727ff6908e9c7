-- Names in order, and the places of texts among them.
use Rattle.std.specs.Prelude.{ℕ, suc, List, [], ◌∷◌, ◌++◌, map, Bool, Option, Some, None, if◌then◌else◌}
use Rattle.std.specs.Option.{option_map}
use Rattle.rec_reader.specs.declared.token.Name.{Name}
use Rattle.std.specs.Str.{bytes_eq}
use Rattle.rec_includes.specs.Names.{same_text, text_of, is_among}

-- names of these bytes
pub record Listing : Type 0 where
  pub bytes : List ℕ
  pub names : List Name

abbrev pub listing : List ℕ → List Name → Listing
listing bytes names = record { bytes = bytes; names = names }

-- the texts of names, in order
abbrev pub texts : Listing → List (List ℕ)
texts l = map (λ n. text_of l.bytes n) l.names

-- names with one more at the end, unless one with its text is there
abbrev pub with_new : Listing → Name → Listing
with_new l n = if is_among l.bytes l.names n then l else listing l.bytes (l.names ++ n ∷ [])

-- the place of the first that passes a test
abbrev pub place_in : {A : Type 0} → (A → Bool) → List A → Option ℕ
place_in test [] = None
place_in test (x ∷ xs) = if test x then Some 0 else option_map suc (place_in test xs)

-- the place of the first name with this text
abbrev pub place_of_text : Listing → List ℕ → Option ℕ
place_of_text l text = place_in (λ n. bytes_eq text (text_of l.bytes n)) l.names

-- the place of the first name with the same text
abbrev pub place_of : Listing → Name → Option ℕ
place_of l n = place_in (same_text l.bytes n) l.names
