-- The texts of names.
use Rattle.std.specs.Prelude.{ℕ, List, Bool, slice_range}
use Rattle.std.specs.List.{list_any}
use Rattle.std.specs.Str.{bytes_eq}
use Rattle.rec_reader.specs.declared.token.Name.{Name}

-- the bytes of the input from where the name starts up to where it ends
abbrev pub text_of : List ℕ → Name → List ℕ
text_of bytes n = slice_range bytes n.start n.end

-- two names have the same text
abbrev pub same_text : List ℕ → Name → Name → Bool
same_text bytes a b = bytes_eq (text_of bytes a) (text_of bytes b)

-- one of these names has its text
abbrev pub is_among : List ℕ → List Name → Name → Bool
is_among bytes names n = list_any (same_text bytes n) names
