-- Which bytes a name has.
use Rattle.std.specs.Prelude.{ℕ, Bool, ◌&&◌, ◌||◌, ◌==◌, nat_le, codes}
use Rattle.std.specs.Char.{is_ascii_alphabetic, is_ascii_alphanumeric}
use Rattle.std.specs.List.{list_any}

-- a plain name begins with a letter or an underscore
abbrev pub begins_name : ℕ → Bool
begins_name b = is_ascii_alphabetic b || b == 95

-- and goes on with letters, digits and four other bytes
abbrev pub continues_name : ℕ → Bool
continues_name b = is_ascii_alphanumeric b || list_any (λ c. c == b) (codes "_'.-")

-- the bytes that may stand in quotes: from space to tilde
abbrev pub is_printable : ℕ → Bool
is_printable b = nat_le 32 b && nat_le b 126
