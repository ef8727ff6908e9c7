-- Lines, words and numbers of a text.
use Rattle.std.specs.Prelude.{◌≢◌, ◌<◌, length, slice_index, min, ℕ, ◌+◌, ◌-◌, ◌*◌, ◌^◌, List, [], ◌∷◌, Option, Some, None, Bool, true, false, not, ◌&&◌, ◌==◌, nat_le, if◌then◌else◌}
use Rattle.std.specs.List.{list_all}

-- a byte at the front of the first piece, or a piece of its own where there is none
abbrev pub before_first : ℕ → List (List ℕ) → List (List ℕ)
before_first b [] = (b ∷ []) ∷ []
before_first b (piece ∷ rest) = (b ∷ piece) ∷ rest

-- the lines of a text: each ends with a line feed, and the last may end with the text
abbrev pub lines : List ℕ → List (List ℕ)
lines [] = []
lines (b ∷ bs) = if b == 10 then [] ∷ lines bs else before_first b (lines bs)

-- the words of a line: what stands before, between and after its spaces
abbrev pub words : List ℕ → List (List ℕ)
words [] = [] ∷ []
words (b ∷ bs) = if b == 32 then [] ∷ words bs else before_first b (words bs)

-- the words after a space, of which there are none at the end of a line
abbrev pub words_after : List ℕ → List (List ℕ)
words_after [] = []
words_after (b ∷ bs) = words bs

-- no byte is b
abbrev pub Lacks : ℕ → List ℕ → Type 0
Lacks b bytes = (k : ℕ) → k < length bytes → slice_index bytes k ≢ b

abbrev pub is_digit : ℕ → Bool
is_digit b = nat_le 48 b && nat_le b 57

-- some digits, of which the first is 0 only where it is the only one
abbrev pub has_no_leading_zero : List ℕ → Bool
has_no_leading_zero [] = false
has_no_leading_zero (d ∷ []) = true
has_no_leading_zero (d ∷ e ∷ ds) = not (d == 48)

-- digits after those of a number
abbrev pub with_digits : ℕ → List ℕ → ℕ
with_digits n [] = n
with_digits n (d ∷ ds) = with_digits (n * 10 + (d - 48)) ds

-- the number that a word is, in decimal without leading zeros
abbrev pub number_in : List ℕ → Option ℕ
number_in word =
    if has_no_leading_zero word && list_all is_digit word then Some (with_digits 0 word) else None

-- a number, or 2^64 where it is greater
abbrev pub capped : ℕ → ℕ
capped n = min n (2 ^ 64)
