-- The drill's text: a specification of sums and products, and n products of unary numbers to be
-- rewritten.
use Rattle.std.specs.Prelude.{ℕ, zero, suc, ◌+◌, ◌*◌, ◌%◌, codes, List, [], ◌∷◌, ◌++◌}
use Rattle.std.specs.List.{flat_map}

-- the lines before the first term
unfoldable pub opening_lines : List (List ℕ)
opening_lines =
    codes "REC-SPEC DRILL"
    ∷ codes "SORTS Nat"
    ∷ codes "CONS z : -> Nat"
    ∷ codes "s : Nat -> Nat"
    ∷ codes "OPNS plus mult : Nat Nat -> Nat"
    ∷ codes "VARS X Y : Nat"
    ∷ codes "RULES"
    ∷ codes "plus(X,z) -> X"
    ∷ codes "plus(X,s(Y)) -> s(plus(X,Y))"
    ∷ codes "mult(X,z) -> z"
    ∷ codes "mult(X,s(Y)) -> plus(mult(X,Y),X)"
    ∷ codes "EVAL"
    ∷ []

-- how many times `s(` stands round `z` in the first number of term i, counted from 0
abbrev pub first_count : ℕ → ℕ
first_count i = (7 * i + 3) % 11

-- and in its second number
abbrev pub second_count : ℕ → ℕ
second_count i = (5 * i + 1) % 13

-- `s(` round `z`, so many times
abbrev pub numeral : ℕ → List ℕ
numeral zero = codes "z"
numeral (suc k) = codes "s(" ++ numeral k ++ codes ")"

-- the line of term i: the product of its two numbers
abbrev pub term_line : ℕ → List ℕ
term_line i = codes "mult(" ++ numeral (first_count i) ++ codes "," ++ numeral (second_count i) ++ codes ")"

-- the lines of the terms from 0 to n - 1
abbrev pub term_lines : ℕ → List (List ℕ)
term_lines zero = []
term_lines (suc n) = term_lines n ++ term_line n ∷ []

-- all lines
abbrev pub drill_lines : ℕ → List (List ℕ)
drill_lines n = opening_lines ++ term_lines n ++ codes "END-SPEC" ∷ []

-- a line with the line feed that ends it
abbrev pub ended : List ℕ → List ℕ
ended line = line ++ codes "\n"

-- the text: all lines, each ended by a line feed
abbrev pub drill_bytes : ℕ → List ℕ
drill_bytes n = flat_map ended (drill_lines n)
