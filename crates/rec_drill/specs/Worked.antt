-- Texts worked by hand, which the check computes.
use Rattle.std.specs.Prelude.{ℕ, zero, suc, codes, List, [], ◌∷◌, ◌++◌}

-- the whole text of one term
unfoldable pub text_of_one : List ℕ
text_of_one =
    codes "REC-SPEC DRILL\nSORTS Nat\nCONS z : -> Nat\ns : Nat -> Nat\nOPNS plus mult : Nat Nat -> Nat\n"
    ++ codes "VARS X Y : Nat\nRULES\nplus(X,z) -> X\nplus(X,s(Y)) -> s(plus(X,Y))\nmult(X,z) -> z\n"
    ++ codes "mult(X,s(Y)) -> plus(mult(X,Y),X)\nEVAL\nmult(s(s(s(z))),s(z))\nEND-SPEC\n"

-- The lines of the first three terms: 3 and 1, 10 and 6, 6 and 11.
unfoldable pub three_terms : List (List ℕ)
three_terms =
    codes "mult(s(s(s(z))),s(z))"
    ∷ codes "mult(s(s(s(s(s(s(s(s(s(s(z)))))))))),s(s(s(s(s(s(z)))))))"
    ∷ codes "mult(s(s(s(s(s(s(z)))))),s(s(s(s(s(s(s(s(s(s(s(z))))))))))))"
    ∷ []

-- what a function gives of 0 to n - 1
abbrev pub counts : (ℕ → ℕ) → ℕ → List ℕ
counts f zero = []
counts f (suc n) = counts f n ++ f n ∷ []

-- the first numbers of terms 0 to 10, and the second numbers of terms 0 to 12
abbrev pub first_turn : List ℕ
first_turn = 3 ∷ 10 ∷ 6 ∷ 2 ∷ 9 ∷ 5 ∷ 1 ∷ 8 ∷ 4 ∷ 0 ∷ 7 ∷ []

abbrev pub second_turn : List ℕ
second_turn = 1 ∷ 6 ∷ 11 ∷ 3 ∷ 8 ∷ 0 ∷ 5 ∷ 10 ∷ 2 ∷ 7 ∷ 12 ∷ 4 ∷ 9 ∷ []
