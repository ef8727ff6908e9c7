-- A term as it is written: a name with arguments, a number, or a list in brackets, with the place
-- of its first byte. A number has no value where it isn't an integer up to 2^64 - 1 without a
-- leading zero.
use Rattle.std.specs.Prelude.{ℕ, ◌+◌, List, Option}

mutual
  pub data Written : Type 0 where
    Call : ℕ → List ℕ → Writtens → Written
    Digits : ℕ → Option ℕ → Written
    Listed : ℕ → Writtens → Written

  pub data Writtens : Type 0 where
    End : Writtens
    More : Written → Writtens → Writtens

-- how many terms
abbrev pub count_of : Writtens → ℕ
count_of End = 0
count_of (More w ws) = count_of ws + 1

-- the place of its first byte
abbrev pub place_of : Written → ℕ
place_of (Call p n ws) = p
place_of (Digits p v) = p
place_of (Listed p ws) = p
