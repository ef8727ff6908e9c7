-- What rules ask for at places.
use Rattle.std.specs.Prelude.{◌≡◌, ℕ, ◌⊎◌, ◌||◌, ◌+◌, length, sum_by, nat_lt, nat_le, Bool, true, List, Contains}
use Rattle.std.specs.List.Sorted.{IsNonDecreasingBy}
use Rattle.rule_automaton.specs.Shapes.{tests_at}
use Rattle.rule_automaton.specs.Automata.{asks_for, key_of}
use Rattle.rule_automaton.specs.declared.shapes.Test.{Test}
use Rattle.rule_automaton.specs.declared.shapes.Shape.{Shape}

-- how many rules these are, and how many tests they have
abbrev pub total : List Shape → List ℕ → ℕ
total shapes rules = length rules + sum_by (λ r. length (tests_at shapes r)) rules

-- a test below a bound, or from a place on
abbrev pub is_from : ℕ → ℕ → Test → Bool
is_from bound place t = nat_lt t.place bound || nat_le place t.place

-- one of some tests asks for the same symbol
abbrev pub HasWord : List Test → Test → Type 0
HasWord words t = (w : Test) × Contains words w × (asks_for w.symbol w.count t ≡ true)

-- The symbols that tests ask for at a place are noted, and no others.
pub record NotesWords (place : ℕ) (tests old new : List Test) : Type 0 where
  pub kept : (w : Test) → Contains old w → Contains new w
  pub only : (w : Test) → Contains new w → Contains old w ⊎ (Contains tests w × (w.place ≡ place))
  pub all : (t : Test) → Contains tests t → t.place ≡ place → HasWord new t

abbrev pub word_key : Test → ℕ
word_key t = key_of t.symbol t.count

-- Each symbol that the first tests ask for is asked for by one of these, which are of them. They
-- stand in order where all tests do.
pub record ArePicked (all first words : List Test) : Type 0 where
  pub only : (w : Test) → Contains words w → Contains first w
  pub each : (t : Test) → Contains first t → HasWord words t
  pub order : IsNonDecreasingBy word_key all → IsNonDecreasingBy word_key words

-- the symbols that rules ask for at a place
pub record AreWords (shapes : List Shape) (rules : List ℕ) (place : ℕ)
    (words : List Test) : Type 0 where
  pub only : (w : Test) → Contains words w → (r : ℕ) × Contains rules r
      × Contains (tests_at shapes r) w × (w.place ≡ place)
  pub all : (r : ℕ) (t : Test) → Contains rules r → Contains (tests_at shapes r) t → t.place ≡ place
      → HasWord words t
