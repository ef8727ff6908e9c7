-- Building an automaton: more states, and what is done at them.
use Rattle.std.specs.Prelude.{◌≡◌, ℕ, ◌+◌, ◌*◌, ◌<◌, ◌≤◌, ◌||◌, nat_lt, nat_le, true, List, [], ◌∷◌, ◌++◌, Some, length, drop, map, All, Contains, slice_index_or}
use Rattle.std.specs.List.{list_all}
use Rattle.rule_automaton.specs.Places.{Tabled, IsTable}
use Rattle.rule_automaton.specs.Shapes.{numbers, tests_at}
use Rattle.rule_automaton.specs.Automata.{Made, rules_of, asks_for, way_key, IsWay, AreStates, IsRight}
use Rattle.rule_automaton.specs.Asking.{word_key, total}
use Rattle.rule_automaton.specs.declared.shapes.Test.{Test}
use Rattle.rule_automaton.specs.declared.shapes.Shape.{Shape}
use Rattle.rule_automaton.specs.declared.states.State.{State}
use Rattle.rule_automaton.specs.declared.states.Way.{Way}
use Rattle.rule_automaton.specs.declared.states.Op.{Op}
use Rattle.rule_automaton.specs.declared.states.Op.TheVariants.{Turn}

-- one more state, whose rules are tried in turn
abbrev pub with_state : Made → List ℕ → ℕ → Made
with_state a rules bound =
    record a {
      rules = a.rules ++ rules;
      states = a.states ++ record {
        from = length a.rules;
        to = length (a.rules ++ rules);
        bound = bound;
        op = Turn;
      } ∷ [];
    }

abbrev pub with_way : Made → Way → Made
with_way a w = record a { ways = a.ways ++ w ∷ [] }

-- the table has the bases of all tests
abbrev pub AreBased : Tabled → List Shape → Type 0
AreBased table shapes = (r : ℕ) → r < length shapes
    → All (λ (t : Test). table.base_of t.place t.count ≡ Some t.base) (tests_at shapes r)

-- States were added, and all are right.
pub record Continues (table : Tabled) (a b : Made) : Type 0 where
  pub shapes : b.shapes ≡ a.shapes
  pub places : b.places ≡ a.places
  pub are : AreStates table b
  pub count : length a.states ≤ length b.states
  pub longer : length a.rules ≤ length b.rules
  pub states : (k : ℕ) (d : State) → k < length a.states
      → slice_index_or b.states k d ≡ slice_index_or a.states k d
  pub same : (st : State) → st.from ≤ st.to → st.to ≤ length a.rules → rules_of b st ≡ rules_of a st

-- Ways were added from one on for some symbols at a place, whatever state has these rules.
pub record Partway (table : Tabled) (a b : Made) (rules : List ℕ) (place first : ℕ)
    (words : List Test) : Type 0 where
  pub continues : Continues table a b
  pub start : first ≤ length b.ways
  pub ways : (at : ℕ) (st : State) → at < length a.states → st.from ≤ st.to → st.to ≤ length a.rules
      → rules_of a st ≡ rules → All (IsWay table b at st place) (drop first b.ways)
  pub keys : map way_key (drop first b.ways) ≡ map word_key words
  pub all : (t : Test) → Contains words t → (w : Way) × Contains (drop first b.ways) w
      × (asks_for w.symbol w.count t ≡ true)

abbrev pub way_to : Test → ℕ → Way
way_to word to = record { symbol = word.symbol; count = word.count; base = word.base; to = to }

-- Some rule asks for a symbol at the place, and none for one at a place between the bound and it.
pub record IsLeast (shapes : List Shape) (rules : List ℕ) (bound place : ℕ) : Type 0 where
  pub rule : ℕ
  pub rule_in : Contains rules rule
  pub test : Test
  pub test_in : Contains (tests_at shapes rule) test
  pub asks : test.place ≡ place
  pub least : All
      (λ r. list_all (λ (t : Test). nat_lt t.place bound || nat_le place t.place)
      (tests_at shapes r) ≡ true) rules

-- Reading the place is right at every state with these rules.
pub record ReadsOn (table : Tabled) (a b : Made) (rules : List ℕ) (place : ℕ)
    (op : Op) : Type 0 where
  pub continues : Continues table a b
  pub right : (at : ℕ) (st : State) → at < length a.states → st.from ≤ st.to
      → st.to ≤ length a.rules → rules_of a st ≡ rules → IsLeast a.shapes rules st.bound place
      → IsRight table b at st op

-- an automaton under construction: its states are right, and its tests are of places of the table
pub record IsBuilt (table : Tabled) (a : Made) : Type 0 where
  pub is : IsTable table
  pub are : AreStates table a
  pub based : AreBased table a.shapes

-- The operation is right at every state with these rules and this bound.
pub record Serves (table : Tabled) (a b : Made) (rules : List ℕ) (bound : ℕ)
    (op : Op) : Type 0 where
  pub continues : Continues table a b
  pub right : (at : ℕ) (st : State) → at < length a.states → st.from ≤ st.to
      → st.to ≤ length a.rules → rules_of a st ≡ rules → st.bound ≡ bound → IsRight table b at st op

-- the operation is right at a state
pub record Decides (table : Tabled) (a b : Made) (at : ℕ) (op : Op) : Type 0 where
  pub continues : Continues table a b
  pub right : (st : State) → ((d : State) → slice_index_or a.states at d ≡ st)
      → IsRight table b at st op

-- It is under construction as before, and its states have the same rules and the same bounds.
pub record IsGrown (table : Tabled) (a b : Made) : Type 0 where
  pub built : IsBuilt table b
  pub shapes : b.shapes ≡ a.shapes
  pub places : b.places ≡ a.places
  pub count : length a.states ≤ length b.states
  pub same : (k : ℕ) (d : State) → k < length a.states
      → (rules_of b (slice_index_or b.states k d) ≡ rules_of a (slice_index_or a.states k d))
      × ((slice_index_or b.states k d).bound ≡ (slice_index_or a.states k d).bound)

-- The states that were added were taken from those that were left.
abbrev pub ArePaid : Made → ℕ → Made → ℕ → Type 0
ArePaid a left b less = length b.states + less ≤ length a.states + left

-- some of these rules asks for a symbol at a place
pub record IsAsked (shapes : List Shape) (rules : List ℕ) (place : ℕ) : Type 0 where
  pub rule : ℕ
  pub rule_in : Contains rules rule
  pub test : Test
  pub test_in : Contains (tests_at shapes rule) test
  pub asks : test.place ≡ place

-- at most four states for each rule and each test, and one
abbrev pub HasFewStates : Made → Type 0
HasFewStates a = length a.states ≤ 4 * total a.shapes (numbers 0 (length a.shapes)) + 1
