-- Automata: states, each with the rules that may still match, and what is done there.
use Rattle.std.specs.Prelude.{◌≡◌, ℕ, ◌+◌, ◌-◌, ◌*◌, ◌<◌, ◌≤◌, ◌&&◌, ◌||◌, ◌==◌, nat_lt, nat_le, not, Bool, true, List, [], ◌∷◌, Option, Some, None, if◌then◌else◌, length, take, drop, All, Contains, IfSome, is_some, slice_index_or}
use Rattle.std.specs.List.{list_all, filter}
use Rattle.std.specs.List.Sorted.{IsNonDecreasingBy}
use Rattle.term_model.specs.Tree.{Tree, root}
use Rattle.term_model.specs.declared.Symbol.{Symbol}
use Rattle.term_model.specs.declared.Head.TheVariants.{App}
use Rattle.rewrite_model.specs.Rule.{Rule}
use Rattle.rule_match.specs.Planned.{match_at}
use Rattle.rule_match.specs.Groups.{head_at}
use Rattle.rule_automaton.specs.Places.{Tabled, IsTable}
use Rattle.rule_automaton.specs.Shapes.{HaveShapes, tests_at, pairs_at, numbers}
use Rattle.rule_automaton.specs.declared.shapes.Test.{Test}
use Rattle.rule_automaton.specs.declared.shapes.Shape.{Shape}
use Rattle.rule_automaton.specs.declared.states.State.{State}
use Rattle.rule_automaton.specs.declared.states.Way.{Way}
use Rattle.rule_automaton.specs.declared.states.Op.{Op}
use Rattle.rule_automaton.specs.declared.states.Op.TheVariants.{Found, Compare, Read, Turn}

-- the first of some rules whose left side matches a tree
abbrev pub first_match : List Rule → Tree → List ℕ → Option ℕ
first_match rules t [] = None
first_match rules t (r ∷ rs) =
    if is_some (match_at rules r t) then Some r else first_match rules t rs

-- The shapes of the rules in order, the rules of all states in one list, the states and their ways,
-- how many places there are, and for each rule where it goes on from the root.
pub record Made : Type 0 where
  pub shapes : List Shape
  pub rules : List ℕ
  pub states : List State
  pub ways : List Way
  pub places : ℕ
  pub roots : List (Option Way)

-- the part of a list from a place up to another
abbrev pub part : {A : Type 0} → List A → ℕ → ℕ → List A
part xs from to = take (to - from) (drop from xs)

-- the rules that may still match at a state
abbrev pub rules_of : Made → State → List ℕ
rules_of a s = part a.rules s.from s.to

-- a test of this symbol over so many trees
abbrev pub asks_for : Symbol → ℕ → Test → Bool
asks_for f n t = (t.symbol.0 == f.0) && (t.count == n)

-- a test of another place, or of this symbol over so many trees
abbrev pub is_allowed : ℕ → Symbol → ℕ → Test → Bool
is_allowed place f n t = not (t.place == place) || asks_for f n t

-- the rules that don't ask for another symbol at a place
abbrev pub kept : List Shape → ℕ → Symbol → ℕ → List ℕ → List ℕ
kept shapes place f n rules =
    filter (λ r. list_all (λ (t : Test). is_allowed place f n t) (tests_at shapes r)) rules

-- the rules that ask for no symbol at a place
abbrev pub passing : List Shape → ℕ → List ℕ → List ℕ
passing shapes place rules =
    filter (λ r. list_all (λ (t : Test). not (t.place == place)) (tests_at shapes r)) rules

-- At a later state these are the rules, and tests of the places below a bound hold.
pub record GoesOn (a : Made) (at to bound : ℕ) (rules : List ℕ) : Type 0 where
  pub later : at < to
  pub state : State
  pub there : (d : State) → slice_index_or a.states to d ≡ state
  pub within : to < length a.states
  pub has : rules_of a state ≡ rules
  pub upto : state.bound ≡ bound

-- The first rule of a state, of which all tests hold.
pub record IsTested (a : Made) (s : State) (rule : ℕ) (rest : List ℕ) : Type 0 where
  pub rules : rules_of a s ≡ rule ∷ rest
  pub tested : list_all (λ (t : Test). nat_lt t.place s.bound) (tests_at a.shapes rule) ≡ true

-- a way leads to the rules that don't ask for another symbol
pub record IsWay (table : Tabled) (a : Made) (at : ℕ) (s : State) (place : ℕ)
    (w : Way) : Type 0 where
  pub base : table.base_of place w.count ≡ Some w.base
  pub goes : GoesOn a at w.to (place + 1) (kept a.shapes place w.symbol w.count (rules_of a s))

-- a number for a symbol over so many trees
abbrev pub key_of : Symbol → ℕ → ℕ
key_of f n = f.0 * 4294967296 + n

abbrev pub way_key : Way → ℕ
way_key w = key_of w.symbol w.count

-- ways in the order of their symbols
abbrev pub AreInOrder : List Way → Type 0
AreInOrder ways = IsNonDecreasingBy way_key ways

-- Some rule of the state asks for the symbol at the place, none for one at a place between the
-- bound and this one, and each symbol that is asked for has its way.
pub record IsReading (table : Tabled) (a : Made) (at : ℕ) (s : State)
    (place first last other : ℕ) : Type 0 where
  pub rule : ℕ
  pub rule_in : Contains (rules_of a s) rule
  pub test : Test
  pub test_in : Contains (tests_at a.shapes rule) test
  pub asks : test.place ≡ place
  pub least : All
      (λ r. list_all (λ (t : Test). nat_lt t.place s.bound || nat_le place t.place)
      (tests_at a.shapes r) ≡ true) (rules_of a s)
  pub order : first ≤ last
  pub within : last ≤ length a.ways
  pub sorted : AreInOrder (part a.ways first last)
  pub ways : All (IsWay table a at s place) (part a.ways first last)
  pub covered : (r : ℕ) (t : Test) → Contains (rules_of a s) r → Contains (tests_at a.shapes r) t
      → t.place ≡ place → (w : Way) × Contains (part a.ways first last) w
      × (asks_for w.symbol w.count t ≡ true)
  pub none : GoesOn a at other (place + 1) (passing a.shapes place (rules_of a s))

-- what is done at a state is right
abbrev pub IsRight : Tabled → Made → ℕ → State → Op → Type 0
IsRight table a at s Found =
    (rule : ℕ) × (rest : List ℕ) × IsTested a s rule rest × (pairs_at a.shapes rule ≡ [])
IsRight table a at s (Compare other) =
    (rule : ℕ) × (rest : List ℕ) × IsTested a s rule rest × GoesOn a at other s.bound rest
IsRight table a at s (Read n) = IsReading table a at s n.place n.first n.last n.other
IsRight table a at s Turn = Unit {0}

-- Every state is right and has rules of the list.
pub record IsState (table : Tabled) (a : Made) (at : ℕ) (s : State) : Type 0 where
  pub order : s.from ≤ s.to
  pub within : s.to ≤ length a.rules
  pub right : IsRight table a at s s.op

pub record AreStates (table : Tabled) (a : Made) : Type 0 where
  pub rules : All (λ r. r < length a.shapes) a.rules
  pub states : (at : ℕ) (d : State) → at < length a.states
      → IsState table a at (slice_index_or a.states at d)

-- At this state nothing is known of a tree, and its rules have the first match of all from one on,
-- in each tree that has the head of that one.
pub record IsStart (rules : List Rule) (list : List ℕ) (from : ℕ) (s : State) : Type 0 where
  pub bound : s.bound ≡ 0
  pub same : (t : Tree) → root t ≡ head_at rules from → first_match rules t (part list s.from s.to)
      ≡ first_match rules t (numbers from (length rules - from))

-- The shapes are those of the rules, and each rule has a state at which the search from it on
-- begins.
pub record HasStarts (rules : List Rule) (a : Made) : Type 0 where
  pub table : Tabled
  pub readable : IsTable table
  pub places : table.places ≤ a.places
  pub shapes : HaveShapes table rules a.shapes
  pub count : length rules ≤ length a.states
  pub starts : (k : ℕ) (d : State) → k < length rules
      → IsStart rules a.rules k (slice_index_or a.states k d)
  pub states : AreStates table a

-- The search from a rule on begins by reading the root, and this is a way of the rule's head.
pub record IsRoot (rules : List Rule) (a : Made) (rule : ℕ) (w : Way) : Type 0 where
  pub first : ℕ
  pub last : ℕ
  pub other : ℕ
  pub reads : (d : State) → (slice_index_or a.states rule d).op
      ≡ Read (record { place = 0; first = first; last = last; other = other })
  pub way : Contains (part a.ways first last) w
  pub head : head_at rules rule ≡ Some (App w.symbol)

-- for each rule a way of its head from the root, or none
pub record AreRoots (rules : List Rule) (a : Made) (roots : List (Option Way)) : Type 0 where
  pub count : length roots ≡ length rules
  pub each : (k : ℕ) (d : Option Way) → k < length rules
      → IfSome (slice_index_or roots k d) (IsRoot rules a k)

-- It finds the first rule from each one on that matches a tree with that one's head.
pub record IsAutomaton (rules : List Rule) (a : Made) : Type 0 where
  pub starts : HasStarts rules a
  pub roots : AreRoots rules a a.roots
