-- An automaton under way: what holds at a state.
use Rattle.std.specs.Prelude.{◌≡◌, ℕ, ◌<◌, ◌≤◌, true, List, Option, Some, None, Bool, length, map, take, All, slice_index_or, ◌==◌, ◌&&◌, ◌+◌, ◌-◌, false}
use Rattle.term_model.specs.Tree.{Tree, root, head_eq}
use Rattle.term_model.specs.declared.Head.{Head}
use Rattle.term_model.specs.declared.Head.TheVariants.{App}
use Rattle.term_model.specs.declared.Row.{Row}
use Rattle.terms_api.specs.Terms.{Store, IsHeld, tree_at}
use Rattle.rewrite_model.specs.Rule.{Rule}
use Rattle.rule_match.specs.Planned.{match_at}
use Rattle.rule_match.specs.Groups.{head_at}
use Rattle.rule_automaton.specs.Places.{Reading}
use Rattle.rule_automaton.specs.Shapes.{holds, all_hold, Follow, IsKid, IsUnder, numbers, tests_at, variables_at}
use Rattle.rule_automaton.specs.Automata.{Made, HasStarts, AreRoots, first_match, rules_of}
use Rattle.rule_automaton.specs.Rows.{IsFull, row_at, rows_at}
use Rattle.rule_automaton.specs.declared.shapes.Test.{Test}
use Rattle.rule_automaton.specs.declared.shapes.Pair.{Pair}
use Rattle.rule_automaton.specs.declared.shapes.Shape.{Shape}
use Rattle.rule_automaton.specs.declared.states.State.{State}
use Rattle.rule_automaton.specs.declared.states.Way.{Way}
use Rattle.rule_automaton.specs.declared.automaton.Automaton.{Automaton}
use Rattle.rule_automaton.specs.declared.finding.Next.{Next}
use Rattle.rule_automaton.specs.declared.finding.Next.TheVariants.{End, On}

-- what an automaton has
abbrev pub made : Automaton → Made
made a = record {
  shapes = a.shapes.items;
  rules = a.rules.items;
  states = a.states.items;
  ways = a.ways.items;
  places = a.places;
  roots = a.roots.items;
}

-- A test at a place below a bound holds, and the places of the arguments below it are full.
pub record Known (at : ℕ → Tree) (full : ℕ → Type 0) (bound : ℕ) (t : Test) : Type 0 where
  pub stand : t.place < bound → holds at t ≡ true
  pub kids : t.place < bound → (q : ℕ) → IsKid t q → full q

abbrev pub AreKnown : List Shape → (ℕ → Tree) → (ℕ → Type 0) → ℕ → List ℕ → Type 0
AreKnown shapes at full bound rules = All (λ r. All (Known at full bound) (tests_at shapes r)) rules

-- the rules, the tree that they are to match, and the rule from which on they are asked
pub record Asked : Type 0 where
  pub rules : List Rule
  pub tree : Tree
  pub from : ℕ

-- The rules' automaton reads the tree, whose row has place 0.
pub record IsBegun (a : Made) (s : Store) (rows : List Row) (m : Asked) : Type 0 where
  pub automaton : HasStarts m.rules a
  pub reading : Reading automaton.table.base_of m.tree
  pub root : IsFull s reading.at rows 0
  pub size : a.places ≤ length rows

-- the first rule that matches, from the asked one on
abbrev pub first_asked : Asked → Option ℕ
first_asked m = first_match m.rules m.tree (numbers m.from (length m.rules - m.from))

-- It stands at a state, whose rules have the first match of all that are asked.
pub record IsRun (a : Made) (s : Store) (rows : List Row) (m : Asked) (k : ℕ) : Type 0 where
  pub begun : IsBegun a s rows m
  pub within : k < length a.states
  pub state : State
  pub there : (d : State) → slice_index_or a.states k d ≡ state
  pub same : first_match m.rules m.tree (rules_of a state) ≡ first_asked m
  pub known : AreKnown a.shapes begun.reading.at (IsFull s begun.reading.at rows)
      state.bound (rules_of a state)

-- It stands at the state of a rule whose head the tree has.
pub record IsRooted (a : Made) (s : Store) (rows : List Row) (m : Asked) (first : ℕ) : Type 0 where
  pub run : IsRun a s rows m first
  pub roots : AreRoots m.rules a a.roots
  pub within : first < length m.rules
  pub head : root m.tree ≡ head_at m.rules first

-- the rule matches, and the rows at the places of its variables have the bound trees
pub record IsMatch (a : Made) (s : Store) (rows : List Row) (m : Asked) (r : ℕ) : Type 0 where
  pub rule : r < length m.rules
  pub bound : match_at m.rules r m.tree
      ≡ Some (map (tree_at s) (rows_at rows (variables_at a.shapes r)))
  pub held : All (IsHeld s) (rows_at rows (variables_at a.shapes r))

-- the first rule that matches is this one, with its rows; none where no rule does
abbrev pub IsAnswer : Made → Store → List Row → Asked → Option ℕ → Type 0
IsAnswer a s rows m None = first_asked m ≡ None
IsAnswer a s rows m (Some r) = (first_asked m ≡ Some r) × IsMatch a s rows m r

-- it has ended with an answer, or goes on at a later state
abbrev pub IsNext : Made → Store → List Row → Asked → ℕ → Next → Type 0
IsNext a s rows m k (End answer) = IsAnswer a s rows m answer
IsNext a s rows m k (On next) = (k < next) × IsRun a s rows m next

-- the first of some rules that matches is this one, with its rows; none where none of them does
abbrev pub IsAnswerOf : List ℕ → Made → Store → List Row → Asked → Option ℕ → Type 0
IsAnswerOf rs a s rows m None = first_match m.rules m.tree rs ≡ None
IsAnswerOf rs a s rows m (Some r) = (first_match m.rules m.tree rs ≡ Some r) × IsMatch a s rows m r

abbrev pub asked : List Rule → Tree → ℕ → Asked
asked rules t from = record { rules = rules; tree = t; from = from }

-- Tests may be made one after another, from the root's row on.
pub record IsReady (s : Store) (at : ℕ → Tree) (rows : List Row) (tests : List Test) : Type 0 where
  pub root : IsFull s at rows 0
  pub follow : Follow at tests
  pub order : (k : ℕ) (d : Test) → k < length tests
      → IsUnder (take k tests) (slice_index_or tests k d).place
  pub fits : All (λ (t : Test). t.base + t.count ≤ length rows) tests

-- All tests hold, and the places under them are full, or one doesn't hold.
pub record AreTested (s : Store) (at : ℕ → Tree) (rows : List Row) (tests : List Test)
    (result : Bool) : Type 0 where
  pub root : IsFull s at rows 0
  pub yes : result ≡ true → (all_hold at tests ≡ true)
      × ((q : ℕ) → IsUnder tests q → IsFull s at rows q)
  pub no : result ≡ false → all_hold at tests ≡ false

-- a rule was tried by its own tests
pub record IsTried (a : Made) (s : Store) (old rows : List Row) (m : Asked) (b : IsBegun a s old m)
    (rule : ℕ) (result : Bool) : Type 0 where
  pub root : IsFull s b.reading.at rows 0
  pub yes : result ≡ true → IsMatch a s rows m rule
  pub no : result ≡ false → match_at m.rules rule m.tree ≡ None

-- the way is that of this head over so many trees
abbrev pub is_way_of : Head → ℕ → Way → Bool
is_way_of h n w = head_eq (App w.symbol) h && (n == w.count)

-- both places have one row
abbrev pub have_one_row : List Row → Pair → Bool
have_one_row rows p = (row_at rows p.first).0 == (row_at rows p.second).0
