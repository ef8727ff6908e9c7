-- The states at which a search begins, before anything is done there but to try the rules in turn.
use Rattle.std.specs.Prelude.{◌≡◌, ℕ, ◌-◌, ◌<◌, ◌≤◌, List, ◌++◌, None, length, drop, All, slice_index_or}
use Rattle.term_model.specs.Tree.{Tree, root}
use Rattle.rewrite_model.specs.Rule.{Rule}
use Rattle.rule_match.specs.Planned.{match_at}
use Rattle.rule_match.specs.Groups.{head_at}
use Rattle.rule_automaton.specs.Shapes.{numbers}
use Rattle.rule_automaton.specs.Automata.{first_match, IsStart}
use Rattle.rule_automaton.specs.declared.states.State.{State}
use Rattle.rule_automaton.specs.declared.states.Op.TheVariants.{Turn}

-- In each tree with the head of a rule these have the first match of all from the rule on.
abbrev pub HaveFirst : List Rule → ℕ → List ℕ → Type 0
HaveFirst rules from some = (t : Tree) → root t ≡ head_at rules from
    → first_match rules t some ≡ first_match rules t (numbers from (length rules - from))

-- In each tree with the head of a rule none of those after it matches, up to another.
abbrev pub HavePassed : List Rule → ℕ → ℕ → Type 0
HavePassed rules rule to = (t : Tree) → root t ≡ head_at rules rule → (k : ℕ) → rule < k → k < to
    → match_at rules k t ≡ None

-- a state that tries the rules from one on in turn, of so many
abbrev pub in_turn_from : ℕ → ℕ → State
in_turn_from count from = record { from = from; to = count; bound = 0; op = Turn }

-- A search from a rule on begins at this state, where the rules are tried in turn.
pub record BeginsInTurn (rules : List Rule) (list : List ℕ) (from : ℕ) (s : State) : Type 0 where
  pub order : s.from ≤ s.to
  pub within : s.to ≤ length list
  pub turn : s.op ≡ Turn
  pub start : IsStart rules list from s

-- a state for each rule
pub record AreStarts (rules : List Rule) (list : List ℕ) (states : List State) : Type 0 where
  pub count : length states ≡ length rules
  pub fits : All (λ r. r < length rules) list
  pub each : (k : ℕ) (d : State) → k < length rules
      → BeginsInTurn rules list k (slice_index_or states k d)

-- Rules were added, so that from each of them on they have the first match of all from it on.
pub record AddsGroup (rules : List Rule) (old new : List ℕ) : Type 0 where
  pub more : List ℕ
  pub added : new ≡ old ++ more
  pub fits : All (λ r. r < length rules) more
  pub each : (i : ℕ) → length old ≤ i → i < length new
      → HaveFirst rules (slice_index_or new i 0) (drop i new)
