-- How far the tokens of a text were taken.
use Rattle.std.specs.Prelude.{◌≡◌, ◌<◌, ◌≤◌, ℕ, List, ◌++◌, length, drop, Bool, Some, Result, Ok, Err}
use Rattle.faults.specs.declared.refusal.Refusal.{Refusal}
use Rattle.term_syntax.specs.Token.{Token}
use Rattle.term_syntax.specs.Tokens.{tokens_from, tokens_of}
use Rattle.term_building.specs.Progress.{Progress, run, start, settled_if}
use Rattle.term_building.specs.Shows.{Shows}
use Rattle.term_building.specs.State.{State}

-- these tokens, and those after them, if none of them is refused
abbrev pub before : List Token → Result (List Token) Refusal → Result (List Token) Refusal
before ts (Ok us) = Ok (ts ++ us)
before ts (Err f) = Err f

-- a step was taken at each token of the text before this place, and the state shows what was read;
-- a name that stands last may be a whole term already
pub record HasPassed (text : List ℕ) (at : ℕ) (s : State) : Type 0 where
  pub tokens : List Token
  pub progress : Progress
  pub early : Bool
  pub cut : before tokens (tokens_from at 0 (drop at text)) ≡ tokens_of text
  pub ran : run start tokens ≡ Some progress
  pub shows : Shows text at s (settled_if early progress)

-- what stands between two places was taken, the one behind the other
pub record Passes (text : List ℕ) (at : ℕ) (s : State) (next : ℕ) (r : State) : Type 0 where
  pub after : at < next
  pub within : next ≤ length text
  pub passed : HasPassed text at s → HasPassed text next r

-- the same, or nothing was taken
pub record Reaches (text : List ℕ) (at : ℕ) (s : State) (next : ℕ) (r : State) : Type 0 where
  pub from : at ≤ next
  pub within : next ≤ length text
  pub passed : HasPassed text at s → HasPassed text next r
