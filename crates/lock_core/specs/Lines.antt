-- Bytes at a separator, and words that are no step.
use Rattle.std.specs.Prelude.{◌≢◌, ℕ, ◌<◌, codes, List, length, slice_index}

-- no byte is b
abbrev pub Lacks : ℕ → List ℕ → Type 0
Lacks b bytes = (k : ℕ) → k < length bytes → slice_index bytes k ≢ b

-- none of the words that are a step alone
pub record IsNoStepAlone (word : List ℕ) : Type 0 where
  pub no_raise : word ≢ codes "raise"
  pub no_look : word ≢ codes "look"
  pub no_lower : word ≢ codes "lower"
  pub no_take : word ≢ codes "take"
  pub no_give : word ≢ codes "give"

-- none of the words of a step on a seat
pub record IsNoStepOn (word : List ℕ) : Type 0 where
  pub no_ask : word ≢ codes "ask"
  pub no_peek : word ≢ codes "peek"
  pub no_unask : word ≢ codes "unask"
