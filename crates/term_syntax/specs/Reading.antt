-- What reading term text gives, and why it is refused.
use Rattle.std.specs.Prelude.{◌≡◌, ◌⊎◌, ℕ, List, length, map, Ok, Err}
use Rattle.read_faults.specs.declared.fail.ReadFail.{ReadFail}
use Rattle.read_faults.specs.declared.fail.ReadFail.TheVariants.{Refused, Memory}
use Rattle.term_model.specs.Tree.{Tree}
use Rattle.symbol_pool.specs.Pool.{Named}
use Rattle.term_syntax.specs.Token.{Token}
use Rattle.read_faults.specs.Fault.{fault}
use Rattle.term_syntax.specs.Tokens.{tokens_of}
use Rattle.term_syntax.specs.Written.{Written}
use Rattle.term_syntax.specs.TermGrammar.{IsInput}
use Rattle.term_syntax.specs.Refusal.{AreRefused}
use Rattle.term_syntax.specs.TakenUp.{take_input, symbols_in_input, TookFront, tree_in}

-- the tokens of the bytes spell terms
pub record Spells (bytes : List ℕ) (terms : List Written) : Type 0 where
  pub tokens : List Token
  pub cut : tokens_of bytes ≡ Ok tokens
  pub spelled : IsInput tokens terms

-- the bytes spell terms whose symbols can be taken up, which gives the new symbols and the trees
pub record IsReading (bytes : List ℕ) (old new : List Named) (trees : List Tree) : Type 0 where
  pub terms : List Written
  pub spelled : Spells bytes terms
  pub taken : take_input terms old ≡ Ok new
  pub trees_are : trees ≡ map (tree_in new) terms

-- the bytes have tokens, which are refused
pub record AreTokensRefused (bytes : List ℕ) (kind offset : ℕ) : Type 0 where
  pub tokens : List Token
  pub cut : tokens_of bytes ≡ Ok tokens
  pub refused : AreRefused (length bytes) tokens kind offset

-- the bytes spell terms, of which one is refused
pub record IsPartRefused (bytes : List ℕ) (symbols : List Named) (kind offset : ℕ) : Type 0 where
  pub terms : List Written
  pub spelled : Spells bytes terms
  pub refused : take_input terms symbols ≡ Err (fault kind offset)

-- first a byte or an open quote is refused, else a token or the end, else a name or a number of the
-- terms
abbrev pub IsRefusal : List ℕ → List Named → ReadFail → Type 0
IsRefusal bytes symbols (Refused kind offset) =
    (tokens_of bytes ≡ Err (fault kind offset))
    ⊎ (AreTokensRefused bytes kind offset ⊎ IsPartRefused bytes symbols kind offset)
IsRefusal bytes symbols Memory = Unit {0}

-- no symbol was taken up, or the bytes spell terms, and a front of their symbols was
abbrev pub TookFrontOf : List ℕ → List Named → List Named → Type 0
TookFrontOf bytes old new =
    (new ≡ old) ⊎ ((terms : List Written) × Spells bytes terms
    × TookFront (symbols_in_input terms) old new)
