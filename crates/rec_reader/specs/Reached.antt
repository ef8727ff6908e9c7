-- Bytes are read token by token: what was read of them, and why reading stops.
use Rattle.std.specs.Prelude.{◌≡◌, ◌⊎◌, ℕ, List, Option, Some, None, Ok, Err}
use Rattle.rec_reader.specs.declared.token.Token.{Token}
use Rattle.rec_reader.specs.declared.syntax_tree.Specification.{Specification}
use Rattle.rec_reader.specs.declared.machine.Machine.{Machine}
use Rattle.read_faults.specs.declared.fail.ReadFail.{ReadFail}
use Rattle.read_faults.specs.declared.fail.ReadFail.TheVariants.{Refused, Memory}
use Rattle.rec_reader.specs.Tokens.{tokens_of}
use Rattle.rec_reader.specs.Grammar.{IsInput}
use Rattle.rec_reader.specs.Refusal.{place_of, IsRefusal}
use Rattle.rec_reader.specs.Steps.{run, start, step, accepted, StopsAt}

-- the tokens of the bytes spell these specifications
pub record Spells (bytes : List ℕ) (specs : List Specification) : Type 0 where
  pub tokens : List Token
  pub cut : tokens_of bytes ≡ Ok tokens
  pub sentence : IsInput tokens specs

-- a byte where nothing begins
pub record IsByteRefused (bytes : List ℕ) (kind offset : ℕ) : Type 0 where
  pub kind_is : kind ≡ 1
  pub place : tokens_of bytes ≡ Err offset

-- tokens that are no sentence
pub record IsTokenRefused (bytes : List ℕ) (kind offset : ℕ) : Type 0 where
  pub tokens : List Token
  pub cut : tokens_of bytes ≡ Ok tokens
  pub refused : IsRefusal (record { bytes = bytes; tokens = tokens }) (Refused kind offset)

-- first a byte is refused, else a token or the end
abbrev pub IsReadRefusal : List ℕ → ReadFail → Type 0
IsReadRefusal bytes (Refused kind offset) =
    IsByteRefused bytes kind offset ⊎ IsTokenRefused bytes kind offset
IsReadRefusal bytes Memory = Unit {0}

-- a step was taken at each token of the bytes
pub record HasRun (bytes : List ℕ) (m : Machine) : Type 0 where
  pub tokens : List Token
  pub cut : tokens_of bytes ≡ Ok tokens
  pub ran : run start tokens ≡ Some m

-- a step was taken at each token; the specifications, where they may end there
pub record HasEnded (tokens : List Token) (specs : Option (List Specification)) : Type 0 where
  pub machine : Machine
  pub ran : run start tokens ≡ Some machine
  pub ended : specs ≡ accepted machine

-- the same, at each token of the bytes
pub record HasEndedIn (bytes : List ℕ) (specs : Option (List Specification)) : Type 0 where
  pub machine : Machine
  pub ran : HasRun bytes machine
  pub ended : specs ≡ accepted machine

-- the bytes have tokens, and there is no step at this one
pub record HasNoStep (bytes : List ℕ) (m : Machine) (t : Token) (kind offset : ℕ) : Type 0 where
  pub tokens : List Token
  pub cut : tokens_of bytes ≡ Ok tokens
  pub stops : step m t ≡ None
  pub kind_is : kind ≡ 2
  pub place : offset ≡ place_of t

-- a token is not taken: a byte is refused, or there is no step at it
abbrev pub IsUntaken : List ℕ → Machine → Token → ReadFail → Type 0
IsUntaken bytes m t (Refused kind offset) =
    IsByteRefused bytes kind offset ⊎ HasNoStep bytes m t kind offset
IsUntaken bytes m t Memory = Unit {0}

-- the bytes have tokens, of which one has no step
pub record AreTokensStopped (bytes : List ℕ) (kind offset : ℕ) : Type 0 where
  pub tokens : List Token
  pub cut : tokens_of bytes ≡ Ok tokens
  pub kind_is : kind ≡ 2
  pub stops : StopsAt tokens offset

-- not all tokens are taken: a byte is refused, or there is no step at one
abbrev pub IsStoppedIn : List ℕ → ReadFail → Type 0
IsStoppedIn bytes (Refused kind offset) =
    IsByteRefused bytes kind offset ⊎ AreTokensStopped bytes kind offset
IsStoppedIn bytes Memory = Unit {0}
