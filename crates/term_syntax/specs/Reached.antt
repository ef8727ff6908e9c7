-- Bytes are read token by token: what was read of them, and why reading stops.
use Rattle.std.specs.Prelude.{◌≡◌, ◌⊎◌, ℕ, List, Some, None, Ok, Err}
use Rattle.read_faults.specs.declared.fail.ReadFail.{ReadFail}
use Rattle.read_faults.specs.declared.fail.ReadFail.TheVariants.{Refused, Memory}
use Rattle.term_syntax.specs.Token.{Token}
use Rattle.term_syntax.specs.State.{Part, Machine}
use Rattle.term_syntax.specs.declared.machine.Node.{Node}
use Rattle.read_faults.specs.Fault.{fault}
use Rattle.term_syntax.specs.Few.{AreCountsFew}
use Rattle.term_syntax.specs.Tokens.{tokens_of}
use Rattle.term_syntax.specs.Refusal.{place_of}
use Rattle.term_syntax.specs.Steps.{run, start, step, StopsAt, IsRead}
use Rattle.term_syntax.specs.Reading.{AreTokensRefused}

-- a step was taken at each token of the bytes, and the counts of open groups are few
pub record HasRun (bytes : List ℕ) (m : Machine) : Type 0 where
  pub tokens : List Token
  pub cut : tokens_of bytes ≡ Ok tokens
  pub ran : run start tokens ≡ Some m
  pub few : AreCountsFew 1 m.groups

-- the parts and the nodes of the terms that the bytes spell
pub record IsReadOf (bytes : List ℕ) (read : List Part × List (List Node)) : Type 0 where
  pub tokens : List Token
  pub cut : tokens_of bytes ≡ Ok tokens
  pub spelled : IsRead tokens read

-- the bytes have tokens
abbrev pub HasTokens : List ℕ → Type 0
HasTokens bytes = (tokens : List Token) × (tokens_of bytes ≡ Ok tokens)

-- the bytes have tokens, and there is no step at this one
pub record HasNoStep (bytes : List ℕ) (m : Machine) (t : Token) (kind offset : ℕ) : Type 0 where
  pub tokens : List Token
  pub cut : tokens_of bytes ≡ Ok tokens
  pub stops : step m t ≡ None
  pub kind_is : kind ≡ 2
  pub place : offset ≡ place_of t

-- a token is not taken: the bytes have no tokens, or there is no step at it
abbrev pub IsUntaken : List ℕ → Machine → Token → ReadFail → Type 0
IsUntaken bytes m t (Refused kind offset) =
    (tokens_of bytes ≡ Err (fault kind offset)) ⊎ HasNoStep bytes m t kind offset
IsUntaken bytes m t Memory = Unit {0}

-- the bytes have tokens, of which one has no step
pub record AreTokensStopped (bytes : List ℕ) (kind offset : ℕ) : Type 0 where
  pub tokens : List Token
  pub cut : tokens_of bytes ≡ Ok tokens
  pub kind_is : kind ≡ 2
  pub stops : StopsAt tokens offset

-- not all tokens are taken: the bytes have none, or there is no step at one
abbrev pub IsStoppedIn : List ℕ → ReadFail → Type 0
IsStoppedIn bytes (Refused kind offset) =
    (tokens_of bytes ≡ Err (fault kind offset)) ⊎ AreTokensStopped bytes kind offset
IsStoppedIn bytes Memory = Unit {0}

-- first a byte or an open quote is refused, else a token or the end
abbrev pub IsSyntaxFault : List ℕ → ReadFail → Type 0
IsSyntaxFault bytes (Refused kind offset) =
    (tokens_of bytes ≡ Err (fault kind offset)) ⊎ AreTokensRefused bytes kind offset
IsSyntaxFault bytes Memory = Unit {0}
