-- Why a text spells no specification that may be checked.
use Rattle.std.proofs.Common.{◌≡◌, ℕ, List, inl, inr, None, Ok}
use Rattle.rec_reader.specs.declared.token.Token.{Token}
use Rattle.read_faults.specs.declared.fail.ReadFail.{ReadFail}
use Rattle.read_faults.specs.declared.fail.ReadFail.TheVariants.{Refused, Memory}
use Rattle.rec_reader.specs.Parsed.{Parsed}
use Rattle.rec_reader.specs.Tokens.{tokens_of, IsBadByte}
use Rattle.rec_reader.specs.Grammar.{IsInput}
use Rattle.rec_reader.specs.Refusal.{IsRefusal}
use Rattle.rec_offences.specs.Faults.{fault_of}
use Rattle.rec_check.specs.Checked.{IsFault as IsOffence}
use Rattle.rec_check.specs.Conditional.{first_if, IsConditional}
use Rattle.run_checks.specs.Specification.{IsRead, IsFaulty}

pub byte_fails : (input : List ℕ) (e : ReadFail) → IsBadByte input e → IsFaulty input e
byte_fails input (Refused kind offset) b = inl (record { kind = b.0; place = b.1 })
byte_fails input Memory b = tt

pub token_fails : (input : List ℕ) (tokens : List Token) (e : ReadFail) → tokens_of input ≡ Ok tokens → IsRefusal (record { bytes = input; tokens = tokens }) e → IsFaulty input e
token_fails input tokens (Refused kind offset) cut r = inr (inl (record { tokens = tokens; cut = cut; refusal = r }))
token_fails input tokens Memory cut r = tt

pub is_read : (input : List ℕ) (tokens : List Token) (syntax : Parsed) → syntax.bytes ≡ input → tokens_of input ≡ Ok tokens → IsInput tokens syntax.specifications → IsRead input syntax
is_read input tokens syntax b cut s = record { bytes = b; tokens = tokens; cut = cut; sentence = s }

module _ (input : List ℕ) (syntax : Parsed) (read : IsRead input syntax) where
  pub offence_fails : (e : ReadFail) → IsOffence (fault_of syntax) e → IsFaulty input e
  offence_fails (Refused kind offset) f = inr (inr (inl (record { syntax = syntax; read = read; first = f })))
  offence_fails Memory f = tt

  pub condition_fails : (e : ReadFail) → fault_of syntax ≡ None → IsConditional (first_if syntax) e → IsFaulty input e
  condition_fails (Refused kind offset) none f = inr (inr (inr (record { syntax = syntax; read = read; faultless = none; kind = f.0; first = f.1 })))
  condition_fails Memory none f = tt
