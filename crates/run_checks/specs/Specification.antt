-- The specification that a text spells, without conditions, and what is wrong with a text that
-- spells none.
use Rattle.std.specs.Prelude.{◌≡◌, ◌⊎◌, ℕ, List, Some, None, Ok, Err}
use Rattle.faults.specs.declared.refusal.Refusal.{Refusal}
use Rattle.rec_reader.specs.declared.token.Token.{Token}
use Rattle.rec_reader.specs.Parsed.{Parsed}
use Rattle.read_faults.specs.declared.fail.ReadFail.{ReadFail}
use Rattle.read_faults.specs.declared.fail.ReadFail.TheVariants.{Refused, Memory}
use Rattle.rec_reader.specs.Tokens.{tokens_of}
use Rattle.rec_reader.specs.Grammar.{IsInput}
use Rattle.rec_reader.specs.Refusal.{IsRefusal}
use Rattle.rec_offences.specs.Faults.{fault_of}
use Rattle.rec_check.specs.Conditional.{first_if}
use Rattle.rec_check.specs.Run.{spelled_in}
use Rattle.rec_check.specs.Spelled.{Specified}

-- the tokens of the text are a sentence, of which this is the syntax
pub record IsRead (text : List ℕ) (syntax : Parsed) : Type 0 where
  pub bytes : syntax.bytes ≡ text
  pub tokens : List Token
  pub cut : tokens_of text ≡ Ok tokens
  pub sentence : IsInput tokens syntax.specifications

-- the text spells this specification, there is no offence in it, and none of the rules that run has
-- a condition
pub record Spells (text : List ℕ) (spec : Specified) : Type 0 where
  pub syntax : Parsed
  pub read : IsRead text syntax
  pub faultless : fault_of syntax ≡ None
  pub unconditional : first_if syntax ≡ None
  pub spec_is : spelled_in syntax ≡ Some spec

-- a byte where nothing begins
pub record IsByteFault (text : List ℕ) (fault : Refusal) : Type 0 where
  pub kind : fault.kind ≡ 1
  pub place : tokens_of text ≡ Err fault.place

-- tokens that are no sentence
pub record IsTokenFault (text : List ℕ) (fault : Refusal) : Type 0 where
  pub tokens : List Token
  pub cut : tokens_of text ≡ Ok tokens
  pub refusal : IsRefusal (record { bytes = text; tokens = tokens })
      (Refused fault.kind fault.place)

-- a sentence with an offence, of which this is the first
pub record IsOffenceFault (text : List ℕ) (fault : Refusal) : Type 0 where
  pub syntax : Parsed
  pub read : IsRead text syntax
  pub first : fault_of syntax ≡ Some (record { kind = fault.kind; place = fault.place })

-- a sentence without offence, with a condition in a rule that runs, of which this is the first
pub record IsConditionFault (text : List ℕ) (fault : Refusal) : Type 0 where
  pub syntax : Parsed
  pub read : IsRead text syntax
  pub faultless : fault_of syntax ≡ None
  pub kind : fault.kind ≡ 19
  pub first : first_if syntax ≡ Some fault.place

abbrev pub IsFault : List ℕ → Refusal → Type 0
IsFault text fault =
    IsByteFault text fault
    ⊎ (IsTokenFault text fault ⊎ (IsOffenceFault text fault ⊎ IsConditionFault text fault))

-- the fault of a text; want of memory has none
abbrev pub IsFaulty : List ℕ → ReadFail → Type 0
IsFaulty text (Refused kind offset) = IsFault text (record { kind = kind; place = offset })
IsFaulty text Memory = Unit {0}
