-- Rewriting the terms of a specification: what is written, how many rows and numbers it needs, and
-- what is wrong with an input.
use Rattle.std.specs.Prelude.{◌≡◌, ◌⊎◌, ℕ, ◌+◌, ◌*◌, ◌^◌, ◌≤◌, ◌<◌, ◌++◌, if◌then◌else◌, List, length, false, Some, None, Ok, Err, All}
use Rattle.rec_reader.specs.declared.token.Token.{Token}
use Rattle.rec_reader.specs.Parsed.{Parsed}
use Rattle.read_faults.specs.declared.fail.ReadFail.TheVariants.{Refused}
use Rattle.rec_reader.specs.Tokens.{tokens_of}
use Rattle.rec_reader.specs.Grammar.{IsInput}
use Rattle.rec_reader.specs.Refusal.{IsRefusal}
use Rattle.rec_offences.specs.Faults.{fault_of}
use Rattle.faults.specs.declared.refusal.Refusal.{Refusal}
use Rattle.rec_check.specs.Spelled.{Specified}
use Rattle.rec_check.specs.Run.{spelled_in}
use Rattle.rec_check.specs.Conditional.{first_if}
use Rattle.rewrite_model.specs.Built.{need_of_all}
use Rattle.term_model.specs.Tree.{distinct}
use Rattle.settings.specs.declared.parts.Settings.{Settings}
use Rattle.work_order.specs.Works.{built_of, IsInnermost}
use Rattle.rec_answers.specs.Traced.{traces_of}
use Rattle.rec_answers.specs.Sequence.{WriteNames, lines_of, all_values}
use Rattle.term_text.specs.Text.{HasNames}
use Rattle.rec_answers.specs.Written.{Output}
use Rattle.rec_answers.specs.declared.specification.Conditions.{Conditions}
use Rattle.rec_answers.specs.declared.specification.Conditions.TheVariants as conditions

-- the tokens of the input are a sentence, of which this is the syntax
pub record IsRead (input : List ℕ) (syntax : Parsed) : Type 0 where
  pub bytes : syntax.bytes ≡ input
  pub tokens : List Token
  pub cut : tokens_of input ≡ Ok tokens
  pub sentence : IsInput tokens syntax.specifications

-- the input spells this specification, and there is no offence in it
pub record Spells (input : List ℕ) (spec : Specified) : Type 0 where
  pub syntax : Parsed
  pub read : IsRead input syntax
  pub faultless : fault_of syntax ≡ None
  pub spec_is : spelled_in syntax ≡ Some spec

-- all symbols of the terms, and those that the rules write, are among its symbols
pub record IsNamed (spec : Specified) : Type 0 where
  pub rules : WriteNames spec.symbols spec.rules
  pub terms : All (HasNames spec.symbols) spec.terms

-- the lines of the terms in order, and behind them the traces, where these are asked
abbrev pub bytes_of : Settings → Specified → List ℕ
bytes_of s spec =
    if s.trace then lines_of s spec.symbols spec.rules spec.terms ++ traces_of s spec
    else lines_of s spec.symbols spec.rules spec.terms

abbrev pub output_of : Settings → Specified → Output
output_of s spec = record {
  bytes = bytes_of s spec;
  values = all_values s spec.rules spec.terms;
  refuted = false;
  terms = length spec.terms;
}

-- the input spells a specification, and this is what comes of its terms
pub record IsRewritten (s : Settings) (input : List ℕ) (output : Output) : Type 0 where
  pub spec : Specified
  pub spelled : Spells input spec
  pub output_is : output ≡ output_of s spec

-- a byte where nothing begins
pub record IsByteFault (input : List ℕ) (fault : Refusal) : Type 0 where
  pub kind : fault.kind ≡ 1
  pub place : tokens_of input ≡ Err fault.place

-- tokens that are no sentence
pub record IsTokenFault (input : List ℕ) (fault : Refusal) : Type 0 where
  pub tokens : List Token
  pub cut : tokens_of input ≡ Ok tokens
  pub refusal : IsRefusal (record { bytes = input; tokens = tokens })
      (Refused fault.kind fault.place)

-- a sentence with an offence, of which this is the first
pub record IsOffenceFault (input : List ℕ) (fault : Refusal) : Type 0 where
  pub syntax : Parsed
  pub read : IsRead input syntax
  pub first : fault_of syntax ≡ Some (record { kind = fault.kind; place = fault.place })

-- the input spells no specification, or one with an offence, and this is its fault
abbrev pub IsSpecificationFault : List ℕ → Refusal → Type 0
IsSpecificationFault input fault =
    IsByteFault input fault ⊎ IsTokenFault input fault ⊎ IsOffenceFault input fault

-- the rules that are run have no conditions
abbrev pub HasNoConditions : List ℕ → Type 0
HasNoConditions input = (syntax : Parsed) → IsRead input syntax → first_if syntax ≡ None

-- whether the settings ask for traces, which are told of rules without conditions alone
abbrev pub conditions_of : Settings → Conditions
conditions_of s = if s.trace then conditions.Refused else conditions.Accepted

abbrev pub MeetsConditions : Conditions → List ℕ → Type 0
MeetsConditions conditions.Accepted input = Unit {0}
MeetsConditions conditions.Refused input = HasNoConditions input

-- The input spells a specification without an offence; but its rules may have no conditions, and
-- this is the first one.
pub record IsConditionFault (input : List ℕ) (fault : Refusal) : Type 0 where
  pub syntax : Parsed
  pub read : IsRead input syntax
  pub faultless : fault_of syntax ≡ None
  pub kind : fault.kind ≡ 19
  pub first : first_if syntax ≡ Some fault.place

-- the fault of an input, where conditions are accepted or not
abbrev pub IsInputFault : Conditions → List ℕ → Refusal → Type 0
IsInputFault conditions.Accepted input fault = IsSpecificationFault input fault
IsInputFault conditions.Refused input fault =
    IsSpecificationFault input fault ⊎ IsConditionFault input fault

-- Both the different trees that the terms build, and the most that the workers may have in hand at
-- once, are more than the rows. A worker has at most as many in hand as the term that needs most.
-- Of outermost rewriting no need is known, and the trees that are built decide alone.
pub record RowsAreFew (s : Settings) (input : List ℕ) : Type 0 where
  pub spec : Specified
  pub spelled : Spells input spec
  pub built : s.rows < distinct (built_of s spec.rules spec.terms)
  pub need : IsInnermost s → s.rows < s.workers * need_of_all spec.rules spec.terms s.fuel s.depth

-- the different trees that the terms build, or the most that the workers may have in hand at once,
-- where that is known, aren't more than the rows
abbrev pub RowsSuffice : Settings → List ℕ → Type 0
RowsSuffice s input = (spec : Specified) → Spells input spec →
    (distinct (built_of s spec.rules spec.terms) ≤ s.rows)
    ⊎ (IsInnermost s × (s.workers * need_of_all spec.rules spec.terms s.fuel s.depth ≤ s.rows))

-- How far the numbers of the store's entries may go. There are at most as many collections as trees
-- are built, and one more for each worker. Each uses up at most as many numbers as there are rows
-- and workers, and one, and wants two such lots.
abbrev pub most_numbers : Settings → Specified → ℕ
most_numbers s spec =
    (length (built_of s spec.rules spec.terms) + s.workers + 2) * (s.rows + s.workers + 1)

-- the numbers of the store may end
pub record NumbersMayEnd (s : Settings) (input : List ℕ) : Type 0 where
  pub spec : Specified
  pub spelled : Spells input spec
  pub many : 2 ^ 62 ≤ most_numbers s spec

-- they suffice
abbrev pub NumbersSuffice : Settings → List ℕ → Type 0
NumbersSuffice s input = (spec : Specified) → Spells input spec → most_numbers s spec < 2 ^ 62
