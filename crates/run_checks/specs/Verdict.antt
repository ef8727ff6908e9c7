-- What a checked output comes to.
use Rattle.std.specs.Prelude.{◌≡◌, ◌⊎◌, ℕ, List, [], ◌∷◌, length, take, drop, slice_index_or, Option, Some, None, Bool, false, if◌then◌else◌, option_and_then}
use Rattle.std.specs.Option.{option_map_or}
use Rattle.std.specs.Str.{bytes_eq}
use Rattle.faults.specs.declared.refusal.Refusal.{Refusal}
use Rattle.read_faults.specs.declared.fail.ReadFail.{ReadFail}
use Rattle.read_faults.specs.declared.fail.ReadFail.TheVariants.{Refused, Memory}
use Rattle.symbol_pool.specs.Pool.{Named}
use Rattle.term_model.specs.Tree.{Tree, Leaf}
use Rattle.rewrite_model.specs.Rule.{Rule}
use Rattle.rewrite_model.specs.Replay.{replayed}
use Rattle.rewrite_model.specs.declared.event.Event.{Event}
use Rattle.rec_check.specs.Spelled.{Specified}
use Rattle.term_text.specs.Text.{text}
use Rattle.log_check.specs.Words.{lines}
use Rattle.run_checks.specs.declared.checking.TraceVerdict.{TraceVerdict}
use Rattle.run_checks.specs.declared.checking.TraceVerdict.TheVariants.{Derived, Underived}
use Rattle.run_checks.specs.Form.{trace_in, values_from, wrong_line}
use Rattle.run_checks.specs.Parts.{parts}
use Rattle.run_checks.specs.Specification.{Spells, IsFault}

-- ---- the verdict

-- whether events, with the cursor at the root of a term, lead to a tree whose text is this line
abbrev pub leads_to : List Named → List Rule → Option (List Event) → Tree → List ℕ → Bool
leads_to names rules es t line =
    option_map_or (λ u. bytes_eq line (text names u))
    (option_and_then (λ events. replayed rules events [] t) es) false

-- whether a trace leads from the term with a number to its line
abbrev pub is_derived : Specified → List (List ℕ) → ℕ → List ℕ → Bool
is_derived s ls i trace =
    leads_to s.symbols s.rules (trace_in i trace) (slice_index_or s.terms i (Leaf 0))
    (slice_index_or ls i [])

-- the first of these terms whose trace doesn't lead to its line; the traces stand in the same order
abbrev pub first_underived : Specified → List (List ℕ) → List ℕ → List (List ℕ) → Option ℕ
first_underived s ls [] traces = None
first_underived s ls (i ∷ is) [] = None
first_underived s ls (i ∷ is) (trace ∷ traces) =
    if is_derived s ls i trace then first_underived s ls is traces else Some i

abbrev pub told : Option ℕ → ℕ → TraceVerdict
told None values = Derived values
told (Some i) values = Underived i

-- the verdict on the lines of the terms and on the lines after them
abbrev pub verdict : Specified → List (List ℕ) → List (List ℕ) → TraceVerdict
verdict s ls traces =
    told (first_underived s ls (values_from 0 ls) traces) (length (values_from 0 ls))

-- ---- an input with a specification

-- the input has the text of this specification, and these lines after it
pub record HasParts (bytes : List ℕ) (spec : Specified) (ls : List (List ℕ)) : Type 0 where
  pub spec_text : List ℕ
  pub output : List ℕ
  pub parts_are : parts bytes ≡ Some (spec_text, output)
  pub spelled : Spells spec_text spec
  pub lines_are : ls ≡ lines output

-- the lines of the terms, and those after them
abbrev pub term_lines : Specified → List (List ℕ) → List (List ℕ)
term_lines s ls = take (length s.terms) ls

abbrev pub trace_lines : Specified → List (List ℕ) → List (List ℕ)
trace_lines s ls = drop (length s.terms) ls

-- the input has a specification and a well-formed output of it, and this is the verdict
pub record IsChecked (bytes : List ℕ) (v : TraceVerdict) : Type 0 where
  pub spec : Specified
  pub all_lines : List (List ℕ)
  pub in_parts : HasParts bytes spec all_lines
  pub formed : wrong_line (length spec.terms) all_lines ≡ None
  pub verdict_is : v ≡ verdict spec (term_lines spec all_lines) (trace_lines spec all_lines)

-- ---- refusals

-- the input doesn't begin with a line `spec N`, N bytes and a line feed: line 0
pub record IsBadHeading (bytes : List ℕ) (fault : Refusal) : Type 0 where
  pub no_parts : parts bytes ≡ None
  pub kind : fault.kind ≡ 15
  pub line : fault.place ≡ 0

-- the fault of its specification, at its place there
pub record IsBadSpecification (bytes : List ℕ) (fault : Refusal) : Type 0 where
  pub spec_text : List ℕ
  pub output : List ℕ
  pub parts_are : parts bytes ≡ Some (spec_text, output)
  pub fault_is : IsFault spec_text fault

-- the first line of a wrong form after it, counted from 1
pub record IsBadLine (bytes : List ℕ) (fault : Refusal) : Type 0 where
  pub spec : Specified
  pub all_lines : List (List ℕ)
  pub in_parts : HasParts bytes spec all_lines
  pub kind : fault.kind ≡ 15
  pub line : wrong_line (length spec.terms) all_lines ≡ Some fault.place

-- first the line `spec N` and its bytes, then the specification, then the lines; want of memory has
-- no cause
abbrev pub IsRefused : List ℕ → ReadFail → Type 0
IsRefused bytes (Refused kind offset) =
    let fault : Refusal = record { kind = kind; place = offset } in
    IsBadHeading bytes fault ⊎ (IsBadSpecification bytes fault ⊎ IsBadLine bytes fault)
IsRefused bytes Memory = Unit {0}
