-- What is true of all outputs with traces.
use Rattle.std.specs.Prelude.{◌≡◌, ℕ, ◌<◌, ◌≤◌, ◌^◌, List, length, true, false}
use Rattle.rec_check.specs.Spelled.{Specified}
use Rattle.settings.specs.declared.parts.Command.TheVariants.{Rewrite, CheckTrace}
use Rattle.settings.specs.declared.parts.Settings.{Settings}
use Rattle.work_order.specs.Works.{IsInnermost}
use Rattle.run_checks.specs.Endings.{checked_text}
use Rattle.run_checks.specs.Verdict.{IsChecked}
use Rattle.run_checks.specs.declared.checking.TraceVerdict.TheVariants.{Derived}
use Rattle.rec_answers.specs.Checked.{trace_output}
use Rattle.rec_answers.specs.Written.{Output}
use Rattle.rec_answers.specs.Output.{IsOutput}
use Rattle.rec_answers.specs.Sequence.{values_among}
use Rattle.rec_answers.specs.Rewritten.{Spells, HasNoConditions, bytes_of}

-- What innermost rewriting writes with traces of a specification without conditions is found
-- derived by the check of traces, given with the specification before it; and the values that the
-- check counts are those that were written.
abbrev pub TracesAreDerived : Type 0
TracesAreDerived =
    (s : Settings) (input : List ℕ) (spec : Specified) →
    IsInnermost s → s.trace ≡ true → s.sizes ≡ false → length input < 2 ^ 64 →
    Spells input spec → HasNoConditions input →
    IsChecked (checked_text input (bytes_of s spec))
    (Derived (values_among s spec.rules spec.terms))

-- The input spells a specification, and `check trace` with these settings writes `derived V` of it
-- and this output, where V is the number of its values.
pub record IsAccepted (s check : Settings) (input : List ℕ) (output : Output) : Type 0 where
  pub spec : Specified
  pub spelled : Spells input spec
  pub accepted : IsOutput check (checked_text input output.bytes)
      (trace_output (Derived (values_among s spec.rules spec.terms)))

-- So what `rewrite --trace` writes is accepted by `check trace`, where that takes so many bytes.
abbrev pub TracesAreAccepted : Type 0
TracesAreAccepted =
    (s check : Settings) (input : List ℕ) (output : Output) →
    s.command ≡ Rewrite → s.trace ≡ true → s.sizes ≡ false → check.command ≡ CheckTrace →
    IsOutput s input output → length (checked_text input output.bytes) ≤ 134217728 →
    IsAccepted s check input output
