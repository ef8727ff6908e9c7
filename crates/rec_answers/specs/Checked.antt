-- Checking a log, and an output with traces: what is written of it, and why an input is refused.
use Rattle.std.specs.Prelude.{◌≡◌, ◌⊎◌, ℕ, List, ◌++◌, codes, Bool, true, false, Ok, Err}
use Rattle.std.specs.Fmt.{decimal}
use Rattle.history_core.specs.Chronicle.{IsGood}
use Rattle.log_check.specs.Log.{Log, log_in}
use Rattle.log_check.specs.Verdict.{IsFound, lists_of}
use Rattle.log_check.specs.declared.verdict.LogVerdict.{LogVerdict}
use Rattle.log_check.specs.declared.verdict.LogVerdict.TheVariants.{Legal, Illegal}
use Rattle.run_checks.specs.Reached.{AreReached}
use Rattle.run_checks.specs.Verdict.{IsChecked, IsBadHeading, IsBadSpecification, IsBadLine}
use Rattle.run_checks.specs.declared.checking.TraceVerdict.{TraceVerdict}
use Rattle.run_checks.specs.declared.checking.TraceVerdict.TheVariants.{Derived, Underived}
use Rattle.faults.specs.declared.refusal.Refusal.{Refusal}
use Rattle.rec_answers.specs.Lines.{line}
use Rattle.rec_answers.specs.Written.{Output}

-- legal M, where the log has M entries, or illegal L, where L is the line of the first wrong one
abbrev pub verdict_text : LogVerdict → List ℕ
verdict_text (Legal m) = codes "legal " ++ decimal m
verdict_text (Illegal n) = codes "illegal " ++ decimal n

abbrev pub is_illegal : LogVerdict → Bool
is_illegal (Legal m) = false
is_illegal (Illegal n) = true

abbrev pub verdict_output : LogVerdict → Output
verdict_output verdict =
    record {
      bytes = line (verdict_text verdict);
      values = true;
      refuted = is_illegal verdict;
      terms = 0;
    }

-- the input is a log, and this is what is found of it
pub record IsLogChecked (input : List ℕ) (output : Output) : Type 0 where
  pub verdict : LogVerdict
  pub found : IsFound (log_in input) verdict
  pub output_is : output ≡ verdict_output verdict

-- the input is no log, and this is its first line of a wrong form, or the line after the last where
-- it has no end
pub record IsLogFault (input : List ℕ) (fault : Refusal) : Type 0 where
  pub at : ℕ
  pub none : log_in input ≡ Err at
  pub fault_is : fault ≡ record { kind = 15; place = at }

-- the input is a log that is good
pub record IsGoodLog (input : List ℕ) : Type 0 where
  pub log : Log
  pub log_is : log_in input ≡ Ok log
  pub good : IsGood log.rows (lists_of log)

-- it is a log that isn't
pub record IsBadLog (input : List ℕ) : Type 0 where
  pub log : Log
  pub log_is : log_in input ≡ Ok log
  pub bad : IsGood log.rows (lists_of log) → ⊥

-- derived V, where the output has V values, or underived I, where I is the first term whose trace
-- doesn't lead to its line
abbrev pub trace_text : TraceVerdict → List ℕ
trace_text (Derived v) = codes "derived " ++ decimal v
trace_text (Underived i) = codes "underived " ++ decimal i

abbrev pub is_underived : TraceVerdict → Bool
is_underived (Derived v) = false
is_underived (Underived i) = true

abbrev pub trace_output : TraceVerdict → Output
trace_output verdict =
    record {
      bytes = line (trace_text verdict);
      values = true;
      refuted = is_underived verdict;
      terms = 0;
    }

-- the input has a specification and a well-formed output of it with traces, and this is what is
-- found of them
pub record IsTraceChecked (input : List ℕ) (output : Output) : Type 0 where
  pub verdict : TraceVerdict
  pub checked : IsChecked input verdict
  pub output_is : output ≡ trace_output verdict

-- the input begins with no specification's line, its specification has a fault, or a line after
-- that has a wrong form
abbrev pub IsTraceFault : List ℕ → Refusal → Type 0
IsTraceFault input fault =
    IsBadHeading input fault ⊎ (IsBadSpecification input fault ⊎ IsBadLine input fault)

-- each trace leads from its term to its line, whose value single steps reach from the term
pub record IsDerived (input : List ℕ) : Type 0 where
  pub values : ℕ
  pub checked : IsChecked input (Derived values)
  pub reached : AreReached input values

-- the trace of some term doesn't lead to its line
pub record IsUnderived (input : List ℕ) : Type 0 where
  pub term : ℕ
  pub checked : IsChecked input (Underived term)
