-- What is true of all outputs with traces.
use Rattle.std.specs.Prelude.{ℕ, ◌<◌, ◌^◌, List, length, count_by, All}
use Rattle.term_model.specs.Tree.{Tree}
use Rattle.rec_check.specs.Spelled.{Specified}
use Rattle.run_checks.specs.declared.checking.TraceVerdict.TheVariants.{Derived}
use Rattle.run_checks.specs.Specification.{Spells}
use Rattle.run_checks.specs.Verdict.{IsChecked}
use Rattle.run_checks.specs.Endings.{Ending, Leads, is_value, output_text, checked_text}

-- Whatever a specification's terms end with: where the events of each value lead to it from its
-- term, the output that is written of them is found derived, with as many values as there are.
abbrev pub OutputsAreDerived : Type 0
OutputsAreDerived =
    (specification : List ℕ) (spec : Specified) (ending : Tree → Ending) →
    Spells specification spec → length specification < 2 ^ 64 →
    All (λ t. Leads spec.rules t (ending t)) spec.terms →
    IsChecked (checked_text specification (output_text spec ending))
    (Derived (count_by (λ t. is_value (ending t)) spec.terms))
