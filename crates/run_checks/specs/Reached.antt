-- What is true of a checked output whose traces all lead to their lines.
use Rattle.std.specs.Prelude.{◌≡◌, ℕ, List, [], length, slice_get, slice_index_or, Some, All}
use Rattle.term_model.specs.Tree.{Tree}
use Rattle.rewrite_model.specs.Rule.{IsUnconditional}
use Rattle.rewrite_model.specs.Step.{Reaches}
use Rattle.rec_check.specs.Spelled.{Specified}
use Rattle.term_text.specs.Text.{text}
use Rattle.run_checks.specs.declared.checking.TraceVerdict.{TraceVerdict}
use Rattle.run_checks.specs.declared.checking.TraceVerdict.TheVariants.{Derived, Underived}
use Rattle.run_checks.specs.Form.{values_from}
use Rattle.run_checks.specs.Verdict.{HasParts, term_lines}

-- the line of the term with a number, of these, is the text of a tree that steps of the rules reach
-- from the term
pub record IsReached (s : Specified) (ls : List (List ℕ)) (i : ℕ) : Type 0 where
  pub term : Tree
  pub term_is : slice_get s.terms i ≡ Some term
  pub value : Tree
  pub reached : Reaches s.rules term value
  pub line_is : slice_index_or ls i [] ≡ text s.symbols value

-- there are so many lines that are values, and each of them is reached from its term; no rule has a
-- condition, so that single steps by the rules are all that rewriting by them may be
pub record AreReached (bytes : List ℕ) (values : ℕ) : Type 0 where
  pub spec : Specified
  pub all_lines : List (List ℕ)
  pub in_parts : HasParts bytes spec all_lines
  pub unconditional : All IsUnconditional spec.rules
  pub count : length (values_from 0 (term_lines spec all_lines)) ≡ values
  pub each : All (IsReached spec (term_lines spec all_lines))
      (values_from 0 (term_lines spec all_lines))

abbrev pub IsSound : List ℕ → TraceVerdict → Type 0
IsSound bytes (Derived values) = AreReached bytes values
IsSound bytes (Underived number) = Unit {0}
