-- A drill: the terms of a text that is made from a number are rewritten, and what came of them is
-- counted.
use Rattle.std.specs.Prelude.{◌≡◌, ℕ, List, ◌++◌, false, length, codes, decimal}
use Rattle.rec_check.specs.Spelled.{Specified}
use Rattle.settings.specs.declared.parts.Settings.{Settings}
use Rattle.rec_answers.specs.Lines.{line}
use Rattle.rec_answers.specs.Sequence.{all_values, values_among, spent_among}
use Rattle.rec_answers.specs.Rewritten.{Spells}
use Rattle.rec_answers.specs.Written.{Output}

-- a name, a space and a number
abbrev pub count_line : List ℕ → ℕ → List ℕ
count_line name n = line (name ++ decimal n)

-- how many terms there were, how many have a value, and the fuel that those took
abbrev pub counts_text : (terms values spent : ℕ) → List ℕ
counts_text terms values spent =
    count_line (codes "terms ") terms ++ count_line (codes "values ") values ++ count_line (codes "spent ") spent

abbrev pub drill_output : Settings → Specified → Output
drill_output s spec = record {
  bytes = counts_text s.count (values_among s spec.rules spec.terms)
      (spent_among s spec.rules spec.terms);
  values = all_values s spec.rules spec.terms;
  refuted = false;
  terms = length spec.terms;
}

-- the drill's text spells a specification, and this is what comes of its terms
pub record IsDrilled (s : Settings) (text : List ℕ) (output : Output) : Type 0 where
  pub spec : Specified
  pub spelled : Spells text spec
  pub output_is : output ≡ drill_output s spec
