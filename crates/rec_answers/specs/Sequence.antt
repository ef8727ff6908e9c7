-- The lines of the terms of a specification, whichever worker made each.
use Rattle.std.specs.Prelude.{◌≡◌, ℕ, ◌<◌, ◌++◌, codes, if◌then◌else◌, List, Bool, All, map, count_by, sum_by, length}
use Rattle.std.specs.List.{flat_map, list_all}
use Rattle.term_model.specs.Tree.{Tree}
use Rattle.symbol_pool.specs.Pool.{Named}
use Rattle.rewrite_model.specs.Rule.{Rule}
use Rattle.settings.specs.declared.parts.Settings.{Settings}
use Rattle.term_lines.specs.Laws.{WritesNames}
use Rattle.term_lines.specs.Line.{line_text, is_value, is_value_kind, spent_of}
use Rattle.work_order.specs.Lined.{said, line_of, trace_of, end_of}
use Rattle.worker_crew.specs.declared.lines.Lines.{Lines}
use Rattle.work_order.specs.Lacking.{LacksRows}
use Rattle.work_order.specs.Wearing.{WearsOut}
use Rattle.rec_check.specs.Spelled.{Specified}
use Rattle.rec_answers.specs.Lines.{line}
use Rattle.rec_answers.specs.Traced.{told_before}
use Rattle.rec_answers.specs.declared.stops.Stop.{Stop}
use Rattle.rec_answers.specs.declared.stops.Stop.TheVariants.{Usage, Refused, StoreFull, ReadFault, WriteFault, Memory, Worn}

-- the right sides of all rules have names
abbrev pub WriteNames : List Named → List Rule → Type 0
WriteNames symbols rules = All (WritesNames symbols) rules

-- the lines of terms in order
abbrev pub lines_of : Settings → List Named → List Rule → List Tree → List ℕ
lines_of s symbols rules terms =
    flat_map (λ t. line (line_text s.sizes symbols (end_of s rules t))) terms

-- whether each line is a value
abbrev pub all_values : Settings → List Rule → List Tree → Bool
all_values s rules terms = list_all (λ t. is_value s.sizes (end_of s rules t)) terms

-- how many lines are values
abbrev pub values_among : Settings → List Rule → List Tree → ℕ
values_among s rules terms = count_by (λ t. is_value s.sizes (end_of s rules t)) terms

-- the fuel that the values took together
abbrev pub spent_among : Settings → List Rule → List Tree → ℕ
spent_among s rules terms = sum_by (λ t. spent_of s.sizes s.fuel (end_of s rules t)) terms

-- each of so many terms has one of so many workers
pub record IsSplit (count : ℕ) (workers : List ℕ) (terms : ℕ) : Type 0 where
  pub each : length workers ≡ terms
  pub below : All (λ w. w < count) workers

-- The lines are those of the terms in order, with their values and the fuel of these, and each was
-- made by one of the workers. The events beside them lead to the values, where these are asked.
pub record AreLinesOf (s : Settings) (spec : Specified) (lines : Lines) : Type 0 where
  pub each : map said lines.list.items ≡ map (line_of s spec.symbols spec.rules) spec.terms
  pub traces : map (λ t. t.items) lines.traces.items ≡ map (trace_of s spec.rules) spec.terms
  pub text : flat_map (λ l. line l.text.items) lines.list.items
      ≡ lines_of s spec.symbols spec.rules spec.terms
  pub values : list_all (λ l. is_value_kind l.kind) lines.list.items
      ≡ all_values s spec.rules spec.terms
  pub count : count_by (λ l. is_value_kind l.kind) lines.list.items
      ≡ values_among s spec.rules spec.terms
  pub spent : sum_by (λ l. l.spent) lines.list.items ≡ spent_among s spec.rules spec.terms
  pub workers : IsSplit s.workers (map (λ l. l.worker) lines.list.items) (length spec.terms)

-- why the lines of terms aren't all made
abbrev pub StopsTerms : Settings → List Rule → List Tree → Stop → Type 0
StopsTerms s rules terms Usage = ⊥
StopsTerms s rules terms (Refused fault) = ⊥
StopsTerms s rules terms StoreFull = LacksRows s rules terms
StopsTerms s rules terms ReadFault = ⊥
StopsTerms s rules terms WriteFault = ⊥
StopsTerms s rules terms Memory = Unit {0}
StopsTerms s rules terms Worn = WearsOut s rules terms

-- the lines, each with its end, and the traces behind them, where they are asked
abbrev pub text_told : Lines → Bool → List ℕ
text_told lines traced =
    let text = flat_map (λ l. line l.text.items) lines.list.items in
    if traced
    then text ++ (told_before lines.list.items lines.traces.items (length lines.list.items) ++ line (codes "# end"))
    else text
