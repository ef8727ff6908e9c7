-- The output of a specification whose values are led to is found derived, with the specification
-- before it.
use Rattle.std.proofs.Common.{◌≡◌, ℕ, ◌<◌, ◌^◌, List, [], ◌∷◌, ◌++◌, length, Some, All, refl, ap, ◌∙◌, arith}
use Rattle.std.specs.Prelude.{codes, option_and_then}
use Rattle.std.specs.Fmt.{decimal}
use Rattle.std.specs.List.{AllByRecursion}
use Rattle.std.proofs.lemmas.List.Elements.{All-head, All-tail, All-weaker}
use Rattle.term_model.specs.Tree.{Tree}
use Rattle.rewrite_model.specs.Rule.{Rule}
use Rattle.rule_match.specs.Planned.{HasSymbolsAlone, IsPlain}
use Rattle.rec_reader.specs.Tokens.{tokens_of}
use Rattle.rec_check.specs.Spelled.{Specified}
use Rattle.rec_check.specs.Symbols.{widest_of}
use Rattle.rec_check.specs.Run.{MayBeRun}
use Rattle.rec_check.proofs.Plans.{last_runs}
use Rattle.rec_check.proofs.Widths.{few_arguments}
use Rattle.rec_check.proofs.Clear.{ClearSymbols, names_are_clear}
use Rattle.log_check.specs.Words.{lines}
use Rattle.run_checks.specs.Parts.{parts, announced, cut_at}
use Rattle.run_checks.specs.Laws.{OutputsAreDerived}
use Rattle.run_checks.specs.Endings.{Ending, Leads, line, output_text, checked_text}
use Rattle.run_checks.proofs.Decimals.{number_is_read, decimal_free}
use Rattle.run_checks.proofs.Joining.{line_is_cut, text_is_cut}
use Rattle.run_checks.proofs.FewTerms.{few_terms}
use Rattle.run_checks.proofs.Narrow.{IsNarrow, WritesNarrow, plain_is_narrow}
use Rattle.run_checks.proofs.Acceptance.{IsFine, is_fine, is_formed, is_derived_all}

-- the parts of the input
parts_are : (text output : List ℕ) → length text < 2 ^ 64
    → parts (checked_text text output) ≡ Some (text, output)
parts_are text output small =
    let size = length text in
    let heading : List ℕ = codes "spec " ++ decimal size in
    let rest : List ℕ = line text ++ output in
    ap (λ o. option_and_then (λ (p : List ℕ × List ℕ).
    option_and_then (λ n. cut_at n p.1) (announced p.0)) o)
    (line_is_cut heading rest (decimal_free 10 size (omega arith) (omega (arith, small))))
    ∙ ap (λ o. option_and_then (λ n. cut_at n rest) o) (number_is_read size (omega (arith, small)))
    ∙ text_is_cut text output

all_fine : (s : Specified) (most : ℕ) (ending : Tree → Ending) → most < 10 ^ 64
    → length s.rules < 10 ^ 64 → All (WritesNarrow most) s.rules → ClearSymbols s.symbols
    → (ts : List Tree) → All (IsNarrow most) ts → All (λ t. Leads s.rules t (ending t)) ts
    → AllByRecursion (λ t. IsFine s t (ending t)) ts
all_fine s most ending a b w c [] n l = tt
all_fine s most ending a b w c (t ∷ ts) n l = (
  is_fine s most a b w c t (ending t) (All-head (IsNarrow most) t ts n)
      (All-head (λ u. Leads s.rules u (ending u)) t ts l),
  all_fine s most ending a b w c ts (All-tail (IsNarrow most) t ts n)
      (All-tail (λ u. Leads s.rules u (ending u)) t ts l),
)

pub outputs_are_derived : OutputsAreDerived
outputs_are_derived text spec ending spelled small lead =
    let run : MayBeRun spec = last_runs spelled.syntax spec spelled.spec_is in
    let most = widest_of spec.symbols in
    let width = few_arguments spelled.syntax spec spelled.spec_is in
    let clear = names_are_clear spelled.syntax spelled.read.tokens spec
    (ap tokens_of spelled.read.bytes ∙ spelled.read.cut) spelled.read.sentence spelled.spec_is in
    let terms = few_terms text spec spelled in
    let count = run.plan.count in
    let write : All (WritesNarrow most) spec.rules =
    All-weaker (HasSymbolsAlone most) (WritesNarrow most)
    (λ (r : Rule) p. plain_is_narrow most r.right p.right) spec.rules run.plan.symbols in
    let narrow : All (IsNarrow most) spec.terms =
    All-weaker (IsPlain most) (IsNarrow most) (λ t p. plain_is_narrow most t p) spec.terms
    run.plain in
    let fine = all_fine spec most ending (omega (arith, width)) (omega (arith, count)) write clear
    spec.terms narrow lead in
    let few : length spec.terms < 10 ^ 64 = omega (arith, terms) in
    record {
      spec = spec;
      all_lines = lines (output_text spec ending);
      in_parts = record {
        spec_text = text;
        output = output_text spec ending;
        parts_are = parts_are text (output_text spec ending) small;
        spelled = spelled;
        lines_are = refl;
      };
      formed = is_formed spec ending few fine;
      verdict_is = is_derived_all spec ending few fine;
    }
