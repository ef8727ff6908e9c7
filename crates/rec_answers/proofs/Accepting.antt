-- What is written with traces is what the check of traces finds derived.
use Rattle.std.proofs.Common.{◌≡◌, ℕ, suc, ◌+◌, ◌≤◌, Bool, true, false, cond, List, [], ◌∷◌, ◌++◌, length, get_or, All, refl, sym, ap, ap₂, ◌∙◌, subst, arith, append_assoc, append-nil}
use Rattle.std.specs.Prelude.{◌&&◌, not, Some, codes, count_by, if◌then◌else◌}
use Rattle.std.specs.Fmt.{decimal}
use Rattle.std.specs.List.{flat_map}
use Rattle.std.proofs.lemmas.List.{length-append}
use Rattle.std.proofs.lemmas.List.Elements.{All-weaker}
use Rattle.std.proofs.lemmas.List.Sums.{sum_by-cons}
use Rattle.std.proofs.Math.Seq.{get_or-append_seam}
use Rattle.symbol_pool.specs.Pool.{Named}
use Rattle.term_model.specs.Tree.{Tree, Leaf}
use Rattle.rewrite_model.specs.Rule.{Rule, IsRule, IsNode, IsUnconditional}
use Rattle.rewrite_model.specs.Run.{Ended, Done, OutOfFuel, TooDeep}
use Rattle.rewrite_model.specs.Evaluation.{evaluation}
use Rattle.rewrite_model.specs.Trace.{trace, replacements}
use Rattle.rewrite_model.specs.Replay.{replayed}
use Rattle.rewrite_model.specs.declared.event.Event.{Event}
use Rattle.rewrite_model.specs.declared.event.Event.TheVariants as event
use Rattle.rewrite_model.proofs.Derivations.{events_lead}
use Rattle.rewrite_model.proofs.InnermostDerives.{evaluation_derives}
use Rattle.rec_check.specs.Spelled.{Specified}
use Rattle.rec_check.specs.Run.{MayBeRun}
use Rattle.rec_check.proofs.Plans.{last_runs}
use Rattle.rec_check.proofs.WithoutIf.{unconditional_rules}
use Rattle.settings.specs.declared.parts.Command.{Command}
use Rattle.settings.specs.declared.parts.Command.TheVariants.{Rewrite}
use Rattle.settings.specs.declared.parts.Settings.{Settings}
use Rattle.term_lines.specs.Line.{is_too_large, line_text, is_value, is_value_kind}
use Rattle.line_ends.specs.declared.kind.LineKind.TheVariants as kind
use Rattle.term_lines.specs.Strategies.{ended}
use Rattle.term_lines.specs.Tracing.{tells, events_of}
use Rattle.term_lines.specs.declared.strategy.Strategy.{Strategy}
use Rattle.work_order.specs.Works.{IsInnermost, strategy_of, are_unconditional, tells_events, term_at}
use Rattle.work_order.specs.Lined.{end_of, trace_of}
use Rattle.run_checks.specs.Specification as checked
use Rattle.run_checks.specs.Endings as ending
use Rattle.run_checks.specs.Endings.{Ending, Value, TooLarge, Leads, checked_text, output_text, traces_from, ending_text, trace_line}
use Rattle.run_checks.specs.Verdict.{IsChecked}
use Rattle.run_checks.specs.declared.checking.TraceVerdict.TheVariants.{Derived}
use Rattle.run_checks.proofs.Accepting.{outputs_are_derived}
use Rattle.rec_answers.specs.Lines.{line}
use Rattle.rec_answers.specs.Traced.{event_text, trace_text, trace_at, traces_before, traces_of}
use Rattle.rec_answers.specs.Sequence.{lines_of, values_among}
use Rattle.rec_answers.specs.Rewritten.{Spells, HasNoConditions, IsRewritten, MeetsConditions, bytes_of}
use Rattle.rec_answers.specs.declared.specification.Conditions.TheVariants as conditions
use Rattle.rec_answers.specs.Checked.{trace_output}
use Rattle.rec_answers.specs.Written.{Output}
use Rattle.rec_answers.specs.Output.{limit_of, IsOutputOf}
use Rattle.rec_answers.specs.Laws.{TracesAreDerived, TracesAreAccepted}
use Rattle.rec_answers.proofs.Unconditional.{none_has}

-- ---- how a term ends, in the words of the check

abbrev too_large_or : Bool → Ending → Ending
too_large_or true e = TooLarge
too_large_or false e = e

-- whether a value that is too large or not is one
abbrev term_value : Bool → Bool
term_value b = is_value_kind (if not b then kind.Value else kind.TooLarge)

abbrev as_told : Ended Tree → List Event → Ending
as_told (Done u left) events = too_large_or (is_too_large u) (Value u events)
as_told OutOfFuel events = ending.OutOfFuel
as_told TooDeep events = ending.TooDeep

same_line : (names : List Named) (e : Ended Tree) (events : List Event)
    → line_text false names e ≡ ending_text names (as_told e events)
same_line names (Done u left) events = by (is_too_large u)
  where
    by : (b : Bool) → (if b then codes "too large" else ending_text names (Value u events))
        ≡ ending_text names (too_large_or b (Value u events))
    by true = refl
    by false = refl
same_line names OutOfFuel events = refl
same_line names TooDeep events = refl

same_value : (e : Ended Tree) (events : List Event)
    → is_value false e ≡ ending.is_value (as_told e events)
same_value (Done u left) events = by (is_too_large u)
  where
    by : (b : Bool) → term_value b ≡ ending.is_value (too_large_or b (Value u events))
    by true = refl
    by false = refl
same_value OutOfFuel events = refl
same_value TooDeep events = refl

same_event : (e : Event) → event_text e ≡ ending.event_text e
same_event (event.Down j) = refl
same_event event.Up = refl
same_event (event.Rule k) = refl

same_events : (es : List Event) → flat_map event_text es ≡ flat_map ending.event_text es
same_events [] = refl
same_events (e ∷ es) = ap₂ (λ (a b : List ℕ). a ++ b) (same_event e) (same_events es)

-- the trace of a term as both write it
same_trace : (i : ℕ) (e : Ended Tree) (events : List Event)
    → (if is_value false e then line (trace_text i events) else []) ≡ trace_line i
    (as_told e events)
same_trace i (Done u left) events = by (is_too_large u)
  where
    by : (b : Bool) → (if term_value b then line (trace_text i events) else []) ≡ trace_line i
        (too_large_or b (Value u events))
    by true = refl
    by false = ap (λ (es : List ℕ). line (codes "# trace " ++ (decimal i ++ es)))
        (same_events events)
same_trace i OutOfFuel events = refl
same_trace i TooDeep events = refl

-- ---- all terms

module _ (s : Settings) (spec : Specified) (traced : s.trace ≡ true) (bare : s.sizes ≡ false) where
  abbrev end_for : Tree → Ended Tree
  end_for t = end_of s spec.rules t

  abbrev ending_for : Tree → Ending
  ending_for t = as_told (end_for t) (trace_of s spec.rules t)

  lines_same : (ts : List Tree)
      → lines_of s spec.symbols spec.rules ts ≡ flat_map
      (λ t. ending.line (ending_text spec.symbols (ending_for t))) ts
  lines_same [] = refl
  lines_same (t ∷ ts) =
      ap₂ (λ (a b : List ℕ). line a ++ b)
      (ap (λ b. line_text b spec.symbols (end_for t)) bare
      ∙ same_line spec.symbols (end_for t) (trace_of s spec.rules t))
      (lines_same ts)

  trace_same : (i : ℕ) (t : Tree)
      → (if is_value s.sizes (end_for t) then line (trace_text i (trace_of s spec.rules t))
      else []) ≡ trace_line i (ending_for t)
  trace_same i t =
      ap (λ b. if is_value b (end_for t) then line (trace_text i (trace_of s spec.rules t))
      else []) bare
      ∙ same_trace i (end_for t) (trace_of s spec.rules t)

  traces_same : (before ts : List Tree) (i : ℕ) → spec.terms ≡ before ++ ts → i ≡ length before
      → traces_before s spec i ++ traces_from ending_for i ts ≡ traces_before s spec (i + length ts)
  traces_same before [] i is at = append-nil (traces_before s spec i)
      ∙ ap (traces_before s spec) (let e : i ≡ i + 0 = omega arith in e)
  traces_same before (t ∷ ts) i is at =
      let count = length-append before (t ∷ []) in
      let on : term_at spec.terms i ≡ t =
      ap₂ (λ (xs : List Tree) (k : ℕ). get_or xs k (Leaf 0)) is at
      ∙ get_or-append_seam before t ts (Leaf 0) in
      let here : trace_at s spec i ≡ trace_line i (ending_for t) =
      ap (λ (u : Tree). if is_value s.sizes (end_for u) then line
      (trace_text i (trace_of s spec.rules u)) else []) on ∙ trace_same i t in
      let one : i + 1 ≡ suc i = omega arith in
      let all : i + 1 + length ts ≡ i + length (t ∷ ts) = omega arith in
      ap (λ (xs : List ℕ). traces_before s spec i ++ (xs ++ traces_from ending_for (i + 1) ts))
      (sym here)
      ∙ sym (append_assoc (traces_before s spec i) (trace_at s spec i)
      (traces_from ending_for (i + 1) ts))
      ∙ ap (λ k. traces_before s spec k ++ traces_from ending_for (i + 1) ts) (sym one)
      ∙ traces_same (before ++ t ∷ []) ts (i + 1) (is ∙ sym (append_assoc before (t ∷ []) ts))
      (omega (arith, at, count))
      ∙ ap (traces_before s spec) all

  all_traces : traces_of s spec ≡ traces_from ending_for 0 spec.terms ++ ending.line (codes "# end")
  all_traces =
      let all : 0 + length spec.terms ≡ length spec.terms = omega arith in
      ap (λ (xs : List ℕ). xs ++ line (codes "# end"))
      (ap (traces_before s spec) (sym all) ∙ sym (traces_same [] spec.terms 0 refl refl))

  pub same_bytes : bytes_of s spec ≡ output_text spec ending_for
  same_bytes =
      ap (λ b. if b then lines_of s spec.symbols spec.rules spec.terms ++ traces_of s spec
      else lines_of s spec.symbols spec.rules spec.terms) traced
      ∙ ap₂ (λ (a b : List ℕ). a ++ b) (lines_same spec.terms) all_traces

  pub same_count : (ts : List Tree)
      → values_among s spec.rules ts ≡ count_by (λ t. ending.is_value (ending_for t)) ts
  same_count [] = refl
  same_count (t ∷ ts) =
      sum_by-cons (λ (u : Tree). cond (is_value s.sizes (end_for u)) 1 0) t ts
      ∙ ap₂ (λ (b : Bool) (n : ℕ). cond b 1 0 + n)
      (ap (λ b. is_value b (end_for t)) bare ∙ same_value (end_for t) (trace_of s spec.rules t))
      (same_count ts)
      ∙ sym (sum_by-cons (λ (u : Tree). cond (ending.is_value (ending_for u)) 1 0) t ts)

  -- ---- the events of each value lead to it

  module _ (inner : IsInnermost s) (nodes : All (λ (r : Rule). IsNode r.left) spec.rules)
      (plain : All IsUnconditional spec.rules) (tells_so : are_unconditional spec.rules ≡ true)
    where
      told_so : tells_events s spec.rules ≡ true
      told_so = ap₂ (λ (strategy : Strategy) (b : Bool).
          tells strategy (b && are_unconditional spec.rules)) inner traced ∙ tells_so

      ended_so : (t : Tree) → end_for t ≡ (evaluation spec.rules t s.fuel s.depth).end
      ended_so t = ap (λ (strategy : Strategy). ended strategy spec.rules t s.fuel s.depth) inner

      value_leads : (t u : Tree) (left : ℕ) → end_for t ≡ Done u left
          → replayed spec.rules (trace spec.rules t s.fuel) [] t ≡ Some u
      value_leads t u left e =
          let d = evaluation_derives spec.rules nodes plain t u s.fuel s.depth left
          (sym (ended_so t) ∙ e) in
          events_lead spec.rules (replacements spec.rules s.fuel t) [] t u refl d.0

      leads_by : (t : Tree) (e : Ended Tree)
          → ((u : Tree) (left : ℕ) → e ≡ Done u left
          → replayed spec.rules (trace spec.rules t s.fuel) [] t ≡ Some u)
          → Leads spec.rules t (as_told e (events_of true spec.rules t s.fuel (is_value false e)))
      leads_by t (Done u left) go = by (is_too_large u)
        where
          by : (b : Bool) → Leads spec.rules t
              (too_large_or b (Value u (if term_value b then trace spec.rules t s.fuel else [])))
          by true = tt
          by false = go u left refl
      leads_by t OutOfFuel go = tt
      leads_by t TooDeep go = tt

      pub each_leads : (t : Tree) → Leads spec.rules t (ending_for t)
      each_leads t =
          subst (λ (es : List Event). Leads spec.rules t (as_told (end_for t) es))
          (sym (ap₂ (λ (b c : Bool). events_of b spec.rules t s.fuel (is_value c (end_for t)))
          told_so bare))
          (leads_by t (end_for t) (λ u left e. value_leads t u left e))

-- ---- the law

as_checked : (input : List ℕ) (spec : Specified) → (p : Spells input spec) → HasNoConditions input
    → checked.Spells input spec
as_checked input spec p bare = record {
  syntax = p.syntax;
  read = record {
    bytes = p.read.bytes;
    tokens = p.read.tokens;
    cut = p.read.cut;
    sentence =
        p.read.sentence;
  };
  faultless = p.faultless;
  unconditional = bare p.syntax p.read;
  spec_is = p.spec_is;
}

pub traces_are_derived : TracesAreDerived
traces_are_derived s input spec inner traced bare small spelled free =
    let run : MayBeRun spec = last_runs spelled.syntax spec spelled.spec_is in
    let plain : All IsUnconditional spec.rules =
    unconditional_rules spelled.syntax spelled.read.tokens spec spelled.read.sentence
    (free spelled.syntax spelled.read) spelled.spec_is in
    let nodes : All (λ (r : Rule). IsNode r.left) spec.rules =
    All-weaker IsRule (λ (r : Rule). IsNode r.left) (λ (r : Rule) p. p.node) spec.rules
    run.plan.rules in
    let lead = each_leads s spec traced bare inner nodes plain (none_has spec.rules plain) in
    let derived = outputs_are_derived input spec (ending_for s spec traced bare)
    (as_checked input spec spelled free) small (λ k d lt. lead (get_or spec.terms k d)) in
    subst (λ (n : ℕ). IsChecked (checked_text input (bytes_of s spec)) (Derived n))
    (sym (same_count s spec traced bare spec.terms))
    (subst (λ (bytes : List ℕ). IsChecked (checked_text input bytes)
    (Derived (count_by (λ t. ending.is_value (ending_for s spec traced bare t)) spec.terms)))
    (sym (same_bytes s spec traced bare)) derived)

-- what both commands write
pub traces_are_accepted : TracesAreAccepted
traces_are_accepted s check input output rewrites traced bare checks o few =
    let both : IsOutputOf Rewrite s input output =
    subst (λ (k : Command). IsOutputOf k s input output) rewrites o.output_is in
    let within : length input ≤ 16777216 =
    subst (λ (k : Command). length input ≤ limit_of k) rewrites o.within in
    let written : IsRewritten s input output = both.0 in
    let free : HasNoConditions input =
    subst (λ (b : Bool). MeetsConditions (if b then conditions.Refused else conditions.Accepted) input)
    traced both.1 in
    let derived = traces_are_derived s input written.spec (ap strategy_of rewrites) traced bare
    (omega (arith, within)) written.spelled free in
    let verdict = Derived (values_among s written.spec.rules written.spec.terms) in
    let found : IsChecked (checked_text input output.bytes) verdict =
    subst (λ (w : Output). IsChecked (checked_text input w.bytes) verdict) (sym written.output_is)
    derived in
    record {
      spec = written.spec;
      spelled = written.spelled;
      accepted = record {
        within = subst (λ (k : Command). length (checked_text input output.bytes) ≤ limit_of k) (sym checks) few;
        output_is = subst
            (λ (k : Command). IsOutputOf k check (checked_text input output.bytes) (trace_output verdict))
            (sym checks) (record { verdict = verdict; checked = found; output_is = refl });
      };
    }
