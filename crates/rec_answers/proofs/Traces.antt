-- The traces that are written of lines are those of their terms.
use Rattle.std.proofs.Common.{◌≡◌, ℕ, zero, suc, ◌<◌, ◌≤◌, ◌++◌, List, [], length, Bool, true, false, refl, sym, ap, ap₂, ◌∙◌, arith}
use Rattle.std.specs.Prelude.{Option, Some, None, slice_get, codes, if◌then◌else◌, Vec}
use Rattle.std.specs.Global.{Global}
use Rattle.std.specs.Option.{option_map, option_map_or}
use Rattle.std.proofs.lemmas.List.{length-map}
use Rattle.std.proofs.lemmas.Option.{slice_get-get_or, slice_get-map}
use Rattle.term_model.specs.Tree.{Tree, Leaf}
use Rattle.rewrite_model.specs.declared.event.Event.{Event}
use Rattle.settings.specs.declared.parts.Settings.{Settings}
use Rattle.term_lines.specs.Line.{is_value, is_value_kind}
use Rattle.work_order.specs.Works.{term_at}
use Rattle.work_order.specs.Lined.{Said, said, line_of, trace_of, end_of}
use Rattle.worker_crew.specs.declared.lines.Line.{Line}
use Rattle.worker_crew.specs.declared.lines.Lines.{Lines}
use Rattle.rec_check.specs.Spelled.{Specified}
use Rattle.rec_answers.specs.Lines.{line}
use Rattle.rec_answers.specs.Traced.{trace_text, trace_at, traces_before, traces_of, told_at, told_before}
use Rattle.rec_answers.specs.Sequence.{AreLinesOf, lines_of, text_told}
use Rattle.rec_answers.specs.Rewritten.{bytes_of}

said_value : (o : Option Line) → option_map_or (λ (l : Line). is_value_kind l.kind) o false ≡ option_map_or (λ (d : Said). is_value_kind d.kind) (option_map said o) false
said_value None = refl
said_value (Some l) = refl

same_events : (o : Option (Vec Event Global)) → option_map_or (λ (v : Vec Event Global). v.items) o [] ≡ option_map_or (λ (es : List Event). es) (option_map (λ (v : Vec Event Global). v.items) o) []
same_events None = refl
same_events (Some v) = refl

module _ (s : Settings) (spec : Specified) (all : Lines) (a : AreLinesOf s spec all) where
  abbrev line_for : Tree → Said
  line_for t = line_of s spec.symbols spec.rules t

  abbrev events_for : Tree → List Event
  events_for t = trace_of s spec.rules t

  many : length all.list.items ≡ length spec.terms
  many = sym (length-map all.list.items said) ∙ (ap length a.each ∙ length-map spec.terms line_for)

  term : (i : ℕ) → i < length spec.terms → slice_get spec.terms i ≡ Some (term_at spec.terms i)
  term i h = slice_get-get_or spec.terms i (Leaf 0) h

  value_at : (i : ℕ) → i < length spec.terms → option_map_or (λ (l : Line). is_value_kind l.kind) (slice_get all.list.items i) false ≡ is_value s.sizes (end_of s spec.rules (term_at spec.terms i))
  value_at i h =
      let at : option_map said (slice_get all.list.items i) ≡ Some (line_for (term_at spec.terms i)) =
      sym (slice_get-map said all.list.items i) ∙ (ap (λ (xs : List Said). slice_get xs i) a.each ∙ (slice_get-map line_for spec.terms i ∙ ap (option_map line_for) (term i h))) in
      said_value (slice_get all.list.items i) ∙ ap (λ o. option_map_or (λ (d : Said). is_value_kind d.kind) o false) at

  events_at : (i : ℕ) → i < length spec.terms → option_map_or (λ (v : Vec Event Global). v.items) (slice_get all.traces.items i) [] ≡ events_for (term_at spec.terms i)
  events_at i h =
      let f : Vec Event Global → List Event = λ (v : Vec Event Global). v.items in
      let at : option_map f (slice_get all.traces.items i) ≡ Some (events_for (term_at spec.terms i)) =
      sym (slice_get-map f all.traces.items i) ∙ (ap (λ (xs : List (List Event)). slice_get xs i) a.traces ∙ (slice_get-map events_for spec.terms i ∙ ap (option_map events_for) (term i h))) in
      same_events (slice_get all.traces.items i) ∙ ap (λ o. option_map_or (λ (es : List Event). es) o []) at

  told_one : (i : ℕ) → i < length spec.terms → told_at all.list.items all.traces.items i ≡ trace_at s spec i
  told_one i h = ap₂ (λ (b : Bool) (es : List Event). if b then line (trace_text i es) else []) (value_at i h) (events_at i h)

  told_first : (n : ℕ) → n ≤ length spec.terms → told_before all.list.items all.traces.items n ≡ traces_before s spec n
  told_first zero h = refl
  told_first (suc n) h = ap₂ (λ (xs ys : List ℕ). xs ++ ys) (told_first n (omega arith)) (told_one n (omega arith))

  -- what is told of the lines is what the definition says of the terms
  pub text_is : text_told all s.trace ≡ bytes_of s spec
  text_is = go s.trace
    where
      go : (b : Bool) → text_told all b ≡ (if b then lines_of s spec.symbols spec.rules spec.terms ++ traces_of s spec else lines_of s spec.symbols spec.rules spec.terms)
      go true = ap₂ (λ (xs ys : List ℕ). xs ++ ys) a.text (ap (λ (xs : List ℕ). xs ++ line (codes "# end")) (ap (told_before all.list.items all.traces.items) many ∙ told_first (length spec.terms) (omega arith)))
      go false = a.text
