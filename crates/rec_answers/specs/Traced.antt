-- The traces that are written behind the lines of terms.
use Rattle.std.specs.Prelude.{ℕ, zero, suc, ◌++◌, List, [], length, codes, decimal, false, slice_get, if◌then◌else◌, Vec}
use Rattle.std.specs.Global.{Global}
use Rattle.std.specs.List.{flat_map}
use Rattle.std.specs.Option.{option_map_or}
use Rattle.rewrite_model.specs.declared.event.Event.{Event}
use Rattle.rewrite_model.specs.declared.event.Event.TheVariants.{Down, Up, Rule as Use}
use Rattle.settings.specs.declared.parts.Settings.{Settings}
use Rattle.term_lines.specs.Line.{is_value, is_value_kind}
use Rattle.work_order.specs.Works.{term_at}
use Rattle.work_order.specs.Lined.{end_of, trace_of}
use Rattle.worker_crew.specs.declared.lines.Line.{Line}
use Rattle.rec_check.specs.Spelled.{Specified}
use Rattle.rec_answers.specs.Lines.{line}

-- after a space `dJ` to argument J, from 1, `u` to the position above, `rK` for rule K, from 0
abbrev pub event_text : Event → List ℕ
event_text (Down j) = codes " d" ++ decimal j
event_text Up = codes " u"
event_text (Use k) = codes " r" ++ decimal k

-- the trace of the term with a number
abbrev pub trace_text : ℕ → List Event → List ℕ
trace_text i events = codes "# trace " ++ decimal i ++ flat_map event_text events

-- the same, of a term whose line is a value
abbrev pub trace_at : Settings → Specified → ℕ → List ℕ
trace_at s spec i =
    if is_value s.sizes (end_of s spec.rules (term_at spec.terms i))
    then line (trace_text i (trace_of s spec.rules (term_at spec.terms i))) else []

-- those of the first terms, so many
abbrev pub traces_before : Settings → Specified → ℕ → List ℕ
traces_before s spec zero = []
traces_before s spec (suc i) = traces_before s spec i ++ trace_at s spec i

-- those of all terms, and the end
abbrev pub traces_of : Settings → Specified → List ℕ
traces_of s spec = traces_before s spec (length spec.terms) ++ line (codes "# end")

-- the traces of the first of some lines, by the events beside them
abbrev pub Traces : Type 0
Traces = List (Vec Event Global)

abbrev pub told_at : List Line → Traces → ℕ → List ℕ
told_at lines traces i =
    if option_map_or (λ l. is_value_kind l.kind) (slice_get lines i) false
    then line (trace_text i (option_map_or (λ v. v.items) (slice_get traces i) [])) else []

abbrev pub told_before : List Line → Traces → ℕ → List ℕ
told_before lines traces zero = []
told_before lines traces (suc i) = told_before lines traces i ++ told_at lines traces i
