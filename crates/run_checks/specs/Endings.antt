-- How terms end, and what is written of them with traces: a line for each term, then the trace of
-- each value, and the end.
use Rattle.std.specs.Prelude.{◌≡◌, ℕ, ◌+◌, List, [], ◌∷◌, ◌++◌, length, codes, Some, Bool, true, false}
use Rattle.std.specs.Fmt.{decimal}
use Rattle.std.specs.List.{flat_map}
use Rattle.symbol_pool.specs.Pool.{Named}
use Rattle.term_model.specs.Tree.{Tree}
use Rattle.rewrite_model.specs.Rule.{Rule}
use Rattle.rewrite_model.specs.Replay.{replayed}
use Rattle.rewrite_model.specs.declared.event.Event.{Event}
use Rattle.rewrite_model.specs.declared.event.Event.TheVariants.{Down, Up, Rule as Use}
use Rattle.rec_check.specs.Spelled.{Specified}
use Rattle.term_text.specs.Text.{text}

-- a term ends with a value, told with events, or it has none
pub data Ending : Type 0 where
  Value : Tree → List Event → Ending
  OutOfFuel : Ending
  TooDeep : Ending
  TooLarge : Ending

abbrev pub is_value : Ending → Bool
is_value (Value value events) = true
is_value OutOfFuel = false
is_value TooDeep = false
is_value TooLarge = false

-- the events of a value lead to it from the term
abbrev pub Leads : List Rule → Tree → Ending → Type 0
Leads rules term (Value value events) = replayed rules events [] term ≡ Some value
Leads rules term OutOfFuel = Unit {0}
Leads rules term TooDeep = Unit {0}
Leads rules term TooLarge = Unit {0}

-- ---- what is written

-- a text, and the end of its line
abbrev pub line : List ℕ → List ℕ
line text = text ++ codes "\n"

-- the line of a term: the text of its value, or why it has none
abbrev pub ending_text : List Named → Ending → List ℕ
ending_text names (Value value events) = text names value
ending_text names OutOfFuel = codes "out of fuel"
ending_text names TooDeep = codes "too deep"
ending_text names TooLarge = codes "too large"

-- after a space `dJ` to argument J, from 1, `u` to the position above, `rK` for rule K, from 0
abbrev pub event_text : Event → List ℕ
event_text (Down j) = codes " d" ++ decimal j
event_text Up = codes " u"
event_text (Use k) = codes " r" ++ decimal k

-- the trace of the term with a number
abbrev pub trace_text : ℕ → List Event → List ℕ
trace_text i events = codes "# trace " ++ (decimal i ++ flat_map event_text events)

-- the same as a line, where the term has a value
abbrev pub trace_line : ℕ → Ending → List ℕ
trace_line i (Value value events) = line (trace_text i events)
trace_line i OutOfFuel = []
trace_line i TooDeep = []
trace_line i TooLarge = []

-- the traces of terms, which are numbered from some number on
abbrev pub traces_from : (Tree → Ending) → ℕ → List Tree → List ℕ
traces_from ending i [] = []
traces_from ending i (t ∷ ts) = trace_line i (ending t) ++ traces_from ending (i + 1) ts

-- the output of a specification whose terms end so
abbrev pub output_text : Specified → (Tree → Ending) → List ℕ
output_text s ending =
    flat_map (λ t. line (ending_text s.symbols (ending t))) s.terms
    ++ (traces_from ending 0 s.terms ++ line (codes "# end"))

-- a specification's text with an output behind it, as they are given to be checked
abbrev pub checked_text : List ℕ → List ℕ → List ℕ
checked_text specification output =
    line (codes "spec " ++ decimal (length specification)) ++ (line specification ++ output)
