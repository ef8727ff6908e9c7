-- The lines of terms with their events, and which worker drew which term.
use Rattle.std.specs.Prelude.{ℕ, ◌==◌, List, [], ◌∷◌, if◌then◌else◌}
use Rattle.term_model.specs.Tree.{Tree}
use Rattle.symbol_pool.specs.Pool.{Named}
use Rattle.rewrite_model.specs.Rule.{Rule}
use Rattle.rewrite_model.specs.Run.{Ended}
use Rattle.settings.specs.declared.parts.Settings.{Settings}
use Rattle.rewrite_model.specs.declared.event.Event.{Event}
use Rattle.term_lines.specs.Line.{line_text, kind_of, spent_of, is_value}
use Rattle.term_lines.specs.Tracing.{events_of}
use Rattle.term_lines.specs.Strategies.{ended}
use Rattle.line_ends.specs.declared.kind.LineKind.{LineKind}
use Rattle.worker_crew.specs.declared.lines.Line.{Line}
use Rattle.worker_crew.specs.declared.lines.Traced.{Traced}
use Rattle.work_order.specs.Works.{strategy_of, tells_events}

-- what a line says of its term
pub record Said : Type 0 where
  pub kind : LineKind
  pub text : List ℕ
  pub spent : ℕ

abbrev pub said : Line → Said
said l = record { kind = l.kind; text = l.text.items; spent = l.spent }

abbrev pub worker_of : Line → ℕ
worker_of l = l.worker

-- how a term ends by the settings' command, with their fuel and room
abbrev pub end_of : Settings → List Rule → Tree → Ended Tree
end_of s rules term = ended (strategy_of s.command) rules term s.fuel s.depth

-- the line of a term
abbrev pub line_of : Settings → List Named → List Rule → Tree → Said
line_of s symbols rules term = record {
  kind = kind_of s.sizes (end_of s rules term);
  text = line_text s.sizes symbols (end_of s rules term);
  spent = spent_of s.sizes s.fuel (end_of s rules term);
}

-- the events that lead to the value of a term, where they are told and its line is a value
abbrev pub trace_of : Settings → List Rule → Tree → List Event
trace_of s rules term =
    events_of (tells_events s rules) rules term s.fuel (is_value s.sizes (end_of s rules term))

-- what is told of a term: its line, and the events
pub record Told : Type 0 where
  pub line : Said
  pub events : List Event

abbrev pub told : Traced → Told
told t = record { line = said t.line; events = t.events.items }

abbrev pub told_of : Settings → List Named → List Rule → Tree → Told
told_of s symbols rules term =
    record { line = line_of s symbols rules term; events = trace_of s rules term }

abbrev pub maker_of : Traced → ℕ
maker_of t = t.line.worker

-- The terms that a worker drew, in order: those at whose places the list of workers has it.
abbrev pub drawn_by : ℕ → (workers : List ℕ) → (terms : List Tree) → List Tree
drawn_by j [] terms = []
drawn_by j (w ∷ ws) [] = []
drawn_by j (w ∷ ws) (t ∷ ts) = if w == j then t ∷ drawn_by j ws ts else drawn_by j ws ts
