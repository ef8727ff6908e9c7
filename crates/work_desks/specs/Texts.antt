-- The text of a log, which may be lost.
use Rattle.std.specs.Prelude.{◌≡◌, ℕ, List, ◌++◌, Option, IfSome}
use Rattle.std.specs.Option.{option_map}
use Rattle.history_core.specs.declared.entry.Entry.{Entry}
use Rattle.log_text.specs.Lines.{caller_text, lines_of}

-- where the new text isn't lost, the old one wasn't, and it has these bytes more
abbrev pub AddsText : Option (List ℕ) → Option (List ℕ) → List ℕ → Type 0
AddsText old new bytes = IfSome new (λ text. new ≡ option_map (λ before. before ++ bytes) old)

-- the line of a caller, and those of its entries
abbrev pub AddsCaller : Option (List ℕ) → Option (List ℕ) → (caller : ℕ) → List Entry → Type 0
AddsCaller old new caller entries = AddsText old new (caller_text caller ++ lines_of entries)
