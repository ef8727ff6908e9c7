-- What the log of a pass tells.
use Rattle.std.specs.Prelude.{◌≡◌, ℕ, List, [], ◌∷◌, Option, IfSome, nat_lt, if◌then◌else◌}
use Rattle.history_core.specs.declared.entry.Entry.{Entry}
use Rattle.log_text.specs.Lines.{lines_of}

-- where the log isn't lost, it is the lines of the entries
abbrev pub AreTold : Option (List ℕ) → List Entry → Type 0
AreTold log entries = IfSome log (λ lines. lines ≡ lines_of entries)

-- of these names those below k
abbrev pub below : ℕ → List ℕ → List ℕ
below k [] = []
below k (n ∷ ns) = if nat_lt n k then n ∷ below k ns else below k ns
