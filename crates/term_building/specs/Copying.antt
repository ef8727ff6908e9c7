-- Copying a text.
use Rattle.std.specs.Prelude.{ℕ, ◌-◌, List, ◌++◌, take, drop}

-- what was written, and the bytes of the text between two places
abbrev pub copied : List ℕ → ℕ → List ℕ → ℕ → List ℕ
copied text to written from = written ++ take (to - from) (drop from text)
