-- Each line that is written for an entry is read as that entry.
use Rattle.std.specs.Prelude.{◌≡◌, ℕ, ◌^◌, ◌<◌, List, ◌∷◌, ◌++◌, drop, length, true, Some}
use Rattle.std.specs.List.{AllByRecursion}
use Rattle.term_model.specs.declared.Head.{Head}
use Rattle.term_model.specs.declared.Head.TheVariants.{App, Int, Nil, Cons}
use Rattle.history_core.specs.declared.entry.Entry.{Entry}
use Rattle.history_core.specs.declared.entry.Entry.TheVariants.{Make, Find, Roots, Collect}
use Rattle.log_check.specs.Words.{lines, words_after}
use Rattle.log_check.specs.Form.{is_marked, entry_in, takes}
use Rattle.log_text.specs.Lines.{line_of}

-- a symbol has a number below 65,535, and an integer is below 2^64
abbrev pub IsTold : Head → Type 0
IsTold (App f) = f.0 < 65535
IsTold (Int v) = v < 2 ^ 64
IsTold Nil = Unit {0}
IsTold Cons = Unit {0}

-- names are below 2^32
abbrev pub AreNames : List ℕ → Type 0
AreNames ns = AllByRecursion (λ n. n < 2 ^ 32) ns

-- a term that a log may tell: its name, its head, which takes so many arguments, and their names
abbrev pub IsTerm : ℕ → Head → List ℕ → Type 0
IsTerm row h args = (row < 2 ^ 32) × IsTold h × (takes h (length args) ≡ true) × AreNames args

-- an entry that a log may tell: its key is below 2^62
abbrev pub MayTell : Entry → Type 0
MayTell (Make n h args row) = (n < 2 ^ 62) × IsTerm row h args
MayTell (Find n h args row) = (n < 2 ^ 62) × IsTerm row h args
MayTell (Roots n ns) = (n < 2 ^ 62) × AreNames ns
MayTell (Collect n ns) = (n < 2 ^ 62) × AreNames ns

-- Before any other text, the line of an entry is cut off as one line, which has the mark of a log,
-- and whose words after it are read as the entry.
abbrev pub LinesAreReadBack : Type 0
LinesAreReadBack = (e : Entry) → MayTell e → (rest : List ℕ)
    → (text : List ℕ) × (word : List ℕ) × (words : List (List ℕ))
    × (lines (line_of e ++ rest) ≡ text ∷ lines rest) × (is_marked text ≡ true)
    × (words_after (drop 1 text) ≡ word ∷ words) × (entry_in word words ≡ Some e)
