-- The lines of a log: each step that a caller notes has one.
use Rattle.std.specs.Prelude.{◌≡◌, ℕ, suc, List, [], ◌∷◌, ◌++◌, length, map, codes, decimal, Option, IfSome}
use Rattle.std.specs.Option.{option_map}
use Rattle.term_model.specs.declared.Head.{Head}
use Rattle.term_model.specs.declared.Head.TheVariants.{App, Int, Nil, Cons}
use Rattle.term_model.specs.declared.Row.{Row}
use Rattle.history_core.specs.declared.entry.Entry.{Entry}
use Rattle.history_core.specs.declared.entry.Entry.TheVariants.{Make, Find, Roots, Collect}

-- the numbers of rows, in order
abbrev pub names : List Row → List ℕ
names rows = map (λ r. r.0) rows

-- A head: `s` and the number of a symbol, `i` and an integer, `e` for the empty list, or `c` for a
-- cell.
abbrev pub head_text : Head → List ℕ
head_text (App f) = codes "s" ++ decimal f.0
head_text (Int v) = codes "i" ++ decimal v
head_text Nil = codes "e"
head_text Cons = codes "c"

-- a space before each name
abbrev pub names_text : List ℕ → List ℕ
names_text [] = []
names_text (n ∷ ns) = codes " " ++ decimal n ++ names_text ns

-- a name, its head, and the names of its arguments; then the line ends
abbrev pub term_text : ℕ → Head → List ℕ → List ℕ
term_text row head args = decimal row ++ codes " " ++ head_text head ++ names_text args ++ codes "\n"

-- what a creation notes: a key and a term
abbrev pub creation_text : ℕ → Head → List ℕ → ℕ → List ℕ
creation_text key head args row = decimal key ++ codes " " ++ term_text row head args

-- what other steps note: a key and names
abbrev pub listing_text : ℕ → List ℕ → List ℕ
listing_text key ns = decimal key ++ names_text ns ++ codes "\n"

-- the line of a step
abbrev pub line_of : Entry → List ℕ
line_of (Make number head args row) = codes "# make " ++ creation_text number head args row
line_of (Find seen head args row) = codes "# find " ++ creation_text seen head args row
line_of (Roots seen ns) = codes "# roots " ++ listing_text seen ns
line_of (Collect number kept) = codes "# collect " ++ listing_text number kept

-- the lines of steps, in order
abbrev pub lines_of : List Entry → List ℕ
lines_of [] = []
lines_of (e ∷ es) = line_of e ++ lines_of es

-- Where the log after a step isn't lost, it wasn't before, and has the step's line more.
abbrev pub Adds : Option (List ℕ) → Option (List ℕ) → Entry → Type 0
Adds old new e = IfSome new (λ lines. new ≡ option_map (λ before. before ++ line_of e) old)

-- the first line of a log: how many rows the store has, and how many callers
abbrev pub header_text : (rows callers : ℕ) → List ℕ
header_text rows callers = codes "# log " ++ decimal rows ++ codes " " ++ decimal callers ++ codes "\n"

-- the line before a caller's steps
abbrev pub caller_text : ℕ → List ℕ
caller_text caller = codes "# caller " ++ decimal caller ++ codes "\n"

-- the steps of callers, numbered from this one on, each caller's behind its line
abbrev pub callers_from : ℕ → List (List Entry) → List ℕ
callers_from caller [] = []
callers_from caller (entries ∷ rest) =
    (caller_text caller ++ lines_of entries) ++ callers_from (suc caller) rest

-- the last line
abbrev pub end_text : List ℕ
end_text = codes "# end\n"

-- the log of callers' steps on a store with so many rows
abbrev pub log_of : (rows : ℕ) → List (List Entry) → List ℕ
log_of rows lists = (header_text rows (length lists) ++ callers_from 0 lists) ++ end_text
