-- The form of a log's lines, each after its mark.
use Rattle.std.specs.Prelude.{ℕ, ◌^◌, List, [], ◌∷◌, length, codes, Option, Some, None, Bool, false, ◌&&◌, ◌==◌, nat_lt, nat_le, if◌then◌else◌, option_and_then}
use Rattle.std.specs.Option.{option_map}
use Rattle.std.specs.Str.{bytes_eq}
use Rattle.term_model.specs.declared.Head.{Head}
use Rattle.term_model.specs.declared.Head.TheVariants.{App, Int, Nil, Cons}
use Rattle.history_core.specs.declared.entry.Entry.{Entry}
use Rattle.history_core.specs.declared.entry.Entry.TheVariants.{Make, Find, Roots, Collect}
use Rattle.log_check.specs.declared.form.Creation.{Creation}
use Rattle.log_check.specs.declared.form.Listing.{Listing}
use Rattle.log_check.specs.declared.form.LogLine.{LogLine}
use Rattle.log_check.specs.declared.form.LogLine.TheVariants as line
use Rattle.log_check.specs.Words.{number_in}

-- a log's line begins with `# `
abbrev pub is_marked : List ℕ → Bool
is_marked (a ∷ b ∷ rest) = a == 35 && b == 32
is_marked _ = false

-- the number below a bound that a word is
abbrev pub number_below : ℕ → List ℕ → Option ℕ
number_below bound word =
    option_and_then (λ n. if nat_lt n bound then Some n else None) (number_in word)

-- keys are below 2^62, and names below 2^32
abbrev pub key_in : List ℕ → Option ℕ
key_in word = number_below (2 ^ 62) word

abbrev pub name_in : List ℕ → Option ℕ
name_in word = number_below (2 ^ 32) word

abbrev pub names_in : List (List ℕ) → Option (List ℕ)
names_in [] = Some []
names_in (w ∷ ws) = option_and_then (λ n. option_map (λ ns. n ∷ ns) (names_in ws)) (name_in w)

-- a head: `s` and the number of a symbol, `i` and an integer, `e` for the empty list, or `c` for a
-- cell
abbrev pub head_in : List ℕ → Option Head
head_in [] = None
head_in (b ∷ bs) =
    if b == 115 then option_map (λ n. App (record { 0 = n })) (number_below 65535 bs)
    else if b == 105 then option_map Int (number_below (2 ^ 64) bs)
    else if bytes_eq (b ∷ bs) (codes "e") then Some Nil
    else if bytes_eq (b ∷ bs) (codes "c") then Some Cons else None

-- whether a head takes so many arguments: at most 16, none of an integer and the empty list, two of
-- a cell
abbrev pub takes : Head → ℕ → Bool
takes (App f) n = nat_le n 16
takes (Int v) n = n == 0
takes Nil n = n == 0
takes Cons n = n == 2

-- what a creation notes: a key, a name, a head and the names of its arguments
abbrev pub creation_in : List (List ℕ) → Option Creation
creation_in (number ∷ row ∷ head ∷ args) =
    option_and_then (λ k. option_and_then (λ n. option_and_then (λ h. option_and_then (λ names.
    if takes h (length names)
    then Some (record { key = k; row = n; head = h; args = names }) else None)
    (names_in args)) (head_in head)) (name_in row)) (key_in number)
creation_in _ = None

-- what other steps note: a key and names
abbrev pub listing_in : List (List ℕ) → Option Listing
listing_in [] = None
listing_in (number ∷ names) = option_and_then
    (λ k. option_map (λ ns. record { key = k; names = ns }) (names_in names)) (key_in number)

abbrev pub make_of : Creation → Entry
make_of c = Make c.key c.head c.args c.row

abbrev pub find_of : Creation → Entry
find_of c = Find c.key c.head c.args c.row

abbrev pub roots_of : Listing → Entry
roots_of l = Roots l.key l.names

abbrev pub collect_of : Listing → Entry
collect_of l = Collect l.key l.names

-- an entry, by the word before what it notes
abbrev pub entry_in : List ℕ → List (List ℕ) → Option Entry
entry_in word ws =
    if bytes_eq word (codes "make") then option_map make_of (creation_in ws)
    else if bytes_eq word (codes "find") then option_map find_of (creation_in ws)
    else if bytes_eq word (codes "roots") then option_map roots_of (listing_in ws)
    else if bytes_eq word (codes "collect") then option_map collect_of (listing_in ws) else None

-- the rows, 1 to 262,144, and the callers, 1 to 16
abbrev pub header_of : ℕ → ℕ → Option LogLine
header_of rows callers =
    if nat_lt 0 rows && nat_lt 0 callers then Some (line.Header rows callers) else None

abbrev pub header_in : List (List ℕ) → Option LogLine
header_in (rows ∷ callers ∷ []) =
    option_and_then (λ r. option_and_then (λ c. header_of r c) (number_below 17 callers))
    (number_below 262145 rows)
header_in _ = None

abbrev pub caller_in : List (List ℕ) → Option LogLine
caller_in (word ∷ []) = option_map line.Caller (number_below 16 word)
caller_in _ = None

abbrev pub end_in : List (List ℕ) → Option LogLine
end_in [] = Some line.End
end_in (w ∷ ws) = None

-- a log's line, by the words after its mark
abbrev pub line_in : List (List ℕ) → Option LogLine
line_in [] = None
line_in (word ∷ ws) =
    if bytes_eq word (codes "log") then header_in ws
    else if bytes_eq word (codes "caller") then caller_in ws
    else if bytes_eq word (codes "end") then end_in ws
    else option_map line.Step (entry_in word ws)
