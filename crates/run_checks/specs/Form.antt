-- The form of an output with traces: a line for each term, then the trace of each line that is a
-- value, and the end.
use Rattle.std.specs.Prelude.{ℕ, ◌+◌, List, [], ◌∷◌, length, codes, Option, Some, None, Bool, false, ◌&&◌, ◌||◌, ◌==◌, nat_lt, is_some, if◌then◌else◌, option_and_then, take, drop}
use Rattle.std.specs.Option.{option_map, option_map_or}
use Rattle.std.specs.Str.{bytes_eq}
use Rattle.log_check.specs.Words.{words, number_in}
use Rattle.rewrite_model.specs.declared.event.Event.{Event}
use Rattle.rewrite_model.specs.declared.event.Event.TheVariants.{Down, Up, Rule as Use}

-- ---- events

-- the event that a word spells: `d` and the number of an argument, `r` and the number of a rule, or
-- `u`
abbrev pub event_in : List ℕ → Option Event
event_in [] = None
event_in (b ∷ bs) =
    if b == 100 then option_map Down (number_in bs)
    else if b == 114 then option_map Use (number_in bs)
    else if bytes_eq (b ∷ bs) (codes "u") then Some Up else None

abbrev pub events_in : List (List ℕ) → Option (List Event)
events_in [] = Some []
events_in (w ∷ ws) = option_and_then (λ e. option_map (λ es. e ∷ es) (events_in ws)) (event_in w)

-- whether a word is this number
abbrev pub is_number : ℕ → List ℕ → Bool
is_number i word = option_map_or (λ n. n == i) (number_in word) false

-- the events of a trace of the term with this number: after `#`, `trace` and the number
abbrev pub trace_in_words : ℕ → List (List ℕ) → Option (List Event)
trace_in_words i (a ∷ b ∷ c ∷ ws) =
    if bytes_eq a (codes "#") && (bytes_eq b (codes "trace") && is_number i c) then events_in ws else None
trace_in_words i _ = None

abbrev pub trace_in : ℕ → List ℕ → Option (List Event)
trace_in i line = trace_in_words i (words line)

-- ---- lines

-- whether a line says why a term has no value
abbrev pub is_no_value : List ℕ → Bool
is_no_value line =
    bytes_eq line (codes "out of fuel") || (bytes_eq line (codes "too deep") || bytes_eq line (codes "too large"))

-- the numbers, from one on, of the lines that are values
abbrev pub values_from : ℕ → List (List ℕ) → List ℕ
values_from i [] = []
values_from i (l ∷ ls) =
    if is_no_value l then values_from (i + 1) ls else i ∷ values_from (i + 1) ls

abbrev pub is_end : List ℕ → Bool
is_end line = bytes_eq line (codes "# end")

-- The first line, numbered from n on, that isn't one of these traces, the end after them, or the
-- last: the line after the last where one is missing. None where all are there.
abbrev pub wrong_from : ℕ → List ℕ → List (List ℕ) → Option ℕ
wrong_from n [] [] = Some n
wrong_from n [] (l ∷ []) = if is_end l then None else Some n
wrong_from n [] (l ∷ _ ∷ _) = if is_end l then Some (n + 1) else Some n
wrong_from n (i ∷ is) [] = Some n
wrong_from n (i ∷ is) (l ∷ ls) = if is_some (trace_in i l) then wrong_from (n + 1) is ls else Some n

-- the first wrong line, from 1, after the lines of the terms
abbrev pub wrong_after : List (List ℕ) → List (List ℕ) → Option ℕ
wrong_after ls rest = wrong_from (length ls + 1) (values_from 0 ls) rest

-- the first wrong line, from 1, of an output for so many terms
abbrev pub wrong_line : ℕ → List (List ℕ) → Option ℕ
wrong_line terms ls =
    if nat_lt (length ls) terms then Some (length ls + 1)
    else wrong_after (take terms ls) (drop terms ls)
