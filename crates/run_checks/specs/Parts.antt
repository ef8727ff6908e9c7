-- The parts of an input: a specification, and an output.
use Rattle.std.specs.Prelude.{ℕ, ◌+◌, List, [], ◌∷◌, take, drop, codes, slice_get, unwrap_or, Option, Some, None, ◌==◌, if◌then◌else◌, option_and_then}
use Rattle.std.specs.Option.{option_map}
use Rattle.std.specs.Str.{bytes_eq}
use Rattle.log_check.specs.Words.{number_in}

-- what stands before and after the first line feed
abbrev pub at_line_feed : List ℕ → Option (List ℕ × List ℕ)
at_line_feed [] = None
at_line_feed (b ∷ bs) =
    if b == 10 then Some ([], bs) else option_map (λ p. (b ∷ p.0, p.1)) (at_line_feed bs)

-- the number that stands after `spec `
abbrev pub announced : List ℕ → Option ℕ
announced line = if bytes_eq (take 5 line) (codes "spec ") then number_in (drop 5 line) else None

-- so many bytes before a line feed, and those after it
abbrev pub cut_at : ℕ → List ℕ → Option (List ℕ × List ℕ)
cut_at n bytes =
    if unwrap_or (slice_get bytes n) 0 == 10 then Some (take n bytes, drop (n + 1) bytes) else None

-- the specification and the output of an input: a line `spec N`, N bytes, a line feed, and the rest
abbrev pub parts : List ℕ → Option (List ℕ × List ℕ)
parts bytes =
    option_and_then (λ p. option_and_then (λ n. cut_at n p.1) (announced p.0)) (at_line_feed bytes)
