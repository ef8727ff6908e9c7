-- Numbers come in order where each one that comes for the first time is the least that hasn't come.
-- So the numbers that have come are always those below some number.
use Rattle.std.specs.Prelude.{ℕ, ◌+◌, List, [], ◌∷◌, ◌++◌, slice_get, length, unwrap_or, Option, Some, None, option_and_then, nat_lt, ◌==◌, if◌then◌else◌}
use Rattle.std.specs.List.{flat_map}
use Rattle.term_model.specs.declared.Head.{Head}
use Rattle.term_model.specs.declared.Head.TheVariants.{App, Int, Nil, Cons}
use Rattle.term_file.specs.Contents.{Record, Contents, table_of}

-- how many numbers have come with this one, where all below `came` had; none where it comes too
-- early
abbrev pub came_with : ℕ → ℕ → Option ℕ
came_with came n =
    if nat_lt n came then Some came else (if n == came then Some (came + 1) else None)

-- how many have come after all of these, one after another
abbrev pub came_after : ℕ → List ℕ → Option ℕ
came_after came [] = Some came
came_after came (n ∷ ns) = option_and_then (λ c. came_after c ns) (came_with came n)

-- a visit of a record: its arguments are visited from left to right, and then the record itself
abbrev pub visits_at : List (List ℕ) → ℕ → List ℕ
visits_at visits i = unwrap_or (slice_get visits i) []

abbrev pub visits_over : List (List ℕ) → Record → List ℕ
visits_over visits r = flat_map (visits_at visits) r.arguments ++ length visits ∷ []

abbrev pub visits : List Record → List (List ℕ)
visits rs = table_of visits_over rs

-- the records in the order in which a walk from the roots visits them, each as often as it does
abbrev pub walk : Contents → List ℕ
walk c = flat_map (visits_at (visits c.records)) c.roots

-- the symbol that a head uses
abbrev pub used_by : Head → List ℕ
used_by (App f) = f.0 ∷ []
used_by (Int v) = []
used_by Nil = []
used_by Cons = []

-- the symbols in the order in which records use them
abbrev pub uses : List Record → List ℕ
uses rs = flat_map (λ r. used_by r.head) rs
