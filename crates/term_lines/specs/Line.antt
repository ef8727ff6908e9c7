-- The line of a term in the output: the text or the sizes of its value, or why it has no value.
use Rattle.std.specs.Prelude.{ℕ, ◌-◌, List, ◌++◌, Bool, true, false, codes, decimal, nat_lt, not, if◌then◌else◌}
use Rattle.term_model.specs.Tree.{Tree, nodes, subtrees, distinct}
use Rattle.symbol_pool.specs.Pool.{Named}
use Rattle.rewrite_model.specs.Run.{Ended, Done, OutOfFuel, TooDeep}
use Rattle.term_text.specs.Text.{text}
use Rattle.term_text.specs.Sizes.{saturated}
use Rattle.line_ends.specs.declared.kind.LineKind.{LineKind}
use Rattle.line_ends.specs.declared.kind.LineKind.TheVariants as kind

-- how many nodes a value may have whose text is written
abbrev pub most_written : ℕ
most_written = 1048576

abbrev pub is_too_large : Tree → Bool
is_too_large value = nat_lt most_written (nodes value)

-- these many different subtrees, and these many nodes
abbrev pub counts_text : ℕ → ℕ → List ℕ
counts_text different count = codes "distinct " ++ decimal different ++ codes " nodes " ++ decimal count

abbrev pub sizes_text : Tree → List ℕ
sizes_text value = counts_text (distinct (subtrees value)) (saturated (nodes value))

-- a value's sizes, where they are asked, or its text
abbrev pub value_text : Bool → List Named → Tree → List ℕ
value_text true symbols value = sizes_text value
value_text false symbols value = if is_too_large value then codes "too large" else text symbols value

abbrev pub line_text : Bool → List Named → Ended Tree → List ℕ
line_text sizes symbols (Done value left) = value_text sizes symbols value
line_text sizes symbols OutOfFuel = codes "out of fuel"
line_text sizes symbols TooDeep = codes "too deep"

-- whether what is written of a value is a value
abbrev pub is_written : Bool → Tree → Bool
is_written true value = true
is_written false value = not (is_too_large value)

-- the kind of a line; a value that isn't written is too large
abbrev pub kind_of : Bool → Ended Tree → LineKind
kind_of sizes (Done value left) = if is_written sizes value then kind.Value else kind.TooLarge
kind_of sizes OutOfFuel = kind.OutOfFuel
kind_of sizes TooDeep = kind.TooDeep

-- the fuel that a value took of so much, and 0 at any other kind of line
abbrev pub spent_of : Bool → ℕ → Ended Tree → ℕ
spent_of sizes fuel (Done value left) = if is_written sizes value then fuel - left else 0
spent_of sizes fuel OutOfFuel = 0
spent_of sizes fuel TooDeep = 0

-- whether a line is a value
abbrev pub is_value_kind : LineKind → Bool
is_value_kind kind.Value = true
is_value_kind kind.OutOfFuel = false
is_value_kind kind.TooDeep = false
is_value_kind kind.TooLarge = false

abbrev pub is_value : Bool → Ended Tree → Bool
is_value sizes end = is_value_kind (kind_of sizes end)
