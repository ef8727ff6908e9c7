-- What a walk over a term notes, which keeps the sort of each head.
use Rattle.std.specs.Prelude.{ℕ, ◌-◌, List, [], ◌∷◌, ◌++◌, Bool, false, not, ◌&&◌, Option, length, map, take, drop, if◌then◌else◌}
use Rattle.std.specs.Option.{option_map, option_map_or}
use Rattle.rec_reader.specs.declared.token.Name.{Name}
use Rattle.rec_reader.specs.declared.syntax_tree.Node.{Node}
use Rattle.faults.specs.declared.refusal.Refusal.{Refusal}
use Rattle.rec_offences.specs.declared.offences.heads.Argument.{Argument}
use Rattle.rec_includes.specs.Names.{same_text}
use Rattle.rec_offences.specs.Scope.{Entry, Visit, visit, look_up, is_variable}
use Rattle.rec_offences.specs.Offences.{unknown_name, wrong_count}
use Rattle.rec_offences.specs.Faults.{of_kind}
use Rattle.rec_offences.specs.Visited.{at_visit}

-- the sort with which a name is first declared
abbrev pub sort_of : List ℕ → List Entry → Name → Option Name
sort_of bytes entries n = option_map (λ e. e.declared.sort) (look_up bytes entries n)

-- a head with its sort, and heads with theirs
abbrev pub argument : List ℕ → List Entry → Name → Argument
argument bytes entries n = record { head = n; sort = sort_of bytes entries n }

abbrev pub arguments_of : List ℕ → List Entry → List Name → List Argument
arguments_of bytes entries names = map (argument bytes entries) names

abbrev pub heads_on : List Argument → List Name
heads_on arguments = map (λ a. a.head) arguments

-- the sort is another than the one that is wanted
abbrev pub is_other : List ℕ → (wanted : Name) → Option Name → Bool
is_other bytes wanted sort = option_map_or (λ s. not (same_text bytes wanted s)) sort false

-- the arguments that have another sort than the one that is wanted at their place
abbrev pub clashing_sorts : List ℕ → (wanted : List Name) → List Argument → List Name
clashing_sorts bytes [] arguments = []
clashing_sorts bytes (w ∷ ws) [] = []
clashing_sorts bytes (w ∷ ws) (a ∷ others) =
    (if is_other bytes w a.sort then a.head ∷ [] else []) ++ clashing_sorts bytes ws others

-- the head, where it is a variable of a term that is to be rewritten
abbrev pub misplaced : (is_value : Bool) → List ℕ → List Entry → Name → List Name
misplaced is_value bytes entries n = if is_value && is_variable bytes entries n then n ∷ [] else []

-- what is wrong at a node of a term, which is to be rewritten or not
abbrev pub at_side : (is_value : Bool) → List ℕ → List Entry → Visit → List Refusal
at_side is_value bytes entries v = of_kind 11 (misplaced is_value bytes entries v.node.head) ++ at_visit bytes entries v

-- the same, where the arguments come with their sorts
abbrev pub at_node : (is_value : Bool) → List ℕ → List Entry → Node → List Argument → List Refusal
at_node is_value bytes entries node arguments =
    let v = visit node (heads_on arguments) in
    of_kind 11 (misplaced is_value bytes entries node.head)
    ++ (of_kind 5 (unknown_name bytes entries v)
    ++ of_kind 7 (wrong_count bytes entries v)
    ++ of_kind 8 (option_map_or (λ e. clashing_sorts bytes e.declared.arguments arguments) (look_up bytes entries node.head) []))

-- a node's visit, where its arguments are the newest of these
abbrev pub visit_over : List Name → Node → Visit
visit_over names node = visit node (drop (length names - node.count) names)

-- the names with its head in the place of its arguments
abbrev pub names_with : List Name → Node → List Name
names_with names node = take (length names - node.count) names ++ node.head ∷ []
