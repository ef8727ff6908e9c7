-- What is wrong with a specification, a definition for each kind: the names at which it is.
use Rattle.std.specs.Prelude.{ℕ, ◌-◌, List, [], ◌∷◌, ◌++◌, Bool, false, not, ◌&&◌, ◌||◌, ◌==◌, Option, None, nat_le, length, map, slice_get, if◌then◌else◌}
use Rattle.std.specs.List.{flat_map, list_any, filter}
use Rattle.std.specs.Option.{option_map_or, option_to_list, option_and_then, is_some}
use Rattle.rec_reader.specs.declared.token.Name.{Name}
use Rattle.rec_reader.specs.declared.syntax_tree.Node.{Node}
use Rattle.rec_reader.specs.declared.syntax_tree.Declaration.{Declaration}
use Rattle.rec_reader.specs.declared.syntax_tree.Variables.{Variables}
use Rattle.rec_reader.specs.declared.syntax_tree.Rule.{Rule}
use Rattle.rec_reader.specs.declared.syntax_tree.Specification.{Specification}
use Rattle.rec_includes.specs.Names.{text_of, same_text, is_among}
use Rattle.rec_includes.specs.Material.{Header, brought, fresh, with_numbers, symbols_by, symbols_of, rules_of}
use Rattle.rec_offences.specs.Scope.{Entry, names_of, own_entries, look_up, is_variable, root, heads, Visit, visits}

-- ---- Unknown sort: a sort of a declaration that isn't among the known ones
abbrev pub used_sorts : Specification → List Name
used_sorts s = flat_map (λ d. d.arguments ++ d.sort ∷ []) s.declarations ++ map (λ v. v.sort) s.variables

abbrev pub is_unknown : List ℕ → (known : List Name) → Name → Bool
is_unknown bytes known n = not (is_among bytes known n)

abbrev pub unknown_sorts : List ℕ → (known : List Name) → Specification → List Name
unknown_sorts bytes known s = filter (is_unknown bytes known) (used_sorts s)

-- ---- Unknown name: a head that isn't declared
abbrev pub unknown_name : List ℕ → List Entry → Visit → List Name
unknown_name bytes entries v = if is_some (look_up bytes entries v.node.head) then [] else v.node.head ∷ []

-- the terms of a rule
abbrev pub terms_of : Rule → List (List Node)
terms_of r = r.left ∷ r.right ∷ flat_map (λ c. c.first ∷ c.second ∷ []) r.conditions

-- the nodes of all terms of a specification, with the heads of their arguments
abbrev pub all_visits : Specification → List Visit
all_visits s = flat_map (visits []) (flat_map terms_of s.rules ++ s.terms)

abbrev pub unknown_names : List ℕ → List Entry → Specification → List Name
unknown_names bytes entries s = flat_map (unknown_name bytes entries) (all_visits s)

-- ---- Repeated: a name that an earlier one has
-- the names whose text one before them has, or one of the earlier ones
abbrev pub repeated : List ℕ → (earlier : List Name) → List Name → List Name
repeated bytes earlier [] = []
repeated bytes earlier (n ∷ ns) =
    (if is_among bytes earlier n then n ∷ [] else []) ++ repeated bytes (earlier ++ n ∷ []) ns

-- an entry of a list of includes: the material so far, and what the entry adds to it
pub record Include : Type 0 where
  pub entry : Name
  pub before : List ℕ
  pub added : List ℕ

abbrev pub include : (entry : Name) (before brought : List ℕ) → Include
include entry before brought = record { entry = entry; before = before; added = fresh before brought }

-- the entries of a list of includes, after those that brought this material
abbrev pub includes_from : List ℕ → List Header → List ℕ → List Name → List Include
includes_from bytes headers so_far [] = []
includes_from bytes headers so_far (n ∷ ns) =
    include n so_far (brought bytes headers n)
    ∷ includes_from bytes headers (with_numbers so_far (brought bytes headers n)) ns

abbrev pub symbol_names : List Specification → List ℕ → List Name
symbol_names earlier material = map (λ d. d.name) (symbols_of earlier material)

-- it adds a symbol's name that the material so far has from another declaration
abbrev pub is_clashing : List ℕ → List Specification → Include → Bool
is_clashing bytes earlier i = list_any (is_among bytes (symbol_names earlier i.before)) (symbol_names earlier i.added)

abbrev pub repeated_names : List ℕ → List Specification → List Header → (known : List Name) → List Include → Specification → List Name
repeated_names bytes earlier headers known includes s =
    filter (is_among bytes (map (λ h. h.name) headers)) (s.name ∷ [])
    ++ repeated bytes [] s.sorts
    ++ repeated bytes known (names_of (own_entries s))
    ++ map (λ i. i.entry) (filter (is_clashing bytes earlier) includes)

-- ---- Arity: a head with another number of arguments than declared
abbrev pub wrong_count : List ℕ → List Entry → Visit → List Name
wrong_count bytes entries v =
    option_map_or
    (λ e. if v.node.count == length e.declared.arguments then [] else v.node.head ∷ [])
    (look_up bytes entries v.node.head)
    []

abbrev pub wrong_counts : List ℕ → List Entry → Specification → List Name
wrong_counts bytes entries s = flat_map (wrong_count bytes entries) (all_visits s)

-- ---- Sort clash: a head that is declared with another sort than is wanted there
abbrev pub has_other_sort : List ℕ → List Entry → (wanted : Name) → Name → Bool
has_other_sort bytes entries wanted n =
    option_map_or (λ e. not (same_text bytes wanted e.declared.sort)) (look_up bytes entries n) false

-- the arguments that have another sort than the one that is wanted at their place
abbrev pub clashing : List ℕ → List Entry → (wanted arguments : List Name) → List Name
clashing bytes entries [] arguments = []
clashing bytes entries (w ∷ ws) [] = []
clashing bytes entries (w ∷ ws) (a ∷ others) =
    (if has_other_sort bytes entries w a then a ∷ [] else []) ++ clashing bytes entries ws others

abbrev pub clashing_arguments : List ℕ → List Entry → Visit → List Name
clashing_arguments bytes entries v =
    option_map_or (λ e. clashing bytes entries e.declared.arguments v.arguments) (look_up bytes entries v.node.head) []

-- the second side, where its head has another sort than the first side's
abbrev pub clashing_side : List ℕ → List Entry → (first second : List Node) → List Name
clashing_side bytes entries first second =
    option_map_or
    (λ e. filter (has_other_sort bytes entries e.declared.sort) (option_to_list (root second)))
    (option_and_then (look_up bytes entries) (root first))
    []

abbrev pub clashing_sides : List ℕ → List Entry → Rule → List Name
clashing_sides bytes entries r =
    clashing_side bytes entries r.left r.right
    ++ flat_map (λ c. clashing_side bytes entries c.first c.second) r.conditions

abbrev pub sort_clashes : List ℕ → List Entry → Specification → List Name
sort_clashes bytes entries s =
    flat_map (clashing_arguments bytes entries) (all_visits s) ++ flat_map (clashing_sides bytes entries) s.rules

-- ---- Bare variable: the head of a left side is a variable
abbrev pub bare_variables : List ℕ → List Entry → Specification → List Name
bare_variables bytes entries s =
    flat_map (λ r. filter (is_variable bytes entries) (option_to_list (root r.left))) s.rules

-- ---- Free variable: one of a right side or a condition that doesn't occur in the left side
abbrev pub nodes_but_left : Rule → List Node
nodes_but_left r = r.right ++ flat_map (λ c. c.first ++ c.second) r.conditions

abbrev pub free_variables : List ℕ → List Entry → Specification → List Name
free_variables bytes entries s =
    flat_map
    (λ r. filter (λ n. is_variable bytes entries n && not (is_among bytes (heads r.left) n)) (heads (nodes_but_left r)))
    s.rules

-- ---- Not ground: a variable in a term to be rewritten
abbrev pub not_ground : List ℕ → List Entry → Specification → List Name
not_ground bytes entries s = filter (is_variable bytes entries) (flat_map heads s.terms)

-- ---- Include: an entry that no earlier header has
abbrev pub unknown_includes : List ℕ → List Header → Specification → List Name
unknown_includes bytes headers s = filter (λ n. not (is_among bytes (map (λ h. h.name) headers) n)) s.includes

-- ---- Limit
-- how many symbols, rules or terms there may be
abbrev pub most : ℕ
most = 65535

abbrev pub names_in_declaration : Declaration → List Name
names_in_declaration d = d.names ++ d.arguments ++ d.sort ∷ []

abbrev pub names_in_variables : Variables → List Name
names_in_variables v = v.names ++ v.sort ∷ []

-- every name of a specification
abbrev pub names_in : Specification → List Name
names_in s =
    s.name ∷ s.includes ++ s.sorts
    ++ flat_map names_in_declaration s.declarations
    ++ flat_map names_in_variables s.variables
    ++ flat_map heads (flat_map terms_of s.rules ++ s.terms)

abbrev pub is_long : List ℕ → Name → Bool
is_long bytes n = not (nat_le (length (text_of bytes n)) 255)

-- what comes after as many as there may be, counting those that are there before
abbrev pub first_past : {A : Type 0} → (before : ℕ) → List A → Option A
first_past before xs = if nat_le before most then slice_get xs (most - before) else None

-- the included symbols alone pass the limit with this entry, or the rules do
abbrev pub passes : ℕ → ℕ → Bool
passes before after = nat_le before most && not (nat_le after most)

abbrev pub is_passing : List Specification → Include → Bool
is_passing earlier i =
    passes (length (symbols_of earlier i.before)) (length (symbols_of earlier (i.before ++ i.added)))
    || passes (length (rules_of earlier i.before)) (length (rules_of earlier (i.before ++ i.added)))

abbrev pub past_limits : List ℕ → List Specification → (material : List ℕ) → List Include → Specification → List Name
past_limits bytes earlier material includes s =
    filter (is_long bytes) (names_in s)
    ++ flat_map (λ d. option_to_list (slice_get d.arguments 16)) s.declarations
    ++ map (λ d. d.name) (option_to_list (first_past (length (symbols_of earlier material)) (symbols_by s)))
    ++ option_to_list (option_and_then (λ r. root r.left) (first_past (length (rules_of earlier material)) s.rules))
    ++ option_to_list (option_and_then root (first_past 0 s.terms))
    ++ map (λ i. i.entry) (filter (is_passing earlier) includes)
