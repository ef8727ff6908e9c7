-- What specifications declare, and the material of each: the specifications that it includes, and itself.
-- Specifications are numbered from 0, in the order of the input.
use Rattle.std.specs.Prelude.{ℕ, List, [], ◌∷◌, ◌++◌, nat_eq, length, map, fold, take, slice_get, if◌then◌else◌}
use Rattle.std.specs.List.{flat_map, list_any}
use Rattle.std.specs.Option.{option_map_or, option_to_list}
use Rattle.rec_reader.specs.declared.token.Name.{Name}
use Rattle.rec_reader.specs.declared.syntax_tree.Declaration.{Declaration}
use Rattle.rec_reader.specs.declared.syntax_tree.Variables.{Variables}
use Rattle.rec_reader.specs.declared.syntax_tree.Rule.{Rule}
use Rattle.rec_reader.specs.declared.syntax_tree.Specification.{Specification}
use Rattle.rec_includes.specs.Names.{same_text}

-- a declared symbol: its name, the sorts of its arguments, and its own sort
pub record Declared : Type 0 where
  pub name : Name
  pub arguments : List Name
  pub sort : Name

-- a declared variable: its name and its sort
pub record Variable : Type 0 where
  pub name : Name
  pub sort : Name

abbrev pub declared : (name : Name) (arguments : List Name) (sort : Name) → Declared
declared name arguments sort = record { name = name; arguments = arguments; sort = sort }

abbrev pub variable : (name sort : Name) → Variable
variable name sort = record { name = name; sort = sort }

-- the symbols of a declaration, in order
abbrev pub symbols_of_declaration : Declaration → List Declared
symbols_of_declaration d = map (λ n. declared n d.arguments d.sort) d.names

-- the symbols that a specification declares, in order
abbrev pub symbols_by : Specification → List Declared
symbols_by s = flat_map symbols_of_declaration s.declarations

abbrev pub variables_of : Variables → List Variable
variables_of v = map (λ n. variable n v.sort) v.names

-- the variables that a specification declares, in order
abbrev pub variables_by : Specification → List Variable
variables_by s = flat_map variables_of s.variables

-- a specification as those after it see it: its header's name, and its material
pub record Header : Type 0 where
  pub name : Name
  pub material : List ℕ

abbrev pub header : Name → List ℕ → Header
header name material = record { name = name; material = material }

-- what an entry of a list of includes brings: the material of the first header with its name, or nothing
abbrev pub brought : List ℕ → List Header → Name → List ℕ
brought bytes [] entry = []
brought bytes (h ∷ hs) entry = if same_text bytes h.name entry then h.material else brought bytes hs entry

-- the numbers that aren't among these yet, each once at its first mention
abbrev pub fresh : List ℕ → List ℕ → List ℕ
fresh numbers [] = []
fresh numbers (n ∷ ns) = if list_any (nat_eq n) numbers then fresh numbers ns else n ∷ fresh (numbers ++ n ∷ []) ns

-- more numbers, each once at its first mention
abbrev pub with_numbers : List ℕ → List ℕ → List ℕ
with_numbers numbers more = numbers ++ fresh numbers more

-- what these entries bring
abbrev pub included : List ℕ → List Header → List Name → List ℕ
included bytes headers entries = fold (λ numbers entry. with_numbers numbers (brought bytes headers entry)) [] entries

-- the header of the specification that comes after these: it includes what its entries bring, and comes last itself
abbrev pub header_after : List ℕ → List Header → Specification → Header
header_after bytes headers s = header s.name (included bytes headers s.includes ++ length headers ∷ [])

-- the headers of all specifications, in order
abbrev pub headers_of : List ℕ → List Specification → List Header
headers_of bytes specifications = fold (λ headers s. headers ++ header_after bytes headers s ∷ []) [] specifications

-- the material of the specification with this number, nothing where there is none
unfoldable pub material_of : List ℕ → List Specification → ℕ → List ℕ
material_of bytes specifications number =
    option_map_or (λ s. (header_after bytes (headers_of bytes (take number specifications)) s).material) (slice_get specifications number) []

-- the specifications with these numbers
abbrev pub specifications_at : List Specification → List ℕ → List Specification
specifications_at specifications numbers = flat_map (λ n. option_to_list (slice_get specifications n)) numbers

-- what a material has, in order
abbrev pub symbols_of : List Specification → List ℕ → List Declared
symbols_of specifications material = flat_map symbols_by (specifications_at specifications material)

abbrev pub sorts_of : List Specification → List ℕ → List Name
sorts_of specifications material = flat_map (λ s. s.sorts) (specifications_at specifications material)

abbrev pub rules_of : List Specification → List ℕ → List Rule
rules_of specifications material = flat_map (λ s. s.rules) (specifications_at specifications material)
