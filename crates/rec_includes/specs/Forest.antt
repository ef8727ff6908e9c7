-- The forest of specifications, each under the first one that it includes, and the order in which they are checked.
use Rattle.std.specs.Prelude.{◌≡◌, ℕ, zero, suc, ◌<◌, List, [], ◌∷◌, true, Option, Some, None, IfSome, nat_eq, length, slice_get, if◌then◌else◌}
use Rattle.std.specs.List.{list_any, slice_index_or}
use Rattle.std.specs.Option.{option_and_then}
use Rattle.rec_reader.specs.declared.token.Name.{Name}
use Rattle.rec_reader.specs.declared.syntax_tree.Specification.{Specification}
use Rattle.rec_includes.specs.Numbered.{first_target}

-- the specification under which the one with this number hangs: the first one that it includes
abbrev pub parent_of : (bytes : List ℕ) (headers : List Name) (specifications : List Specification) → ℕ → Option ℕ
parent_of bytes headers specifications n =
    option_and_then (λ s. first_target bytes headers n s.includes) (slice_get specifications n)

-- A path has its end first. What is left of it where it is cut back to this number: nothing where there is none.
abbrev pub cut : Option ℕ → List ℕ → List ℕ
cut None path = []
cut (Some p) [] = []
cut (Some p) (n ∷ ns) = if nat_eq p n then n ∷ ns else cut (Some p) ns

-- When the turn of each of these numbers comes, its parent is still on the path. The path is then cut back to the
-- parent, or to nothing where it has none, and the number is put at its end.
abbrev pub Follows : (parent : ℕ → Option ℕ) → (path : List ℕ) → List ℕ → Type 0
Follows parent path [] = Unit {0}
Follows parent path (n ∷ ns) =
    IfSome (parent n) (λ p. list_any (nat_eq p) path ≡ true) × Follows parent (n ∷ cut (parent n) path) ns

-- a number put right after its parent, or first where it has none
abbrev pub put : (parent : Option ℕ) → ℕ → List ℕ → List ℕ
put None n ns = n ∷ ns
put (Some p) n [] = []
put (Some p) n (m ∷ ms) = if nat_eq p m then m ∷ n ∷ ms else m ∷ put (Some p) n ms

-- the numbers below a count, each put so in rising order
abbrev pub preorder : (parent : ℕ → Option ℕ) → (count : ℕ) → List ℕ
preorder parent zero = []
preorder parent (suc n) = put (parent n) n (preorder parent n)

-- from here on the links go over these numbers to the end
abbrev pub Leads : (next : List (Option ℕ)) → Option ℕ → List ℕ → Type 0
Leads next at [] = at ≡ None
Leads next at (n ∷ ns) = (at ≡ Some n) × (n < length next) × Leads next (slice_index_or next n None) ns
