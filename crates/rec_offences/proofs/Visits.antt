-- Visits of whole terms beside one another.
use Rattle.rec_offences.proofs.Common.{nat_tests, ◌≡◌, ◌≤◌, ℕ, ◌-◌, List, [], ◌∷◌, ◌++◌, length, take, map, refl, ap, sym, arith, append_assoc, append-nil, Some, All, flat_map, length-map, length-take-le, All-head, All-tail, none-some, drop-append-add, take-append-add, Name, Node, Visit, visits, nodes_of, VisitsAreOfArguments}
use Rattle.std.proofs.lemmas.Bool.{ltb-false}
use Rattle.std.proofs.lemmas.List.{length-append}
use Rattle.rec_reader.specs.Whole.{terms_after, IsWhole}
use Rattle.rec_offences.specs.Laws.{Argument}

-- the stack after a node, and after nodes
abbrev stack_with : List Name → Node → List Name
stack_with s n = take (length s - n.count) s ++ n.head ∷ []

abbrev stack_after : List Name → List Node → List Name
stack_after s [] = s
stack_after s (n ∷ ns) = stack_after (stack_with s n) ns

-- there are enough terms for a node's arguments
record Fits (s : List Name) (n : Node) (ns : List Node) (m : ℕ) : Type 0 where
  enough : n.count ≤ length s
  then' : terms_after (length (stack_with s n)) ns ≡ Some m

fits : (s : List Name) (n : Node) (ns : List Node) (m : ℕ) → terms_after (length s) (n ∷ ns) ≡ Some m → Fits s n ns m
fits s n ns m e = grind (arith, nat_tests, none-some, ltb-false, length-append, length-take-le)

long_after : (s : List Name) (ns : List Node) (m : ℕ) → terms_after (length s) ns ≡ Some m → length (stack_after s ns) ≡ m
long_after s [] m e = let same : length s ≡ m = cc in same
long_after s (n ∷ ns) m e = long_after (stack_with s n) ns m (fits s n ns m e).then'

last_after : (s : List Name) (ns : List Node) (n : Node) → stack_after s (ns ++ n ∷ []) ≡ stack_with (stack_after s ns) n
last_after s [] n = refl
last_after s (k ∷ ns) n = last_after (stack_with s k) ns n

-- nodes that have their arguments among themselves are visited alike over any stack
over : (base s : List Name) (ns rest : List Node) (m : ℕ) → terms_after (length s) ns ≡ Some m → visits (base ++ s) (ns ++ rest) ≡ visits s ns ++ visits (base ++ stack_after s ns) rest
over base s [] rest m e = refl
over base s (n ∷ ns) rest m e = grind (arith, nat_tests, over base (stack_with s n) ns rest m, fits, length-append, drop-append-add, take-append-add, append_assoc)

-- a whole term leaves its head on the stack
one_whole : (base : List Name) (a : Argument) (rest : List Node) → IsWhole (nodes_of a) → visits base (nodes_of a ++ rest) ≡ visits [] (nodes_of a) ++ visits (base ++ a.last.head ∷ []) rest
one_whole base a rest w =
    let t = stack_after [] a.before in
    grind (arith, last_after [] a.before a.last, long_after [] (nodes_of a) 1 w, nat_tests, length-append, append-nil base, over base [] (nodes_of a) rest 1 w)

abbrev all_visits_of : List Argument → List Visit
all_visits_of arguments = flat_map (λ a. visits [] (nodes_of a)) arguments

abbrev heads_of : List Argument → List Name
heads_of arguments = map (λ a. a.last.head) arguments

whole_terms : (base : List Name) (arguments : List Argument) (rest : List Node) → All (λ a. IsWhole (nodes_of a)) arguments → visits base (flat_map nodes_of arguments ++ rest) ≡ all_visits_of arguments ++ visits (base ++ heads_of arguments) rest
whole_terms base [] rest w = sym (ap (λ b. visits b rest) (append-nil base))
whole_terms base (a ∷ others) rest w =
    let P : Argument → Type 0 = λ a. IsWhole (nodes_of a) in
    grind (arith, append_assoc, one_whole base a (flat_map nodes_of others ++ rest) (All-head P a others w), whole_terms (base ++ a.last.head ∷ []) others rest (All-tail P a others w))

pub visits_are_of_arguments : VisitsAreOfArguments
visits_are_of_arguments node arguments w n = grind (arith, nat_tests, length-map, whole_terms)
