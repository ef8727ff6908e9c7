-- Rows of a store that hasn't changed, and the nodes of the trees of rows on a stack.
use Rattle.std.proofs.Common.{◌≡◌, ℕ, ◌+◌, ◌<◌, List, [], ◌∷◌, ◌++◌, Some, length, take, get_or, ap, ◌∙◌, subst, arith}
use Rattle.std.specs.Prelude.{slice_get, sum_by}
use Rattle.std.proofs.lemmas.Option.{slice_get_within, get_or_from_slice_get}
use Rattle.std.proofs.lemmas.List.{take_more}
use Rattle.std.proofs.Math.Seq.{take-length}
use Rattle.std.proofs.lemmas.List.Sums.{sum_by_push}
use Rattle.term_model.specs.declared.Row.{Row}
use Rattle.term_model.specs.Tree.{nodes, arguments, IsWellFormed}
use Rattle.terms_api.specs.Terms.{Store, IsHeld, IsSound, tree_at}
use Rattle.terms_api.proofs.Callers.{has-held}
use Rattle.term_text.specs.Nodes.{nodes_at, nodes_of_rows}
use Rattle.term_text.proofs.Shapes.{nodes-arguments}

-- what was read in a store that is the same
pub child_there : (s t : Store) (row child : Row) (j : ℕ) → t ≡ s → slice_get (arguments (tree_at t row)) j ≡ Some (tree_at t child) → slice_get (arguments (tree_at s row)) j ≡ Some (tree_at s child)
child_there s t row child j e h = subst (λ (x : Store). slice_get (arguments (tree_at x row)) j ≡ Some (tree_at x child)) e h

pub held_there : (s t : Store) (row : Row) → t ≡ s → IsHeld t row → IsHeld s row
held_there s t row e h = subst (λ (x : Store). IsHeld x row) e h

pub well_formed_at : (s : Store) (row : Row) → IsSound s → IsHeld s row → IsWellFormed (tree_at s row)
well_formed_at s row sound held = sound.well_formed row (tree_at s row) (has-held s row held)

-- one argument more is on the stack
pub argument_counted : (s : Store) (row child : Row) (j : ℕ) (old stack new : List Row)
    → nodes_of_rows s stack ≡ nodes_of_rows s old + sum_by nodes (take j (arguments (tree_at s row)))
    → slice_get (arguments (tree_at s row)) j ≡ Some (tree_at s child)
    → new ≡ stack ++ child ∷ []
    → nodes_of_rows s new ≡ nodes_of_rows s old + sum_by nodes (take (j + 1) (arguments (tree_at s row)))
argument_counted s row child j old stack new sum at e =
    let xs = arguments (tree_at s row) in
    let t = tree_at s child in
    let within : j < length xs = slice_get_within xs j t at in
    let there : get_or xs j t ≡ t = get_or_from_slice_get xs j t t at in
    let more : take (j + 1) xs ≡ take j xs ++ t ∷ [] = take_more xs j t within ∙ ap (λ x. take j xs ++ x ∷ []) there in
    let right : sum_by nodes (take (j + 1) xs) ≡ sum_by nodes (take j xs) + nodes t = ap (sum_by nodes) more ∙ sum_by_push nodes (take j xs) t in
    let left : nodes_of_rows s new ≡ nodes_of_rows s stack + nodes t = ap (nodes_of_rows s) e ∙ sum_by_push (nodes_at s) stack child in
    omega (arith, sum, left, right)

pub arguments_counted : (s : Store) (row : Row) (j : ℕ) (old stack : List Row)
    → nodes_of_rows s stack ≡ nodes_of_rows s old + sum_by nodes (take j (arguments (tree_at s row)))
    → j ≡ length (arguments (tree_at s row))
    → nodes_of_rows s stack + 1 ≡ nodes_of_rows s old + nodes_at s row
arguments_counted s row j old stack sum e =
    let xs = arguments (tree_at s row) in
    let whole : sum_by nodes (take j xs) ≡ sum_by nodes xs = ap (λ n. sum_by nodes (take n xs)) e ∙ ap (sum_by nodes) (take-length xs) in
    omega (arith, sum, whole, nodes-arguments (tree_at s row))

-- the last row taken from the stack
pub nodes_popped : (s : Store) (stack rest : List Row) (row : Row) → stack ≡ rest ++ row ∷ [] → nodes_of_rows s stack ≡ nodes_of_rows s rest + nodes_at s row
nodes_popped s stack rest row e = ap (nodes_of_rows s) e ∙ sum_by_push (nodes_at s) rest row

pub sound_there : (s t : Store) → t ≡ s → IsSound t → IsSound s
sound_there s t e h = subst IsSound e h
