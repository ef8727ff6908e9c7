-- What callers of a store use most.
use Rattle.std.proofs.Common.{◌≡◌, ℕ, ◌-◌, List, [], ◌∷◌, ◌++◌, Option, Some, None, length, take, drop, refl, ap, ◌∙◌, subst, arith}
use Rattle.std.specs.Prelude.{IsSome, slice_get}
use Rattle.std.specs.Option.{option_map}
use Rattle.std.proofs.lemmas.List.{map-append, drop-map, take-map, length-map, length-append}
use Rattle.std.proofs.Math.Seq.{take-append_seam, drop-append_seam, take-length, drop-length}
use Rattle.std.proofs.lemmas.Option.{slice_get_within, get_or_from_slice_get, slice_get-map}
use Rattle.std.proofs.lemmas.List.Elements.{All-get_or}
use Rattle.term_model.specs.declared.Row.{Row}
use Rattle.term_model.specs.Tree.{Tree}
use Rattle.term_model.specs.Postorder.{tree_or_leaf}
use Rattle.terms_api.specs.Terms.{Store, HasTree, IsHeld, tree_at, trees, last, but_last, IsSound, pushed, kept}

-- a row's tree is its only one
pub tree_at-has : (s : Store) (r : Row) (t : Tree) → HasTree s r t → tree_at s r ≡ t
tree_at-has s r t h = ap tree_or_leaf h

pub held-has : (s : Store) (r : Row) (t : Tree) → HasTree s r t → IsHeld s r
held-has s r t h = rw h refl

some_of : (o : Option Tree) → IsSome o → o ≡ Some (tree_or_leaf o)
some_of None h = absurd (cc)
some_of (Some t) h = refl

-- a held row has its tree
pub has-held : (s : Store) (r : Row) → IsHeld s r → HasTree s r (tree_at s r)
has-held s r h = some_of (s.held r) h

-- rows of one tree are one
pub same_row : (s : Store) (r q : Row) → IsSound s → IsHeld s r → IsHeld s q → tree_at s r ≡ tree_at s q → r ≡ q
same_row s r q sound h k e = sound.one_row r q (tree_at s q) (has-held s r h ∙ ap Some e) (has-held s q k)

-- what stands on the stack is held
pub held-stack : (s : Store) (i : ℕ) (r : Row) → IsSound s → slice_get s.stack i ≡ Some r → IsHeld s r
held-stack s i r sound e =
    let within = slice_get_within s.stack i r e in
    let there = All-get_or (IsHeld s) s.stack i r within sound.stack in
    subst (IsHeld s) (get_or_from_slice_get s.stack i r r e) there

-- the tree at a place of the stack
pub trees-at : (s : Store) (i : ℕ) (r : Row) → slice_get s.stack i ≡ Some r → slice_get (trees s) i ≡ Some (tree_at s r)
trees-at s i r e = slice_get-map (tree_at s) s.stack i ∙ ap (option_map (tree_at s)) e

-- a pushed row's tree is on top
pub trees-pushed : (s : Store) (r : Row) → trees (pushed s r) ≡ trees s ++ tree_at s r ∷ []
trees-pushed s r = map-append (tree_at s) s.stack (r ∷ [])

pub trees-kept : (s : Store) (from top : ℕ) → trees (kept s from top) ≡ take from (trees s) ++ last top (trees s)
trees-kept s from top =
    let f = tree_at s in
    map-append f (take from s.stack) (last top s.stack)
    ∙ simp (take-map, drop-map, length-map)

-- the last n of a list that ends in n others
pub last-append : {A : Type 0} (n : ℕ) (xs ys : List A) → length ys ≡ n → last n (xs ++ ys) ≡ ys
last-append n xs ys e =
    let k : length (xs ++ ys) - n ≡ length xs = omega (arith, length-append xs ys) in
    ap (λ m. drop m (xs ++ ys)) k ∙ drop-append_seam xs ys

pub but_last-append : {A : Type 0} (n : ℕ) (xs ys : List A) → length ys ≡ n → but_last n (xs ++ ys) ≡ xs
but_last-append n xs ys e =
    let k : length (xs ++ ys) - n ≡ length xs = omega (arith, length-append xs ys) in
    ap (λ m. take m (xs ++ ys)) k ∙ take-append_seam xs ys

-- the last of no places
pub last-none : {A : Type 0} (xs : List A) → last 0 xs ≡ []
last-none xs =
    let k : length xs - 0 ≡ length xs = omega arith in
    ap (λ m. drop m xs) k ∙ drop-length xs

pub but_last-none : {A : Type 0} (xs : List A) → but_last 0 xs ≡ xs
but_last-none xs =
    let k : length xs - 0 ≡ length xs = omega arith in
    ap (λ m. take m xs) k ∙ take-length xs
