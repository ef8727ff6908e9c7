-- What stands on the stack, and what can be reached from there, keeps its rows and trees.
use Rattle.std.proofs.Common.{◌≡◌, ℕ, suc, ◌-◌, arith, inl, inr, true, List, [], ◌∷◌, ◌++◌, Some, length, take, map, refl, ap, sym, ◌∙◌, subst}
use Rattle.std.specs.Prelude.{Contains, All, slice_get}
use Rattle.std.specs.List.{flat_map}
use Rattle.std.proofs.lemmas.List.{map-append, take-map, length-map}
use Rattle.std.proofs.lemmas.List.Elements.{Contains-get_or}
use Rattle.std.proofs.lemmas.Option.{slice_get_within, get_or_from_slice_get}
use Rattle.term_model.specs.declared.Row.{Row}
use Rattle.term_model.specs.declared.Head.{Head}
use Rattle.term_model.specs.Tree.{Tree, subtrees, among}
use Rattle.term_model.proofs.Equality.{among_cases, among_here, among_there, contains_from_among, among_from_contains}
use Rattle.term_model.proofs.Subtrees.{among_left, among_right, among_either, itself}
use Rattle.terms_api.specs.Terms.{Store, HasTree, IsHeld, tree_at, trees, reachable, but_last, asked, IsSound, Loses, Built}
use Rattle.terms_api.proofs.Callers.{tree_at-has, has-held, held-stack, trees-at}

-- a subtree of one of some trees is among the subtrees of all
among_subtrees : (ts : List Tree) (u t : Tree) → among u ts ≡ true → among t (subtrees u) ≡ true → among t (flat_map subtrees ts) ≡ true
among_subtrees [] u t h k = absurd (cc)
among_subtrees (x ∷ xs) u t h k =
    elim (among_cases u x xs h) [
      | inl e ↦ among_left t (subtrees x) (flat_map subtrees xs) (subst (λ v. among t (subtrees v) ≡ true) e k)
      | inr g ↦ among_right t (subtrees x) (flat_map subtrees xs) (among_subtrees xs u t g k)
    ]

among_one : (ts : List Tree) (t : Tree) → among t (flat_map subtrees ts) ≡ true → (u : Tree) × (among u ts ≡ true) × (among t (subtrees u) ≡ true)
among_one [] t h = absurd (cc)
among_one (x ∷ xs) t h =
    elim (among_either t (subtrees x) (flat_map subtrees xs) h) [
      | inl k ↦ (x, among_here x x xs refl, k)
      | inr k ↦ (let r = among_one xs t k in (r.0, among_there r.0 x xs r.1, r.2))
    ]

pub reached : (s : Store) (u t : Tree) → Contains (trees s) u → Contains (subtrees u) t → Contains (reachable s) t
reached s u t h k =
    contains_from_among t (reachable s) (among_subtrees (trees s) u t (among_from_contains u (trees s) h) (among_from_contains t (subtrees u) k))

pub reached_from : (s : Store) (t : Tree) → Contains (reachable s) t → (u : Tree) × Contains (trees s) u × Contains (subtrees u) t
reached_from s t h =
    let r = among_one (trees s) t (among_from_contains t (reachable s) h) in
    (r.0, contains_from_among r.0 (trees s) r.1, contains_from_among t (subtrees r.0) r.2)

-- the stack's trees are reachable
pub reached-itself : (s : Store) (u : Tree) → Contains (trees s) u → Contains (reachable s) u
reached-itself s u h = reached s u u h (contains_from_among u (subtrees u) (itself u))

pub reached-stack : (s : Store) (i : ℕ) (r : Row) → slice_get s.stack i ≡ Some r → Contains (reachable s) (tree_at s r)
reached-stack s i r e =
    let at = trees-at s i r e in
    let t = tree_at s r in
    let there = Contains-get_or (trees s) i t (slice_get_within (trees s) i t at) in
    reached-itself s t (subst (Contains (trees s)) (get_or_from_slice_get (trees s) i t t at) there)

-- a row of the stack keeps its tree
pub stays : (old new : Store) (i : ℕ) (r : Row) → IsSound old → Loses old new → slice_get old.stack i ≡ Some r → HasTree new r (tree_at old r)
stays old new i r sound loses e =
    loses.reachable r (tree_at old r) (has-held old r (held-stack old i r sound e)) (reached-stack old i r e)

agree : (old new : Store) → Loses old new → (xs : List Row) → All (IsHeld old) xs → ((u : Tree) → among u (map (tree_at old) xs) ≡ true → Contains (reachable old) u) → map (tree_at new) xs ≡ map (tree_at old) xs
agree old new loses [] all held = refl
agree old new loses (x ∷ xs) all held =
    let t = tree_at old x in
    let here = loses.reachable x t (has-held old x (all 0 x (omega arith))) (held t (among_here t t (map (tree_at old) xs) refl)) in
    let first : tree_at new x ≡ t = tree_at-has new x t here in
    let rest = agree old new loses xs (λ k d h. all (suc k) d (omega arith)) (λ u h. held u (among_there u t (map (tree_at old) xs) h)) in
    ap (λ v. v ∷ map (tree_at new) xs) first ∙ ap (λ vs. t ∷ vs) rest

-- the rows of the stack keep their trees
pub trees_stay : (old new : Store) → IsSound old → Loses old new → map (tree_at new) old.stack ≡ trees old
trees_stay old new sound loses =
    agree old new loses old.stack sound.stack (λ u h. reached-itself old u (contains_from_among u (trees old) h))

pub trees-lost : (old new : Store) → IsSound old → Loses old new → new.stack ≡ old.stack → trees new ≡ trees old
trees-lost old new sound loses e = ap (map (tree_at new)) e ∙ trees_stay old new sound loses

pub trees-built : (old new : Store) (h : Head) (n : ℕ) → IsSound old → Built old new h n → trees new ≡ but_last n (trees old) ++ asked old h n ∷ []
trees-built old new h n sound b =
    let f = tree_at new in
    let k = length old.stack - n in
    let below : map f (take k old.stack) ≡ take k (trees old) =
    sym (take-map f k old.stack) ∙ ap (take k) (trees_stay old new sound b.rows) in
    let same : k ≡ length (trees old) - n = ap (λ m. m - n) (sym (length-map old.stack (tree_at old))) in
    ap (map f) b.stack
    ∙ map-append f (take k old.stack) (b.row ∷ [])
    ∙ ap (λ xs. xs ++ f b.row ∷ []) (below ∙ ap (λ m. take m (trees old)) same)
    ∙ ap (λ t. but_last n (trees old) ++ t ∷ []) (tree_at-has new b.row (asked old h n) b.tree)
