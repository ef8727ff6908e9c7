-- Binding a variable, by its place among the bound terms.
use Rattle.std.proofs.Common.{◌≡◌, ℕ, zero, suc, ◌<◌, ◌≤◌, List, [], ◌∷◌, ◌++◌, length, get_or, Option, Some, None, Bool, true, false, refl, sym, ◌∙◌, ap, arith}
use Rattle.std.specs.Prelude.{if◌then◌else◌}
use Rattle.std.specs.Option.{option_map}
use Rattle.term_model.specs.Tree.{Tree, Leaf, tree_eq}
use Rattle.rewrite_model.specs.Matching.{bind, tree_at}
use Rattle.plain_rewriting.specs.Boxed.{tree_of, trees, IsMatched}
use Rattle.plain_rewriting.specs.declared.boxed.Term.{Term}

-- a test of the tree at a place
abbrev tested : Bool → List Tree → Option (List Tree)
tested b ts = if b then Some ts else None

bind_bound : (x : ℕ) (t d : Tree) (ts : List Tree) → x < length ts → bind x t ts ≡ tested (tree_eq (get_or ts x d) t) ts
bind_bound x t d [] l = absurd (omega arith)
bind_bound zero t d (u ∷ us) l = refl
bind_bound (suc x) t d (u ∷ us) l = ap (λ o. option_map (λ vs. u ∷ vs) o) (bind_bound x t d us (omega arith)) ∙ inside (tree_eq (get_or us x d) t)
  where
    inside : (b : Bool) → option_map (λ vs. u ∷ vs) (tested b us) ≡ tested b (u ∷ us)
    inside true = refl
    inside false = refl

bind_beyond : (x : ℕ) (t : Tree) (ts : List Tree) → length ts < x → bind x t ts ≡ None
bind_beyond zero t ts l = absurd (omega arith)
bind_beyond (suc x) t [] l = refl
bind_beyond (suc x) t (u ∷ us) l = ap (λ o. option_map (λ vs. u ∷ vs) o) (bind_beyond x t us (omega arith))

bind_next : (x : ℕ) (t : Tree) (ts : List Tree) → x ≡ length ts → bind x t ts ≡ Some (ts ++ t ∷ [])
bind_next zero t [] e = refl
bind_next (suc x) t [] e = cc
bind_next zero t (u ∷ us) e = cc
bind_next (suc x) t (u ∷ us) e = ap (λ o. option_map (λ vs. u ∷ vs) o) (bind_next x t us (omega arith))

pub length_trees : (xs : List Term) → length (trees xs) ≡ length xs
length_trees [] = refl
length_trees (x ∷ xs) = ap suc (length_trees xs)

pub trees_push : (xs : List Term) (u : Term) → trees (xs ++ u ∷ []) ≡ trees xs ++ tree_of u ∷ []
trees_push [] u = refl
trees_push (x ∷ xs) u = ap (λ ts. tree_of x ∷ ts) (trees_push xs u)

at_trees : (xs : List Term) (i : ℕ) (u : Term) (d : Tree) → i < length xs → u ≡ get_or xs i u → get_or (trees xs) i d ≡ tree_of u
at_trees [] i u d l e = absurd (omega arith)
at_trees (x ∷ xs) zero u d l e = ap tree_of (sym e)
at_trees (x ∷ xs) (suc i) u d l e = at_trees xs i u d (omega arith) e

past_trees : (xs : List Term) (i : ℕ) (d : Tree) → length xs ≤ i → get_or (trees xs) i d ≡ d
past_trees [] i d l = refl
past_trees (x ∷ xs) zero d l = absurd (omega arith)
past_trees (x ∷ xs) (suc i) d l = past_trees xs i d (omega arith)

pub is_bound : (x : ℕ) (t : Tree) (xs : List Term) (u : Term) (b : Bool) → x < length xs → u ≡ get_or xs x u → b ≡ tree_eq (tree_of u) t → IsMatched b (bind x t (trees xs)) (trees xs)
is_bound x t xs u b l e r =
    let same : bind x t (trees xs) ≡ tested b (trees xs) = bind_bound x t (Leaf x) (trees xs) (omega (arith, length_trees xs)) ∙ ap (λ v. tested (tree_eq v t) (trees xs)) (at_trees xs x u (Leaf x) l e) ∙ ap (λ c. tested c (trees xs)) (sym r) in
    go b same
  where
    go : (c : Bool) → bind x t (trees xs) ≡ tested c (trees xs) → IsMatched c (bind x t (trees xs)) (trees xs)
    go true q = q
    go false q = q

pub is_beyond : (x : ℕ) (t : Tree) (xs : List Term) → length xs < x → bind x t (trees xs) ≡ None
is_beyond x t xs l = bind_beyond x t (trees xs) (omega (arith, length_trees xs))

pub is_next : (x : ℕ) (t : Tree) (xs : List Term) (u : Term) → x ≡ length xs → tree_of u ≡ t → bind x t (trees xs) ≡ Some (trees (xs ++ u ∷ []))
is_next x t xs u l e = bind_next x t (trees xs) (l ∙ sym (length_trees xs)) ∙ ap (λ v. Some (trees xs ++ v ∷ [])) (sym e) ∙ ap Some (sym (trees_push xs u))

pub tree_within : (x : ℕ) (xs : List Term) (u : Term) → x < length xs → u ≡ get_or xs x u → tree_of u ≡ tree_at x (trees xs)
tree_within x xs u l e = sym (at_trees xs x u (Leaf x) l e)

pub tree_past : (x : ℕ) (xs : List Term) → length xs ≤ x → Leaf x ≡ tree_at x (trees xs)
tree_past x xs l = sym (past_trees xs x (Leaf x) l)
