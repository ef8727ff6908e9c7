-- Trees that are subtrees of others have no more different subtrees.
use Rattle.std.proofs.Common.{◌≡◌, ℕ, ◌+◌, ◌<◌, ◌≤◌, inl, inr, List, [], ◌∷◌, ◌++◌, Bool, true, false, refl, sym, ap, subst, arith, take, drop}
use Rattle.std.specs.Prelude.{Contains, if◌then◌else◌}
use Rattle.std.specs.List.{flat_map}
use Rattle.std.proofs.lemmas.List.{take-append-drop}
use Rattle.std.proofs.lemmas.List.Elements.{Contains-append_left, Contains-push}
use Rattle.term_model.specs.Tree.{Tree, subtrees, among, distinct}
use Rattle.term_model.specs.Laws.{IsSubtree}
use Rattle.term_model.proofs.Equality.{contains_from_among, among_from_contains, among_cases, among_here, among_there}
use Rattle.term_model.proofs.Members.{distinct_of_part}
use Rattle.term_model.proofs.Subtrees.{among_left, among_right, among_either, subtrees_nest, trees_are_subtrees}
use Rattle.term_commands.specs.Different.{different}

-- a subtree of one of these
abbrev pub IsWithin : List Tree → Tree → Type 0
IsWithin ts t = (u : Tree) × Contains ts u × IsSubtree t u

pub among_within : (ts : List Tree) (u t : Tree) → Contains ts u → IsSubtree t u → Contains (flat_map subtrees ts) t
among_within ts u t c s = contains_from_among t (flat_map subtrees ts) (go ts (among_from_contains u ts c) (among_from_contains t (subtrees u) s))
  where
    go : (xs : List Tree) → among u xs ≡ true → among t (subtrees u) ≡ true → among t (flat_map subtrees xs) ≡ true
    go [] i j = cc
    go (x ∷ xs) i j =
        elim (among_cases u x xs i) [
          | inl e ↦ among_left t (subtrees x) (flat_map subtrees xs) (subst (λ y. among t (subtrees y) ≡ true) e j)
          | inr r ↦ among_right t (subtrees x) (flat_map subtrees xs) (go xs r j)
        ]

from_flat : (ts : List Tree) (t : Tree) → among t (flat_map subtrees ts) ≡ true → (u : Tree) × (among u ts ≡ true) × (among t (subtrees u) ≡ true)
from_flat [] t h = absurd (cc)
from_flat (x ∷ xs) t h =
    elim (among_either t (subtrees x) (flat_map subtrees xs) h) [
      | inl k ↦ (x, among_here x x xs refl, k)
      | inr k ↦ (let r = from_flat xs t k in (r.0, among_there r.0 x xs r.1, r.2))
    ]

pub within_flat : (ts : List Tree) (t : Tree) → Contains (flat_map subtrees ts) t → IsWithin ts t
within_flat ts t c =
    let r = from_flat ts t (among_from_contains t (flat_map subtrees ts) c) in
    (r.0, contains_from_among r.0 ts r.1, contains_from_among t (subtrees r.0) r.2)

-- a subtree of what is within is within
pub within_deeper : (ts us : List Tree) → ((t : Tree) → Contains ts t → IsWithin us t) → (t : Tree) → IsWithin ts t → IsWithin us t
within_deeper ts us all t w =
    let v = all w.0 w.1 in
    (v.0, v.1, subtrees_nest v.0 w.0 t v.2 w.2)

pub fewer_different : (ts us : List Tree) → ((t : Tree) → Contains ts t → IsWithin us t) → different ts ≤ different us
fewer_different ts us all =
    distinct_of_part (flat_map subtrees ts) (flat_map subtrees us) (λ t c.
    (let w = within_deeper ts us all t (within_flat ts t c) in among_within us w.0 t w.1 w.2))

never_true : (b : Bool) → (b ≡ true → ⊥) → b ≡ false
never_true true f = absurd (f refl)
never_true false f = refl

-- a tree that isn't among the subtrees of these makes one more
pub one_more : (ts : List Tree) (t : Tree) → (Contains (flat_map subtrees ts) t → ⊥) → distinct (flat_map subtrees ts) < different (ts ++ t ∷ [])
one_more ts t absent =
    let old = flat_map subtrees ts in
    let new = flat_map subtrees (ts ++ t ∷ []) in
    let more : distinct (t ∷ old) ≡ distinct old + 1 = ap (λ (b : Bool). if b then distinct old else distinct old + 1) (never_true (among t old) (λ e. absent (contains_from_among t old e))) in
    let part : distinct (t ∷ old) ≤ distinct new = distinct_of_part (t ∷ old) new (λ u c.
    elim (among_cases u t old (among_from_contains u (t ∷ old) c)) [
      | inl e ↦ among_within (ts ++ t ∷ []) t u (Contains-push ts t) (subst (λ x. IsSubtree x t) (sym e) (trees_are_subtrees t))
      | inr r ↦ (let w = within_flat ts u (contains_from_among u old r) in among_within (ts ++ t ∷ []) w.0 u (Contains-append_left ts (t ∷ []) w.0 w.1) w.2)
    ]) in
    omega (arith, more, part)

-- a front of terms has no more
pub front_different : (n : ℕ) (ts : List Tree) → different (take n ts) ≤ different ts
front_different n ts =
    fewer_different (take n ts) ts (λ t c.
    (t, subst (λ us. Contains us t) (take-append-drop n ts) (Contains-append_left (take n ts) (drop n ts) t c), trees_are_subtrees t))
