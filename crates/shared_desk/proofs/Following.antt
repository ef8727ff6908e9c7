-- What follows a creation, and what goes before it.
use Rattle.std.proofs.Common.{◌≡◌, ℕ, zero, suc, ◌+◌, ◌-◌, ◌≤◌, inl, inr, List, [], ◌∷◌, ◌++◌, length, take, map, refl, ap, sym, ◌∙◌, subst, arith}
use Rattle.std.specs.Prelude.{Contains}
use Rattle.std.specs.List.{flat_map}
use Rattle.std.proofs.lemmas.List.{length-map, take-map, map-append, take-append-drop}
use Rattle.std.proofs.lemmas.List.Elements.{Contains-append_left, Contains-append_right, Contains-append_cases}
use Rattle.term_model.specs.declared.Row.{Row}
use Rattle.term_model.specs.declared.Head.{Head}
use Rattle.term_model.specs.Tree.{Tree, Node, list_of, trees_of, subtrees, distinct}
use Rattle.term_model.proofs.Members.{distinct_of_part}
use Rattle.term_model.proofs.Subtrees.{subtrees_nest, arguments_are_subtrees}
use Rattle.terms_api.specs.Terms.{tree_at, trees, reachable, last, but_last, asked, IsSound}
use Rattle.terms_api.proofs.Callers.{tree_at-has}
use Rattle.terms_api.proofs.Staying.{trees_stay}
use Rattle.shared_desk.specs.Pass.{PassView, store}
use Rattle.shared_desk.specs.Desk.{Passed, Placed, pass_in_turn}
use Rattle.shared_desk.proofs.Passing.{trees_same, lost_twice}

pub in_all : (ts : List Tree) (u t : Tree) → Contains ts u → Contains (subtrees u) t → Contains (flat_map subtrees ts) t
in_all [] u t (k, lt, e) h = absurd (omega arith)
in_all (x ∷ xs) u t (zero, lt, e) h = Contains-append_left (subtrees x) (flat_map subtrees xs) t (subst (λ z. Contains (subtrees z) t) (sym e) h)
in_all (x ∷ xs) u t (suc k, lt, e) h = Contains-append_right (subtrees x) (flat_map subtrees xs) t (in_all xs u t (k, omega arith, e) h)

pub from_all : (ts : List Tree) (t : Tree) → Contains (flat_map subtrees ts) t → (u : Tree) × Contains ts u × Contains (subtrees u) t
from_all [] t (k, lt, e) = absurd (omega arith)
from_all (x ∷ xs) t h =
    elim (Contains-append_cases (subtrees x) (flat_map subtrees xs) t h) [
      | inl k ↦ (x, (0, omega arith, refl), k)
      | inr k ↦ (let r = from_all xs t k in (r.0, (suc r.1.0, omega (arith, r.1.1), r.1.2), r.2))
    ]

-- more trees have more subtrees
pub wider : (ts us : List Tree) → ((t : Tree) → Contains ts t → Contains us t) → (t : Tree) → Contains (flat_map subtrees ts) t → Contains (flat_map subtrees us) t
wider ts us f t h = let r = from_all ts t h in in_all us r.0 t (f r.0 r.1) r.2

list_trees : (ts : List Tree) → list_of (trees_of ts) ≡ ts
list_trees [] = refl
list_trees (t ∷ ts) = ap (λ us. t ∷ us) (list_trees ts)

-- the trees of the new stack
pub trees_placed : (k : ℕ) (v w : PassView) (xs ys : List Row) (n : ℕ) (t : Tree) → IsSound (store v xs) → Placed k v w xs ys n t → trees (store w ys) ≡ but_last n (trees (store v xs)) ++ t ∷ []
trees_placed k v w xs ys n t sound b =
    let old = store v xs in
    let new = store w ys in
    let f = tree_at new in
    let m = length xs - n in
    let below : map f (take m xs) ≡ take m (trees old) = sym (take-map f m xs) ∙ ap (take m) (trees_stay old new sound b.rows) in
    let same : m ≡ length (trees old) - n = ap (λ i. i - n) (sym (length-map xs (tree_at old))) in
    ap (map f) b.stack
    ∙ map-append f (take m xs) (b.row ∷ [])
    ∙ ap (λ zs. zs ++ f b.row ∷ []) (below ∙ ap (λ i. take i (trees old)) same)
    ∙ ap (λ u. but_last n (trees old) ++ u ∷ []) (tree_at-has new b.row t b.tree)

-- what was reached is reached still
still : (ts : List Tree) (h : Head) (n : ℕ) (t : Tree) → Contains (flat_map subtrees ts) t → Contains (flat_map subtrees (but_last n ts ++ Node h (trees_of (last n ts)) ∷ [])) t
still ts h n t k =
    let r = from_all ts t k in
    let top = Node h (trees_of (last n ts)) in
    let news = but_last n ts ++ top ∷ [] in
    let there = subst (λ (zs : List Tree). Contains zs r.0) (sym (take-append-drop (length ts - n) ts)) r.1 in
    elim (Contains-append_cases (but_last n ts) (last n ts) r.0 there) [
      | inl a ↦ in_all news r.0 t (Contains-append_left (but_last n ts) (top ∷ []) r.0 a) r.2
      | inr a ↦ (
          let arg = arguments_are_subtrees top r.0 (subst (λ (zs : List Tree). Contains zs r.0) (sym (list_trees (last n ts))) a) in
          in_all news top t (Contains-append_right (but_last n ts) (top ∷ []) top (0, omega arith, refl)) (subtrees_nest top r.0 t arg r.2))
    ]

narrow : (ts : List Tree) (n : ℕ) (top t : Tree) → Contains (but_last n ts ++ top ∷ []) t → Contains (ts ++ top ∷ []) t
narrow ts n top t h =
    elim (Contains-append_cases (but_last n ts) (top ∷ []) t h) [
      | inl a ↦ Contains-append_left ts (top ∷ []) t (subst (λ (zs : List Tree). Contains zs t) (take-append-drop (length ts - n) ts) (Contains-append_left (but_last n ts) (last n ts) t a))
      | inr a ↦ Contains-append_right ts (top ∷ []) t a
    ]

-- a creation after other steps
pub placed_after : (j k : ℕ) (v m w : PassView) (xs ys : List Row) (h : Head) (n : ℕ) → IsSound (store v xs) → Passed j v m xs → Placed k m w xs ys n (asked (store m xs) h n) → Placed (j + k) v w xs ys n (asked (store v xs) h n)
placed_after j k v m w xs ys h n sound p b =
    let same = trees_same j v m xs sound p in
    let e : asked (store m xs) h n ≡ asked (store v xs) h n = ap (λ ts. Node h (trees_of (last n ts))) same in
    let t = asked (store v xs) h n in
    let c = subst (Placed k m w xs ys n) e b in
    let ts = trees (store v xs) in
    let us = trees (store m xs) in
    let more : distinct (flat_map subtrees ts) ≤ distinct (flat_map subtrees (ts ++ t ∷ [])) = distinct_of_part _ _ (wider ts (ts ++ t ∷ []) (λ u k. Contains-append_left ts (t ∷ []) u k)) in
    let d : distinct (flat_map subtrees (us ++ t ∷ [])) ≡ distinct (flat_map subtrees (ts ++ t ∷ [])) = ap (λ (zs : List Tree). distinct (flat_map subtrees (zs ++ t ∷ []))) same in
    record {
      row = c.row;
      stack = c.stack;
      tree = c.tree;
      built = c.built ∙ ap (λ (zs : List Tree). zs ++ t ∷ []) p.built;
      only = λ r u x. elim (c.only r u x) [ inl a ↦ inl (p.none r u a) | inr a ↦ inr a ];
      rows = lost_twice v m w xs xs ys p.rows c.rows (λ u x. subst (λ zs. Contains (flat_map subtrees zs) u) (sym same) x);
      sweeps = omega (arith, p.sweeps, c.sweeps);
      load = record {
        least = omega (arith, p.load.least, c.load.least);
        most = omega (arith, p.load.most, c.load.most, more, d);
      };
      same = pass_in_turn v m w p.same c.same;
      sound = c.sound;
    }

-- other steps after a creation
pub placed_then : (j k : ℕ) (v m w : PassView) (xs ys : List Row) (h : Head) (n : ℕ) → IsSound (store v xs) → Placed j v m xs ys n (asked (store v xs) h n) → Passed k m w ys → Placed (j + k) v w xs ys n (asked (store v xs) h n)
placed_then j k v m w xs ys h n sound b p =
    let t = asked (store v xs) h n in
    let ts = trees (store v xs) in
    let e = trees_placed j v m xs ys n t sound b in
    let reach : (u : Tree) → Contains (reachable (store v xs)) u → Contains (reachable (store m ys)) u = λ u x. subst (λ zs. Contains (flat_map subtrees zs) u) (sym e) (still ts h n u x) in
    let held : Contains (reachable (store m ys)) t = subst (λ zs. Contains (flat_map subtrees zs) t) (sym e) (in_all (but_last n ts ++ t ∷ []) t t (Contains-append_right (but_last n ts) (t ∷ []) t (0, omega arith, refl)) (0, omega arith, refl)) in
    let less : distinct (flat_map subtrees (but_last n ts ++ t ∷ [])) ≤ distinct (flat_map subtrees (ts ++ t ∷ [])) = distinct_of_part _ _ (wider (but_last n ts ++ t ∷ []) (ts ++ t ∷ []) (λ u k. narrow ts n t u k)) in
    let d : distinct (flat_map subtrees (trees (store m ys))) ≡ distinct (flat_map subtrees (but_last n ts ++ t ∷ [])) = ap (λ (zs : List Tree). distinct (flat_map subtrees zs)) e in
    record {
      row = b.row;
      stack = b.stack;
      tree = p.rows.reachable b.row t b.tree held;
      built = p.built ∙ b.built;
      only = λ r u x. b.only r u (p.none r u x);
      rows = lost_twice v m w xs ys ys b.rows p.rows reach;
      sweeps = omega (arith, b.sweeps, p.sweeps);
      load = record {
        least = omega (arith, b.load.least, p.load.least);
        most = omega (arith, b.load.most, p.load.most, less, d);
      };
      same = pass_in_turn v m w b.same p.same;
      sound = p.sound;
    }
