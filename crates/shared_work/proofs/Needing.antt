-- How many different trees several lists have together, and what a refused build had in hand.
use Rattle.std.proofs.Common.{◌≡◌, ◌≢◌, ◌⊎◌, inl, inr, ℕ, zero, suc, ◌+◌, ◌*◌, ◌<◌, ◌≤◌, ◌==◌, Bool, true, false, List, [], ◌∷◌, ◌++◌, length, map, eq-eqb, refl, sym, ap, subst, arith}
use Rattle.std.specs.Prelude.{All, Contains, if◌then◌else◌}
use Rattle.std.specs.List.{flat_map}
use Rattle.std.proofs.lemmas.Bool.{eqb-true, eqb-false}
use Rattle.std.proofs.lemmas.List.Elements.{All-head, All-tail, Contains-append_left, Contains-append_right, Contains-append_cases}
use Rattle.std.proofs.Math.Nat.{le-max_left, le-max_right}
use mathlib.Core.Logic.{dite}
use native.Mathlib.Decide.{ℕ_discrete}
use Rattle.term_model.specs.Tree.{Tree, subtrees, among, distinct}
use Rattle.term_model.specs.Laws.{IsSubtree}
use Rattle.term_model.proofs.Equality.{contains_from_among}
use Rattle.term_model.proofs.Members.{distinct_of_part}
use Rattle.term_model.proofs.Subtrees.{among_left, trees_are_subtrees, subtrees_nest}
use Rattle.history_core.proofs.Members.{contains_here, contains_there, contains_none, contains_cases}
use Rattle.rewrite_model.specs.Rule.{Rule}
use Rattle.rewrite_model.specs.Evaluation.{Point}
use Rattle.rewrite_model.specs.Built.{trees_in_hand, greatest, need}
use Rattle.innermost.specs.Normalized.{IsPartOf}
use Rattle.settings.specs.declared.parts.Settings.{Settings}
use Rattle.term_lines.specs.Strategies.{points_of}
use Rattle.work_order.specs.Drawn.{numbered}
use Rattle.work_order.specs.Works.{term_at, need_of}

-- the subtrees of all these trees
abbrev pub below : List Tree → List Tree
below ts = flat_map subtrees ts

pub in_below : (ts : List Tree) (t u : Tree) → Contains ts t → IsSubtree u t → Contains (below ts) u
in_below [] t u c inside = absurd (contains_none t c)
in_below (x ∷ xs) t u c inside = by (contains_cases x xs t c) (in_below xs t u)
  where
    by : (x ≡ t) ⊎ Contains xs t → (Contains xs t → IsSubtree u t → Contains (below xs) u) → Contains (below (x ∷ xs)) u
    by (inl same) rest = Contains-append_left (subtrees x) (below xs) u (subst (λ y. IsSubtree u y) (sym same) inside)
    by (inr more) rest = Contains-append_right (subtrees x) (below xs) u (rest more inside)

-- what was protected is in hand
in_hand : (protected hand : List Tree) → All (IsPartOf hand) protected → (u : Tree) → Contains (below protected) u → Contains (below hand) u
in_hand [] hand all u c = absurd (contains_none u c)
in_hand (h ∷ hs) hand all u c = by (Contains-append_cases (subtrees h) (below hs) u c) (in_hand hs hand (All-tail (IsPartOf hand) h hs all) u)
  where
    by : Contains (subtrees h) u ⊎ Contains (below hs) u → (Contains (below hs) u → Contains (below hand) u) → Contains (below hand) u
    by (inl here) rest = let part = All-head (IsPartOf hand) h hs all in in_below hand part.0 u part.1 (subtrees_nest part.0 h u part.2 here)
    by (inr more) rest = rest more

-- the tree that was refused and what was protected then are in hand at the point
pub asked_in_hand : (p : Point) (protected : List Tree) → All (IsPartOf p.hand) protected → distinct (p.tree ∷ below protected) ≤ trees_in_hand p
asked_in_hand p protected all =
    distinct_of_part (p.tree ∷ below protected) (below (p.tree ∷ p.hand)) (λ u c. by u (contains_cases p.tree (below protected) u c))
  where
    by : (u : Tree) → (p.tree ≡ u) ⊎ Contains (below protected) u → Contains (below (p.tree ∷ p.hand)) u
    by u (inl same) = Contains-append_left (subtrees p.tree) (below p.hand) u (subst (λ y. IsSubtree y p.tree) same (trees_are_subtrees p.tree))
    by u (inr more) = Contains-append_right (subtrees p.tree) (below p.hand) u (in_hand protected p.hand all u more)

at_point : (front back : List Point) (p : Point) → trees_in_hand p ≤ greatest (map trees_in_hand (front ++ p ∷ back))
at_point [] back p = le-max_left (trees_in_hand p) (greatest (map trees_in_hand back))
at_point (q ∷ front) back p =
    let rest = at_point front back p in
    let more = le-max_right (trees_in_hand q) (greatest (map trees_in_hand (front ++ p ∷ back))) in
    omega (arith, rest, more)

-- a point of a term has no more in hand than the term needs
pub point_needs : (s : Settings) (rules : List Rule) (term : Tree) (front back : List Point) (p : Point) → points_of rules term s.fuel s.depth ≡ front ++ p ∷ back → trees_in_hand p ≤ need rules term s.fuel s.depth
point_needs s rules term front back p split = subst (λ ps. trees_in_hand p ≤ greatest (map trees_in_hand ps)) (sym split) (at_point front back p)

need_among : (s : Settings) (rules : List Rule) (terms : List Tree) (i : ℕ) → i < length terms → need rules (term_at terms i) s.fuel s.depth ≤ need_of s rules terms
need_among s rules [] i l = absurd (omega (arith, l))
need_among s rules (t ∷ ts) zero l = le-max_left (need rules t s.fuel s.depth) (need_of s rules ts)
need_among s rules (t ∷ ts) (suc i) l =
    let rest = need_among s rules ts i (omega (arith, l)) in
    let more = le-max_right (need rules t s.fuel s.depth) (need_of s rules ts) in
    omega (arith, rest, more)

-- nor has a term that was drawn a greater need than all terms
pub drawn_needs : (s : Settings) (rules : List Rule) (terms : List Tree) (drawn : List ℕ) → All (λ i. i < length terms) drawn → (t : Tree) → Contains (numbered terms drawn) t
    → need rules t s.fuel s.depth ≤ need_of s rules terms
drawn_needs s rules terms [] all t c = absurd (contains_none t c)
drawn_needs s rules terms (i ∷ is) all t c = by (contains_cases (term_at terms i) (numbered terms is) t c) (drawn_needs s rules terms is (All-tail (λ i. i < length terms) i is all) t)
  where
    by : (term_at terms i ≡ t) ⊎ Contains (numbered terms is) t → (Contains (numbered terms is) t → need rules t s.fuel s.depth ≤ need_of s rules terms) → need rules t s.fuel s.depth ≤ need_of s rules terms
    by (inl same) rest = subst (λ u. need rules u s.fuel s.depth ≤ need_of s rules terms) same (need_among s rules terms i (All-head (λ i. i < length terms) i is all))
    by (inr more) rest = rest more

-- different trees of two lists
adds_one : (t : Tree) (ts : List Tree) → distinct (t ∷ ts) ≤ distinct ts + 1
adds_one t ts = by (among t ts)
  where
    by : (b : Bool) → (if b then distinct ts else distinct ts + 1) ≤ distinct ts + 1
    by true = omega arith
    by false = omega arith

distinct_parts : (xs ys : List Tree) → distinct (xs ++ ys) ≤ distinct xs + distinct ys
distinct_parts [] ys = omega arith
distinct_parts (x ∷ xs) ys = by (among x xs) refl (distinct_parts xs ys)
  where
    by : (b : Bool) → among x xs ≡ b → distinct (xs ++ ys) ≤ distinct xs + distinct ys → distinct (x ∷ xs ++ ys) ≤ (if b then distinct xs else distinct xs + 1) + distinct ys
    by true is rest =
        let same : distinct (x ∷ xs ++ ys) ≡ distinct (xs ++ ys) = ap (λ (b : Bool). if b then distinct (xs ++ ys) else distinct (xs ++ ys) + 1) (among_left x xs ys is) in
        omega (arith, same, rest)
    by false is rest = let one = adds_one x (xs ++ ys) in omega (arith, one, rest)

never_true : (b : Bool) → (b ≡ true → ⊥) → b ≡ false
never_true true f = absurd (f refl)
never_true false f = refl

one_more : (t : Tree) (ts : List Tree) → (Contains ts t → ⊥) → distinct (t ∷ ts) ≡ distinct ts + 1
one_more t ts absent = ap (λ (b : Bool). if b then distinct ts else distinct ts + 1) (never_true (among t ts) (λ e. absent (contains_from_among t ts e)))

-- the first n of these lists in one
abbrev together : ℕ → (ℕ → List Tree) → List Tree
together zero f = []
together (suc n) f = together n f ++ f n

together_few : (n most : ℕ) (f : ℕ → List Tree) → ((j : ℕ) → j < n → distinct (f j) ≤ most) → distinct (together n f) ≤ n * most
together_few zero most f each = omega arith
together_few (suc n) most f each =
    let rest = together_few n most f (λ j l. each j (omega (arith, l))) in
    let last = each n (omega arith) in
    let parts = distinct_parts (together n f) (f n) in
    let all : suc n * most ≡ n * most + most = grind arith in
    omega (arith, rest, last, parts, all)

in_together : (n : ℕ) (f : ℕ → List Tree) (j : ℕ) (t : Tree) → j < n → Contains (f j) t → Contains (together n f) t
in_together zero f j t l c = absurd (omega (arith, l))
in_together (suc n) f j t l c = dite (ℕ_discrete j n)
    (λ same. Contains-append_right (together n f) (f n) t (subst (λ i. Contains (f i) t) same c))
    (λ ne. Contains-append_left (together n f) (f n) t (in_together n f j t (omega (arith, l, ne)) c))

-- A crowd of trees below what n callers protect, where no other protects more than this, nor caller
-- k with one tree that isn't in the crowd.
module _ (n k most : ℕ) (within : k < n) (next : Tree) (crowd : List Tree) (held : ℕ → List Tree)
    (others : (j : ℕ) → j < n → j ≢ k → distinct (below (held j)) ≤ most) (own : distinct (next ∷ below (held k)) ≤ most)
    (inside : (t : Tree) → Contains crowd t → (j : ℕ) × (j < n) × Contains (below (held j)) t) (absent : Contains crowd next → ⊥) where
  abbrev part : ℕ → List Tree
  part j = if j == k then next ∷ below (held k) else below (held j)

  few : (j : ℕ) → j < n → distinct (part j) ≤ most
  few j l = by (j == k) refl
    where
      by : (b : Bool) → (j == k) ≡ b → distinct (if b then next ∷ below (held k) else below (held j)) ≤ most
      by true is = own
      by false is = others j l (eqb-false j k is)

  there : (t : Tree) (j : ℕ) → Contains (below (held j)) t → Contains (part j) t
  there t j c = by (j == k) refl
    where
      by : (b : Bool) → (j == k) ≡ b → Contains (if b then next ∷ below (held k) else below (held j)) t
      by true is = contains_there next (below (held k)) t (subst (λ i. Contains (below (held i)) t) (eqb-true j k is) c)
      by false is = c

  all : (t : Tree) → (next ≡ t) ⊎ Contains crowd t → Contains (together n part) t
  all t (inl same) =
      let here : Contains (part k) next = subst (λ (b : Bool). Contains (if b then next ∷ below (held k) else below (held k)) next) (sym (eq-eqb k k refl)) (contains_here next (below (held k))) in
      in_together n part k t within (subst (Contains (part k)) same here)
  all t (inr c) = let q = inside t c in in_together n part q.0 t q.1 (there t q.0 q.2)

  pub crowd_needs : distinct crowd < n * most
  crowd_needs =
      let one = one_more next crowd absent in
      let some = distinct_of_part (next ∷ crowd) (together n part) (λ t c. all t (contains_cases next crowd t c)) in
      let all_few = together_few n most part few in
      omega (arith, one, some, all_few)
