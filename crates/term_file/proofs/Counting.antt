-- Right contents have as many records as their terms have different subtrees.
use Rattle.std.proofs.Common.{◌≡◌, ℕ, zero, suc, ◌+◌, ◌<◌, ◌≤◌, true, ltb, List, [], ◌∷◌, ◌++◌, length, slice_get, get_or, Some, refl, sym, ap, subst, ◌∙◌, arith, inl, inr, ◌⊎◌}
use Rattle.std.specs.Prelude.{map, unwrap_or, Contains}
use Rattle.std.specs.List.{flat_map, AllByRecursion, list_all}
use Rattle.std.specs.Cmp.{first_so, second_so}
use Rattle.std.proofs.lemmas.Bool.{ltb-true, cases_lt}
use Rattle.std.proofs.lemmas.Option.{slice_get-get_or}
use Rattle.symbol_pool.proofs.Pools.{stands}
use Rattle.term_model.specs.Tree.{Tree, Leaf, Node, trees_of, list_of, arguments, subtrees, among}
use Rattle.term_model.specs.Laws.{IsSubtree, IsClosed, IsWithoutRepetition}
use Rattle.term_model.proofs.Equality.{among_here, among_there, among_cases, contains_from_among, among_from_contains}
use Rattle.term_model.proofs.Subtrees.{among_left, among_right, among_either, trees_are_subtrees, subtrees_nest, arguments_are_subtrees, closed_holds_subtrees}
use Rattle.term_model.proofs.Members.{distinct_of_part, distinct_without_repetition}
use Rattle.term_file.specs.Contents.{Record, Contents, trees, tree_at, tree_over, terms}
use Rattle.term_file.specs.InOrder.{came_after, visits, visits_at, walk}
use Rattle.term_file.specs.Sharing.{IsGrown, different}
use Rattle.term_file.proofs.Facts.{facts_at, one_record}
use Rattle.term_file.proofs.Tables.{length-table_of}
use Rattle.term_file.proofs.Equations.{tree_of_record, visits_of_record}
use Rattle.term_file.proofs.Zips.{came_cases}

-- ---- subtrees of some trees

pub among_flat : (x t : Tree) (ts : List Tree) → among t ts ≡ true → among x (subtrees t) ≡ true → among x (flat_map subtrees ts) ≡ true
among_flat x t [] a h = absurd cc
among_flat x t (u ∷ us) a h =
    elim (among_cases t u us a) [
      | inl e ↦ among_left x (subtrees u) (flat_map subtrees us) (ap (λ v. among x (subtrees v)) (sym e) ∙ h)
      | inr i ↦ among_right x (subtrees u) (flat_map subtrees us) (among_flat x t us i h)
    ]

-- one of the trees has it
pub record Under (x : Tree) (ts : List Tree) : Type 0 where
  pub top : Tree
  pub is_there : among top ts ≡ true
  pub below : among x (subtrees top) ≡ true

pub under : (x : Tree) (ts : List Tree) → among x (flat_map subtrees ts) ≡ true → Under x ts
under x [] h = absurd cc
under x (t ∷ ts) h =
    elim (among_either x (subtrees t) (flat_map subtrees ts) h) [
      | inl l ↦ record { top = t; is_there = among_here t t ts refl; below = l }
      | inr r ↦ (let u = under x ts r in record { top = u.top; is_there = among_there u.top t ts u.is_there; below = u.below })
    ]

-- ---- numbers of a list

abbrev pub In : ℕ → List ℕ → Type 0
In k [] = ⊥
In k (n ∷ ns) = (k ≡ n) ⊎ In k ns

in_append : (k : ℕ) (xs ys : List ℕ) → In k (xs ++ ys) → In k xs ⊎ In k ys
in_append k [] ys h = inr h
in_append k (x ∷ xs) ys (inl e) = inl (inl e)
in_append k (x ∷ xs) ys (inr h) = elim (in_append k xs ys h) [ inl l ↦ inl (inr l) | inr r ↦ inr r ]

-- one of the lists has it
record InOne (f : ℕ → List ℕ) (k : ℕ) (js : List ℕ) : Type 0 where
  number : ℕ
  is_there : In number js
  within : In k (f number)

in_flat : (f : ℕ → List ℕ) (k : ℕ) (js : List ℕ) → In k (flat_map f js) → InOne f k js
in_flat f k [] h = absurd h
in_flat f k (j ∷ js) h = by (in_append k (f j) (flat_map f js) h) (in_flat f k js)
  where
    by : In k (f j) ⊎ In k (flat_map f js) → (In k (flat_map f js) → InOne f k js) → InOne f k (j ∷ js)
    by (inl l) rest = record { number = j; is_there = inl refl; within = l }
    by (inr r) rest = let i = rest r in record { number = i.number; is_there = inr i.is_there; within = i.within }

pub in_all : (P : ℕ → Type 0) (k : ℕ) (js : List ℕ) → AllByRecursion P js → In k js → P k
in_all P k [] all h = absurd h
in_all P k (j ∷ js) all (inl e) = subst P (sym e) all.0
in_all P k (j ∷ js) all (inr h) = in_all P k js all.1 h

among_map : (f : ℕ → Tree) (k : ℕ) (js : List ℕ) → In k js → among (f k) (map f js) ≡ true
among_map f k [] h = absurd h
among_map f k (j ∷ js) (inl e) = among_here (f k) (f j) (map f js) (ap f e)
among_map f k (j ∷ js) (inr h) = among_there (f k) (f j) (map f js) (among_map f k js h)

-- a tree of a list that numbers give
pub record Numbered (f : ℕ → Tree) (t : Tree) (js : List ℕ) : Type 0 where
  pub number : ℕ
  pub is_there : In number js
  pub is : t ≡ f number

pub map_among : (f : ℕ → Tree) (t : Tree) (js : List ℕ) → among t (map f js) ≡ true → Numbered f t js
map_among f t [] h = absurd cc
map_among f t (j ∷ js) h = by (among_cases t (f j) (map f js) h) (map_among f t js)
  where
    by : (t ≡ f j) ⊎ (among t (map f js) ≡ true) → (among t (map f js) ≡ true → Numbered f t js) → Numbered f t (j ∷ js)
    by (inl e) rest = record { number = j; is_there = inl refl; is = e }
    by (inr i) rest = let n = rest i in record { number = n.number; is_there = inr n.is_there; is = n.is }

-- where numbers come in order, all that have come are among them
next_or_later : (a b : ℕ) → a ≤ b → (b ≡ a) ⊎ (a + 1 ≤ b)
next_or_later a b le = elim (cases_lt a b) [ inl l ↦ inr (omega arith) | inr g ↦ inl (omega arith) ]

come_by : (n : ℕ) (ns : List ℕ) (came then k : ℕ) → came ≤ k → ((c : ℕ) → came_after c ns ≡ Some then → c ≤ k → In k ns) → ((n < came) × (came_after came ns ≡ Some then)) ⊎ ((n ≡ came) × (came_after (came + 1) ns ≡ Some then)) → In k (n ∷ ns)
come_by n ns came then k low rest (inl a) = inr (rest came a.1 low)
come_by n ns came then k low rest (inr b) = elim (next_or_later came k low) [ inl here ↦ inl (here ∙ sym b.0) | inr more ↦ inr (rest (came + 1) b.1 more) ]

all_come : (ns : List ℕ) (came then k : ℕ) → came_after came ns ≡ Some then → came ≤ k → k < then → In k ns
all_come [] came then k e low lt = let same : came ≡ then = cc in absurd (omega arith)
all_come (n ∷ ns) came then k e low lt = come_by n ns came then k low (λ c f l. all_come ns c then k f l lt) (came_cases came n ns then e)

-- ---- trees as lists

list_of-trees_of : (ts : List Tree) → list_of (trees_of ts) ≡ ts
list_of-trees_of [] = refl
list_of-trees_of (t ∷ ts) = ap (λ us. t ∷ us) (list_of-trees_of ts)

tree_at-get_or : (ts : List Tree) (i : ℕ) (d : Tree) → i < length ts → tree_at ts i ≡ get_or ts i d
tree_at-get_or ts i d lt = ap (λ o. unwrap_or o (Leaf 0)) (slice_get-get_or ts i d lt)

module _ (c : Contents) (g : IsGrown c) where
  abbrev T : ℕ → Tree
  T = tree_at (trees c.records)

  abbrev V : ℕ → List ℕ
  V = visits_at (visits c.records)

  record At (i : ℕ) : Type 0 where
    this : Record
    at : slice_get c.records i ≡ Some this
    before : AllByRecursion (λ k. k < i) this.arguments
    tree : T i ≡ Node this.head (trees_of (map T this.arguments))
    visited : V i ≡ flat_map V this.arguments ++ i ∷ []

  at_number : (i : ℕ) → i < length c.records → At i
  at_number i lt =
      let s = stands c.records i lt in
      let facts = facts_at c.symbols c.records g.records_right i s.item s.at in
      record {
        this = s.item;
        at = s.at;
        before = facts.before;
        tree = tree_of_record c.records i s.item s.at facts.before;
        visited = visits_of_record c.records i s.item s.at facts.before;
      }

  -- ---- different records have different trees

  same_arguments : (i j : ℕ) (xs ys : List ℕ) → AllByRecursion (λ k. k < i) xs → AllByRecursion (λ k. k < j) ys → ((x y : ℕ) → x < i → y < j → T x ≡ T y → x ≡ y) → trees_of (map T xs) ≡ trees_of (map T ys) → xs ≡ ys
  same_arguments i j [] [] a b same e = refl
  same_arguments i j [] (y ∷ ys) a b same e = absurd cc
  same_arguments i j (x ∷ xs) [] a b same e = absurd cc
  same_arguments i j (x ∷ xs) (y ∷ ys) a b same e =
      let first : T x ≡ T y = cc in
      let others : trees_of (map T xs) ≡ trees_of (map T ys) = cc in
      let p = same x y a.0 b.0 first in
      let q = same_arguments i j xs ys a.1 b.1 same others in
      λ k. p k ∷ q k

  one_tree : (bound i j : ℕ) → i < bound → i < length c.records → j < length c.records → T i ≡ T j → i ≡ j
  one_tree zero i j lt a b e = absurd (omega arith)
  one_tree (suc bound) i j lt a b e =
      let p = at_number i a in
      let q = at_number j b in
      let whole : Node p.this.head (trees_of (map T p.this.arguments)) ≡ Node q.this.head (trees_of (map T q.this.arguments)) = sym p.tree ∙ e ∙ q.tree in
      let head : p.this.head ≡ q.this.head = cc in
      let args : trees_of (map T p.this.arguments) ≡ trees_of (map T q.this.arguments) = cc in
      let numbers : p.this.arguments ≡ q.this.arguments = same_arguments i j p.this.arguments q.this.arguments p.before q.before (λ x y l m s. one_tree bound x y (omega arith) (omega arith) (omega arith) s) args in
      let this : p.this ≡ q.this = λ k. record { head = head k; arguments = numbers k } in
      one_record c.symbols c.records g.records_right i j q.this (p.at ∙ ap Some this) q.at

  size : length (trees c.records) ≡ length c.records
  size = length-table_of tree_over c.records

  differ : IsWithoutRepetition (trees c.records)
  differ i j d lt room e =
      let same : T i ≡ T j = tree_at-get_or (trees c.records) i d (omega arith) ∙ e ∙ sym (tree_at-get_or (trees c.records) j d room) in
      let n = one_tree (suc i) i j (omega arith) (omega (arith, size)) (omega (arith, size)) same in
      omega (arith, n)

  -- ---- they are the subtrees of the terms

  holds : (k : ℕ) → k < length c.records → Contains (trees c.records) (T k)
  holds k lt =
      let room : k < length (trees c.records) = omega (arith, size) in
      (k, room, sym (tree_at-get_or (trees c.records) k (T k) room))

  number_of : (t : Tree) → Contains (trees c.records) t → (k : ℕ) × (k < length c.records) × (t ≡ T k)
  number_of t h = (h.0, omega (arith, size, h.1), sym h.2 ∙ sym (tree_at-get_or (trees c.records) h.0 t h.1))

  arguments_of : (k : ℕ) (a : At k) → arguments (T k) ≡ map T a.this.arguments
  arguments_of k a = ap arguments a.tree ∙ list_of-trees_of (map T a.this.arguments)

  closed : IsClosed (trees c.records)
  closed t u h arg =
      let k = number_of t h in
      let a = at_number k.0 k.1 in
      let there : among u (map T a.this.arguments) ≡ true = ap (among u) (sym (arguments_of k.0 a)) ∙ ap (λ v. among u (arguments v)) (sym k.2) ∙ among_from_contains u (arguments t) arg in
      let n = map_among T u a.this.arguments there in
      let below = in_all (λ j. j < k.0) n.number a.this.arguments a.before n.is_there in
      subst (Contains (trees c.records)) (sym n.is) (holds n.number (omega (arith, below, k.1)))

  rooted : (ks : List ℕ) → list_all (λ r. ltb r (length c.records)) ks ≡ true → AllByRecursion (λ r. r < length c.records) ks
  rooted [] h = tt
  rooted (k ∷ ks) h = (ltb-true _ _ (first_so (ltb k (length c.records)) _ h), rooted ks (second_so (ltb k (length c.records)) _ h))

  pub roots_there : AllByRecursion (λ r. r < length c.records) c.roots
  roots_there = rooted c.roots g.roots_right

  no_others : (x : Tree) → Contains (flat_map subtrees (terms c)) x → Contains (trees c.records) x
  no_others x h =
      let u = under x (terms c) (among_from_contains x (flat_map subtrees (terms c)) h) in
      let n = map_among T u.top c.roots u.is_there in
      let lt = in_all (λ r. r < length c.records) n.number c.roots roots_there n.is_there in
      let there : Contains (trees c.records) u.top = subst (Contains (trees c.records)) (sym n.is) (holds n.number lt) in
      closed_holds_subtrees (trees c.records) closed u.top x there (contains_from_among x (subtrees u.top) u.below)

  -- what a visit visits is below
  below_of : (i k : ℕ) (a : At i) → ((j : ℕ) → j < i → In k (V j) → IsSubtree (T k) (T j)) → In k (flat_map V a.this.arguments) ⊎ In k (i ∷ []) → IsSubtree (T k) (T i)
  below_of i k a each (inl front) =
      let o = in_flat V k a.this.arguments front in
      let lt = in_all (λ j. j < i) o.number a.this.arguments a.before o.is_there in
      let arg : among (T o.number) (arguments (T i)) ≡ true = ap (among (T o.number)) (arguments_of i a) ∙ among_map T o.number a.this.arguments o.is_there in
      subtrees_nest (T i) (T o.number) (T k) (arguments_are_subtrees (T i) (T o.number) (contains_from_among (T o.number) (arguments (T i)) arg)) (each o.number lt o.within)
  below_of i k a each (inr (inl e)) = subst (λ j. IsSubtree (T k) (T j)) e (trees_are_subtrees (T k))
  below_of i k a each (inr (inr no_more)) = absurd no_more

  visited_below : (bound i k : ℕ) → i < bound → i < length c.records → In k (V i) → IsSubtree (T k) (T i)
  visited_below zero i k lt room h = absurd (omega arith)
  visited_below (suc bound) i k lt room h =
      let a = at_number i room in
      let each : (j : ℕ) → j < i → In k (V j) → IsSubtree (T k) (T j) = λ j l m. visited_below bound j k (omega arith) (omega arith) m in
      below_of i k a each (in_append k (flat_map V a.this.arguments) (i ∷ []) (subst (In k) a.visited h))

  all_found : (t : Tree) → Contains (trees c.records) t → Contains (flat_map subtrees (terms c)) t
  all_found t h =
      let k = number_of t h in
      let o = in_flat V k.0 c.roots (all_come (walk c) 0 (length c.records) k.0 g.visits_in_order (omega arith) k.1) in
      let lt = in_all (λ r. r < length c.records) o.number c.roots roots_there o.is_there in
      let sub = visited_below (suc o.number) o.number k.0 (omega arith) lt o.within in
      let there = among_flat (T k.0) (T o.number) (terms c) (among_map T o.number c.roots o.is_there) (among_from_contains (T k.0) (subtrees (T o.number)) sub) in
      subst (Contains (flat_map subtrees (terms c))) (sym k.2) (contains_from_among (T k.0) (flat_map subtrees (terms c)) there)

  pub counted : different (terms c) ≡ length c.records
  counted =
      let a = distinct_of_part (flat_map subtrees (terms c)) (trees c.records) no_others in
      let b = distinct_of_part (trees c.records) (flat_map subtrees (terms c)) all_found in
      let d = distinct_without_repetition (trees c.records) differ in
      omega (arith, a, b, d, size)
