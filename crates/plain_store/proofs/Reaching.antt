-- Rows that can be reached from a row are those of its tree's subtrees.
use Rattle.std.proofs.Common.{◌≡◌, ℕ, suc, ◌<◌, inl, inr, Bool, true, false, List, [], ◌∷◌, ◌++◌, Option, Some, None, length, get_or, refl, ap, sym, ◌∙◌, subst, arith}
use Rattle.std.specs.Prelude.{Contains, IsSome, replicate, slice_get, if◌then◌else◌}
use Rattle.std.specs.Option.{option_map}
use Rattle.std.proofs.lemmas.Option.{slice_get-map, slice_get-get_or}
use Rattle.std.proofs.lemmas.Bool.{cases_lt}
use Rattle.std.proofs.lemmas.List.{length-map, get_or-map, get_or_past, get_or-replicate, length-replicate}
use Rattle.std.proofs.lemmas.List.Elements.{Contains-append_left, Contains-push, Contains-push_cases, Contains-get_or}
use Rattle.term_model.specs.declared.Row.{Row}
use Rattle.term_model.specs.declared.Head.{Head}
use Rattle.term_model.specs.Tree.{Tree, Leaf, Node, Trees, End, More, trees_of, subtrees, subtrees_all, arguments, among}
use Rattle.term_model.specs.Postorder.{tree_or_leaf}
use Rattle.term_model.proofs.Equality.{among_cases, among_from_contains, contains_from_among}
use Rattle.term_model.proofs.Subtrees.{among_either, itself as tree_itself, subtrees_nest, arguments_are_subtrees}
use Rattle.mark_phase.specs.Reachable.{Reaches, itself, child, IsMarked, AddsReached}
use Rattle.terms_api.specs.Terms.{HasTree, IsHeld, tree_at, trees, reachable, IsSound}
use Rattle.terms_api.proofs.Callers.{has-held, held-has, tree_at-has}
use Rattle.terms_api.proofs.Staying.{reached, reached_from}
use Rattle.plain_store.specs.Slots.{Slots, Slot, slot_at, children, arguments_of, kept_if, AreSwept}
use Rattle.plain_store.specs.Agreement.{Agree}
use Rattle.plain_store.specs.Marked.{MarksFrom}
use Rattle.plain_store.specs.Contents.{Contents, store_of, trees_on, tree_in, kept_among, kept_trees}
use Rattle.plain_store.proofs.Placing.{node_of, list_trees, no_some}
use Rattle.plain_store.proofs.Keeping.{kept_at, keeps, closed_reach}

-- over a child first
pub reach_through : (c : Row → List Row) (p a : Row) → Contains (c p) a → {q : Row} → Reaches c a q → Reaches c p q
reach_through c p a k itself = child itself k
reach_through c p a k (child {r = r} {q = q} s m) = child (reach_through c p a k s) m

node_cases : (slots : Slots) (c : Contents) (r : Row) → Agree slots c.trees → IsHeld (store_of c) r → (slot : Slot) → slot_at slots r ≡ slot → (h : Head) × (rows : List Row) × (slot_at slots r ≡ node_of h rows)
node_cases slots c r agree held None e = absurd (no_some (get_or c.trees r.0 None) held (agree.free r e))
node_cases slots c r agree held (Some node) e = (node.0, node.1, e)

-- a row that has a tree has a node
pub node_held : (slots : Slots) (c : Contents) (r : Row) → Agree slots c.trees → IsHeld (store_of c) r → (h : Head) × (rows : List Row) × (slot_at slots r ≡ node_of h rows)
node_held slots c r agree held = node_cases slots c r agree held (slot_at slots r) refl

contains_map : (c : Contents) (rows : List Row) (q : Row) → Contains rows q → Contains (trees_on c.trees rows) (tree_in c.trees q)
contains_map c rows q (k, lt, e) =
    let f = tree_in c.trees in
    (k, omega (arith, length-map rows f), get_or-map f rows k q (f q) lt ∙ ap f e)

node_arguments : (h : Head) (ts : List Tree) → arguments (Node h (trees_of ts)) ≡ ts
node_arguments h ts = list_trees ts

-- the arguments of a held row's tree are the trees of its rows
pub arguments_rows : (slots : Slots) (c : Contents) (r : Row) → Agree slots c.trees → IsHeld (store_of c) r → arguments (tree_at (store_of c) r) ≡ trees_on c.trees (children slots r)
arguments_rows slots c r agree held =
    let node = node_held slots c r agree held in
    let is : tree_at (store_of c) r ≡ Node node.0 (trees_of (trees_on c.trees node.1)) = tree_at-has (store_of c) r (Node node.0 (trees_of (trees_on c.trees node.1))) (agree.node r node.0 node.1 node.2) in
    ap arguments is ∙ node_arguments node.0 (trees_on c.trees node.1) ∙ ap (λ (x : Slot). trees_on c.trees (arguments_of x)) (sym node.2)

-- a child's tree is an argument
pub child_argument : (slots : Slots) (c : Contents) (r q : Row) → Agree slots c.trees → IsHeld (store_of c) r → Contains (children slots r) q → IsHeld (store_of c) q × Contains (arguments (tree_at (store_of c) r)) (tree_at (store_of c) q)
child_argument slots c r q agree held k =
    let node = node_held slots c r agree held in
    let here : Contains node.1 q = subst (λ (s : Slot). Contains (arguments_of s) q) node.2 k in
    let is : tree_at (store_of c) r ≡ Node node.0 (trees_of (trees_on c.trees node.1)) = tree_at-has (store_of c) r (Node node.0 (trees_of (trees_on c.trees node.1))) (agree.node r node.0 node.1 node.2) in (
      agree.held r node.0 node.1 node.2 q here,
      subst (λ (ts : List Tree). Contains ts (tree_at (store_of c) q)) (sym (ap arguments is ∙ node_arguments node.0 (trees_on c.trees node.1))) (contains_map c node.1 q here),
    )

-- what is reached from a held row is held, and its tree is a subtree
pub down : (slots : Slots) (c : Contents) (p : Row) → Agree slots c.trees → IsHeld (store_of c) p → {q : Row} → Reaches (children slots) p q → IsHeld (store_of c) q × Contains (subtrees (tree_at (store_of c) p)) (tree_at (store_of c) q)
down slots c p agree held itself =
    let t = tree_at (store_of c) p in (held, contains_from_among t (subtrees t) (tree_itself t))
down slots c p agree held (child {r = r} {q = q} s k) =
    let s' = store_of c in
    let above = down slots c p agree held s in
    let next = child_argument slots c r q agree above.0 k in
    (next.0, subtrees_nest (tree_at s' p) (tree_at s' r) (tree_at s' q) above.1 (arguments_are_subtrees (tree_at s' r) (tree_at s' q) next.1))

abbrev Below : Slots → Contents → Row → Tree → Type 0
Below slots c p u = (q : Row) × Reaches (children slots) p q × HasTree (store_of c) q u

args_same : (h g : Head) (ts us : Trees) → Some (Node h ts) ≡ Some (Node g us) → ts ≡ us
args_same h g ts us e = cc

more_first : (t u : Tree) (ts us : Trees) → More t ts ≡ More u us → t ≡ u
more_first t u ts us e = cc

more_rest : (t u : Tree) (ts us : Trees) → More t ts ≡ More u us → ts ≡ us
more_rest t u ts us e = cc

-- and each subtree has a row that is reached
mutual
  pub up : (slots : Slots) (c : Contents) → Agree slots c.trees → IsSound (store_of c) → (t : Tree) (p : Row) (u : Tree) → HasTree (store_of c) p t → among u (subtrees t) ≡ true → Below slots c p u
  up slots c agree sound (Leaf x) p u has k = absurd (let g = sound.ground p (Leaf x) has in cc)
  up slots c agree sound (Node h ts) p u has k =
      elim (among_cases u (Node h ts) (subtrees_all ts) k) [
        | inl e ↦ (p, itself, subst (HasTree (store_of c) p) (sym e) has)
        | inr k' ↦ (
            let node = node_held slots c p agree (held-has (store_of c) p (Node h ts) has) in
            let same : ts ≡ trees_of (trees_on c.trees node.1) = args_same h node.0 ts (trees_of (trees_on c.trees node.1)) (sym has ∙ agree.node p node.0 node.1 node.2) in
            let found = up_all slots c agree sound ts node.1 u same (λ a m. agree.held p node.0 node.1 node.2 a m) k' in
            let here : Contains (children slots p) found.0 = subst (λ (s : Slot). Contains (arguments_of s) found.0) (sym node.2) found.1 in
            (found.2.0, reach_through (children slots) p found.0 here found.2.1, found.2.2))
      ]

  pub up_all : (slots : Slots) (c : Contents) → Agree slots c.trees → IsSound (store_of c) → (ts : Trees) (rows : List Row) (u : Tree) → ts ≡ trees_of (trees_on c.trees rows) → ((a : Row) → Contains rows a → IsHeld (store_of c) a) → among u (subtrees_all ts) ≡ true → (a : Row) × Contains rows a × Below slots c a u
  up_all slots c agree sound End rows u e held k = absurd (cc)
  up_all slots c agree sound (More t ts) [] u e held k = absurd (cc)
  up_all slots c agree sound (More t ts) (a ∷ rows) u e held k =
      let first = more_first t (tree_in c.trees a) ts (trees_of (trees_on c.trees rows)) e in
      let rest = more_rest t (tree_in c.trees a) ts (trees_of (trees_on c.trees rows)) e in
      elim (among_either u (subtrees t) (subtrees_all ts) k) [
        | inl k' ↦ (
            let has : HasTree (store_of c) a t = has-held (store_of c) a (held a (0, omega arith, refl)) ∙ ap Some (sym first) in
            (a, (0, omega arith, refl), up slots c agree sound t a u has k'))
        | inr k' ↦ (
            let found = up_all slots c agree sound ts rows u rest (λ b m. held b (suc m.0, omega arith, m.2)) k' in
            (found.0, (suc found.1.0, omega arith, found.1.2), found.2))
      ]

stack_row : (c : Contents) (u : Tree) → IsSound (store_of c) → Contains (trees (store_of c)) u → (q : Row) × Contains c.stack q × HasTree (store_of c) q u
stack_row c u sound (k, lt, e) =
    let s = store_of c in
    let d : Row = record { 0 = 0 } in
    let r = get_or c.stack k d in
    let below : k < length c.stack = omega (arith, length-map c.stack (tree_at s)) in
    let held : IsHeld s r = sound.stack k d below in
    let is : tree_at s r ≡ u = sym (get_or-map (tree_at s) c.stack k d u below) ∙ e in
    (r, Contains-get_or c.stack k d below, subst (HasTree s r) is (has-held s r held))

-- a reachable tree has a row, which is reached from the stack
pub reach_row : (slots : Slots) (c : Contents) → Agree slots c.trees → IsSound (store_of c) → (t : Tree) → Contains (reachable (store_of c)) t → (p : Row) × Contains c.stack p × Below slots c p t
reach_row slots c agree sound t h =
    let s = store_of c in
    let from = reached_from s t h in
    let row = stack_row c from.0 sound from.1 in
    (row.0, row.1, up slots c agree sound from.0 row.0 t row.2 (among_from_contains t (subtrees from.0) from.2))

no_mark : (n : ℕ) (r : Row) → IsMarked (replicate n false) r → ⊥
no_mark n r k =
    elim (cases_lt r.0 n) [
      | inl lt ↦ (let f : false ≡ true = sym (get_or-replicate n r.0 false false lt) ∙ k in absurd (cc))
      | inr le ↦ (let f : false ≡ true = sym (get_or_past (replicate n false) r.0 false (omega (arith, length-replicate {A = Bool} n false))) ∙ k in absurd (cc))
    ]

pub marks_none : (c : Row → List Row) (n : ℕ) → MarksFrom c [] (replicate n false)
marks_none c n =
    record {
      reached = λ p r k. absurd (omega (arith, k.1));
      only = λ r k. absurd (no_mark n r k);
      closed = λ r q k. absurd (no_mark n r k);
    }

pub marks_more : (c : Row → List Row) (rows : List Row) (p : Row) (old new : List Bool) → MarksFrom c rows old → AddsReached c p old new → MarksFrom c (rows ++ p ∷ []) new
marks_more c rows p old new m adds =
    record {
      reached = λ q r k reaches. elim (Contains-push_cases rows p q k) [
        | inl k' ↦ adds.kept r (m.reached q r k' reaches)
        | inr e ↦ adds.reached r (subst (λ (x : Row). Reaches c x r) (sym e) reaches)
      ];
      only = λ r k. elim (adds.only r k) [
        | inl o ↦ (let x = m.only r o in (x.0, Contains-append_left rows (p ∷ []) x.0 x.1, x.2))
        | inr reaches ↦ (p, Contains-push rows p, reaches)
      ];
      closed = λ r q k a. elim (adds.only r k) [
        | inl o ↦ adds.kept q (m.closed r q o a)
        | inr reaches ↦ adds.reached q (child reaches a)
      ];
    }

trees_agree : (xs ys : List (Option Tree)) (rows : List Row) → ((q : Row) → Contains rows q → get_or xs q.0 None ≡ get_or ys q.0 None) → trees_on xs rows ≡ trees_on ys rows
trees_agree xs ys [] same = refl
trees_agree xs ys (q ∷ rows) same =
    ap (λ t. t ∷ trees_on xs rows) (ap tree_or_leaf (same q (0, omega arith, refl)))
    ∙ ap (λ ts. tree_in ys q ∷ ts) (trees_agree xs ys rows (λ x k. same x (suc k.0, omega arith, k.2)))

kept_node : (b : Bool) (slot : Slot) (h : Head) (rows : List Row) → kept_if b slot ≡ node_of h rows → (b ≡ true) × (slot ≡ node_of h rows)
kept_node true slot h rows e = (refl, e)
kept_node false slot h rows e = absurd (cc)

-- a marked row's tree can be reached from the stack
pub marked_reach : (slots : Slots) (c : Contents) (marks : List Bool) (r : Row) → Agree slots c.trees → IsSound (store_of c) → MarksFrom (children slots) c.stack marks → IsMarked marks r → Contains (reachable (store_of c)) (tree_at (store_of c) r)
marked_reach slots c marks r agree sound m k =
    let s = store_of c in
    let from = m.only r k in
    let held : IsHeld s from.0 = subst (IsHeld s) from.1.2 (sound.stack from.1.0 from.0 from.1.1) in
    let below = down slots c from.0 agree held from.2 in
    reached s (tree_at s from.0) (tree_at s r) (contains_map c c.stack from.0 from.1) below.1

-- a row whose tree can be reached is marked
pub reach_marked : (slots : Slots) (c : Contents) (marks : List Bool) (r : Row) (t : Tree) → Agree slots c.trees → IsSound (store_of c) → MarksFrom (children slots) c.stack marks → HasTree (store_of c) r t → Contains (reachable (store_of c)) t → IsMarked marks r
reach_marked slots c marks r t agree sound m has h =
    let row = reach_row slots c agree sound t h in
    let same : row.2.0 ≡ r = sound.one_row row.2.0 r t row.2.2 has in
    subst (IsMarked marks) same (m.reached row.0 row.2.0 row.1 row.2.1)

-- a child of a kept row keeps its tree
child_keeps : (slots : Slots) (c : Contents) (r q : Row) (h : Head) (rows : List Row) → Agree slots c.trees → slot_at slots r ≡ node_of h rows → Contains (reachable (store_of c)) (tree_at (store_of c) r) → Contains rows q → get_or (kept_trees c) q.0 None ≡ get_or c.trees q.0 None
child_keeps slots c r q h rows agree e reach k =
    let s = store_of c in
    let held = held-has s r (Node h (trees_of (trees_on c.trees rows))) (agree.node r h rows e) in
    let arg = child_argument slots c r q agree held (subst (λ (x : Slot). Contains (arguments_of x) q) (sym e) k) in
    let has = has-held s q arg.0 in
    keeps c c.raised q (tree_at s q) has (closed_reach s (tree_at s r) (tree_at s q) reach arg.1) ∙ sym has

free_after : (slots : Slots) (c : Contents) (marks : List Bool) (r : Row) → Agree slots c.trees → IsSound (store_of c) → MarksFrom (children slots) c.stack marks → (o : Option Tree) → get_or c.trees r.0 None ≡ o → (b : Bool) → get_or marks r.0 false ≡ b → kept_if b (slot_at slots r) ≡ None → (a : Bool) → among (tree_or_leaf o) (reachable (store_of c)) ≡ a → kept_among (reachable (store_of c)) o ≡ None
free_after slots c marks r agree sound m None e b f k a g = refl
free_after slots c marks r agree sound m (Some t) e true f k a g = absurd (let x : None ≡ Some t = sym (agree.free r k) ∙ e in cc)
free_after slots c marks r agree sound m (Some t) e false f k false g = ap (λ (x : Bool). if x then Some t else None) g
free_after slots c marks r agree sound m (Some t) e false f k true g =
    absurd (let x = sym f ∙ reach_marked slots c marks r t agree sound m e (contains_from_among t (reachable (store_of c)) g) in cc)

-- the swept rows agree with the trees that are kept
pub agree_collected : (slots swept : Slots) (c : Contents) (marks : List Bool) → Agree slots c.trees → IsSound (store_of c) → MarksFrom (children slots) c.stack marks → AreSwept marks slots swept → Agree swept (kept_trees c)
agree_collected slots swept c marks agree sound m are =
    let s = store_of c in
    record {
      size = are.size ∙ agree.size ∙ sym (length-map c.trees (kept_among (reachable s)));
      free = λ r e. kept_at c r ∙ free_after slots c marks r agree sound m (get_or c.trees r.0 None) refl (get_or marks r.0 false) refl (sym (are.slots r) ∙ e) (among (tree_or_leaf (get_or c.trees r.0 None)) (reachable s)) refl;
      node = λ r h rows e.
          (let was = kept_node (get_or marks r.0 false) (slot_at slots r) h rows (sym (are.slots r) ∙ e) in
          let has = agree.node r h rows was.1 in
          let reach = marked_reach slots c marks r agree sound m was.0 in
          let t = Node h (trees_of (trees_on c.trees rows)) in
          let there = subst (Contains (reachable s)) (tree_at-has s r t has) reach in
          keeps c c.raised r t has there
          ∙ ap (λ ts. Some (Node h (trees_of ts))) (sym (trees_agree (kept_trees c) c.trees rows (λ q k. child_keeps slots c r q h rows agree was.1 reach k))));
      held = λ r h rows e q k.
          (let was = kept_node (get_or marks r.0 false) (slot_at slots r) h rows (sym (are.slots r) ∙ e) in
          let reach = marked_reach slots c marks r agree sound m was.0 in
          subst IsSome (sym (child_keeps slots c r q h rows agree was.1 reach k)) (agree.held r h rows was.1 q k));
    }

-- a row's arguments, as a caller sees them
pub count_rows : (slots : Slots) (c : Contents) (r : Row) (rows : List Row) → Agree slots c.trees → IsHeld (store_of c) r → rows ≡ children slots r → length rows ≡ length (arguments (tree_at (store_of c) r))
count_rows slots c r rows agree held e =
    ap length e ∙ sym (ap length (arguments_rows slots c r agree held) ∙ length-map (children slots r) (tree_in c.trees))

pub row_held : (slots : Slots) (c : Contents) (r : Row) (rows : List Row) (j : ℕ) (d : Row) → Agree slots c.trees → IsHeld (store_of c) r → rows ≡ children slots r → j < length rows → IsHeld (store_of c) (get_or rows j d)
row_held slots c r rows j d agree held e lt =
    (child_argument slots c r (get_or rows j d) agree held (subst (λ (xs : List Row). Contains xs (get_or rows j d)) e (Contains-get_or rows j d lt))).0

pub row_tree : (slots : Slots) (c : Contents) (r : Row) (rows : List Row) (j : ℕ) (d : Row) → Agree slots c.trees → IsHeld (store_of c) r → rows ≡ children slots r → j < length rows → slice_get (arguments (tree_at (store_of c) r)) j ≡ Some (tree_at (store_of c) (get_or rows j d))
row_tree slots c r rows j d agree held e lt =
    let f = tree_in c.trees in
    ap (λ ts. slice_get ts j) (arguments_rows slots c r agree held ∙ ap (trees_on c.trees) (sym e))
    ∙ slice_get-map f rows j ∙ ap (option_map f) (slice_get-get_or rows j d lt)
