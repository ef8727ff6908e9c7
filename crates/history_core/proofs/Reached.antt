-- What is marked from the roots of a table is what is reached in the set.
use Rattle.std.proofs.Common.{◌≡◌, ℕ, ◌<◌, Bool, true, Option, Some, None, List, [], ◌∷◌, length, get_or, refl, sym, ap, ◌∙◌, subst, inl, inr}
use Rattle.std.specs.Prelude.{Contains, map}
use Rattle.std.specs.List.{AllByRecursion}
use Rattle.std.proofs.lemmas.Bool.{cases_lt}
use Rattle.std.proofs.lemmas.List.{get_or_past}
use Rattle.std.proofs.lemmas.List.Elements.{Contains-append_cases}
use Rattle.term_model.specs.Tree.{Tree, Leaf, Node, Trees, End, More, list_of, arguments, subtrees, subtrees_all}
use Rattle.term_model.specs.Laws.{IsSubtree}
use Rattle.term_model.specs.declared.Row.{Row}
use Rattle.term_model.specs.declared.Head.{Head}
use Rattle.term_model.proofs.Subtrees.{subtrees_nest, arguments_are_subtrees}
use Rattle.mark_phase.specs.Reachable.{Reaches, itself, child}
use Rattle.history_core.specs.TermSet.{Names, TermSet, Holds, IsHeld, tree_at, trees_at, tree_over, IsReached}
use Rattle.history_core.specs.declared.slots.Term.{Term}
use Rattle.history_core.specs.Slots.{slot_at, args_of, row, children, head_of, is_marked}
use Rattle.history_core.specs.Table.{Table, Shows, MarksRoots}
use Rattle.history_core.proofs.Members.{contains_here, contains_there, contains_none, contains_cases, each_at}
use Rattle.history_core.proofs.Marked.{none_marked, row_in, in_row, in_joined, of_joined}
use Rattle.history_core.proofs.Showing.{held_tree, same_tree, no_tree, same_trees, more_first, more_rest}
use Rattle.history_core.proofs.Sound.{itself as subtree_itself}

-- over a child first
reach_through : (c : Row → List Row) (p a : Row) → Contains (c p) a → {q : Row} → Reaches c a q → Reaches c p q
reach_through c p a k itself = child itself k
reach_through c p a k (child {r = r} {q = q} s m) = child (reach_through c p a k s) m

in_trees : (h : Names) (ns : List ℕ) (n : ℕ) → Contains ns n → Contains (list_of (trees_at h ns)) (tree_at h n)
in_trees h [] n c = absurd (contains_none n c)
in_trees h (m ∷ ns) n c = elim (contains_cases m ns n c) [
  | inl same ↦ subst (λ (k : ℕ). Contains (list_of (trees_at h (m ∷ ns))) (tree_at h k)) same (contains_here (tree_at h m) (list_of (trees_at h ns)))
  | inr later ↦ contains_there (tree_at h m) (list_of (trees_at h ns)) (tree_at h n) (in_trees h ns n later)
]

module _ (t : Table) (s : TermSet) (sh : Shows t s) where
  -- an argument of a taken name is held, and its tree is an argument of the name's
  argument_of : (n m : ℕ) (o : Option Term) → slot_at t.slots n ≡ o → Contains (args_of o) m → IsHeld s.held m × Contains (arguments (tree_at s.held n)) (tree_at s.held m)
  argument_of n m None e c = absurd (contains_none m c)
  argument_of n m (Some x) e c =
      let term = sh.taken n x e in
      let tree = tree_over s.held (head_of x.root) x.args in
      let is : tree ≡ tree_at s.held n = same_tree (s.held n) tree (tree_at s.held n) term.tree (held_tree s.held n (tree, term.tree)) in
      (each_at (IsHeld s.held) x.args m term.args c, subst (λ (u : Tree). Contains (arguments u) (tree_at s.held m)) is (in_trees s.held x.args m c))

  down : (n : ℕ) → IsHeld s.held n → {r : Row} → Reaches (children t.slots) (row n) r → IsHeld s.held r.0 × IsSubtree (tree_at s.held r.0) (tree_at s.held n)
  down n at itself = (at, subtree_itself (tree_at s.held n))
  down n at (child {r = r} {q = q} reaches k) =
      let above = down n at reaches in
      let next = argument_of r.0 q.0 (slot_at t.slots r.0) refl (row_in (args_of (slot_at t.slots r.0)) q k) in
      (next.0, subtrees_nest (tree_at s.held n) (tree_at s.held r.0) (tree_at s.held q.0) above.1 (arguments_are_subtrees (tree_at s.held r.0) (tree_at s.held q.0) next.1))

  abbrev Below : ℕ → Tree → Type 0
  Below p u = (q : ℕ) × Reaches (children t.slots) (row p) (row q) × Holds s.held q u

  -- the term of a name with a tree
  term_at : (p : ℕ) (h : Head) (ts : Trees) → Holds s.held p (Node h ts)
      → (x : Term) × (slot_at t.slots p ≡ Some x) × (ts ≡ trees_at s.held x.args) × AllByRecursion (IsHeld s.held) x.args
  term_at p h ts at = go (slot_at t.slots p) refl
    where
      go : (o : Option Term) → slot_at t.slots p ≡ o → (x : Term) × (slot_at t.slots p ≡ Some x) × (ts ≡ trees_at s.held x.args) × AllByRecursion (IsHeld s.held) x.args
      go None e = absurd (no_tree (s.held p) (Node h ts) (sh.free p e) at)
      go (Some x) e =
          let term = sh.taken p x e in
          (x, e, same_trees h (head_of x.root) ts (trees_at s.held x.args) (same_tree (s.held p) (Node h ts) (tree_over s.held (head_of x.root) x.args) at term.tree), term.args)

  mutual
    up : (v : Tree) (p : ℕ) (u : Tree) → Holds s.held p v → IsSubtree u v → Below p u
    up (Leaf x) p u at c = elim (contains_cases (Leaf x) [] u c) [ inl same ↦ (p, itself, at ∙ ap Some same) | inr d ↦ absurd (contains_none u d) ]
    up (Node h ts) p u at c = elim (contains_cases (Node h ts) (subtrees_all ts) u c) [
      | inl same ↦ (p, itself, at ∙ ap Some same)
      | inr d ↦ (
          let x = term_at p h ts at in
          let found = up_all ts x.0.args u x.2 x.3 d in
          let here : Contains (children t.slots (row p)) (row found.0) = subst (λ (o : Option Term). Contains (map row (args_of o)) (row found.0)) (sym x.1) (in_row x.0.args found.0 found.1) in
          (found.2.0, reach_through (children t.slots) (row p) (row found.0) here found.2.1, found.2.2))
    ]

    up_all : (ts : Trees) (ns : List ℕ) (u : Tree) → ts ≡ trees_at s.held ns → AllByRecursion (IsHeld s.held) ns → Contains (subtrees_all ts) u → (a : ℕ) × Contains ns a × Below a u
    up_all End ns u e held c = absurd (contains_none u c)
    up_all (More v ts) [] u e held c = cc
    up_all (More v ts) (n ∷ ns) u e held c = elim (Contains-append_cases (subtrees v) (subtrees_all ts) u c) [
      | inl here ↦ (n, contains_here n ns, up v n u (held_tree s.held n held.0 ∙ ap Some (sym (more_first v (tree_at s.held n) ts (trees_at s.held ns) e))) here)
      | inr later ↦ (
          let found = up_all ts ns u (more_rest v (tree_at s.held n) ts (trees_at s.held ns) e) held.1 later in
          (found.0, contains_there n ns found.0 found.1, found.2))
    ]

  -- an argument of a reached name is reached
  pub argument_reached : (n : ℕ) (x : Term) (m : ℕ) → slot_at t.slots n ≡ Some x → Contains x.args m → IsReached s n → IsReached s m
  argument_reached n x m e k r =
      let next = argument_of n m (Some x) e k in
      let same : r.below ≡ tree_at s.held n = same_tree (s.held n) r.below (tree_at s.held n) r.tree (held_tree s.held n (r.below, r.tree)) in
      let inside = arguments_are_subtrees r.below (tree_at s.held m) (subst (λ (u : Tree). Contains (arguments u) (tree_at s.held m)) (sym same) next.1) in
      record {
        caller = r.caller;
        root = r.root;
        below = tree_at s.held m;
        above = r.above;
        rooted = r.rooted;
        root_tree = r.root_tree;
        tree = held_tree s.held m next.0;
        inside = subtrees_nest r.above r.below (tree_at s.held m) r.inside inside;
      }

  pub marked_is_reached : (marks : List Bool) → MarksRoots t marks → (n : ℕ) → is_marked marks n ≡ true → IsReached s n
  marked_is_reached marks from n on = elim (from.adds.only (row n) on) [
    | inl none ↦ absurd (none_marked (length t.slots) (row n) none)
    | inr root ↦ go root.0 (of_joined t.roots root.0 root.1) root.2
  ]
    where
      go : (p : ℕ) → (i : ℕ) × (i < length t.roots) × Contains (get_or t.roots i []) p → Reaches (children t.slots) (row p) (row n) → IsReached s n
      go p at reaches =
          let rooted : Contains (s.roots at.0) p = subst (λ (ns : List ℕ). Contains ns p) (sym (sh.roots at.0)) at.2 in
          let held = sh.sound.rooted at.0 p rooted in
          let below = down p held reaches in
          record {
            caller = at.0;
            root = p;
            below = tree_at s.held n;
            above = tree_at s.held p;
            rooted = rooted;
            root_tree = held_tree s.held p held;
            tree = held_tree s.held n below.0;
            inside = below.1;
          }

  pub reached_is_marked : (marks : List Bool) → MarksRoots t marks → (n : ℕ) → IsReached s n → is_marked marks n ≡ true
  reached_is_marked marks from n r = elim (cases_lt r.caller (length t.roots)) [
    | inl less ↦ (
        let found = up r.above r.root r.below r.root_tree r.inside in
        let same : found.0 ≡ n = sh.sound.one_name found.0 n r.below found.2 r.tree in
        from.adds.reached r.root (row n) (in_joined t.roots r.caller r.root less rooted) (subst (λ (k : ℕ). Reaches (children t.slots) (row r.root) (row k)) same found.1))
    | inr past ↦ absurd (contains_none r.root (subst (λ (ns : List ℕ). Contains ns r.root) (get_or_past t.roots r.caller [] past) rooted))
  ]
    where
      rooted : Contains (get_or t.roots r.caller []) r.root
      rooted = subst (λ (ns : List ℕ). Contains ns r.root) (sh.roots r.caller) r.rooted
