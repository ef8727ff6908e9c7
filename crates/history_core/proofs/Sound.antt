-- The set that a legal history leaves has pairs of different names and trees, with all their
-- subtrees.
use Rattle.std.proofs.Common.{◌≡◌, ℕ, ◌<◌, Bool, true, false, Option, Some, None, List, [], ◌∷◌, refl, sym, ap, ◌∙◌, subst, ◌⊎◌, inl, inr}
use Rattle.std.specs.Prelude.{Contains, if◌then◌else◌, ◌==◌, unwrap_or}
use Rattle.std.specs.List.{AllByRecursion}
use Rattle.std.proofs.lemmas.Bool.{cond-true, eq-eqb, eqb-true, and_from}
use Rattle.term_model.specs.Tree.{Tree, Leaf, Node, list_of, arguments, all_well_formed, all_ground, IsWellFormed, IsGround}
use Rattle.term_model.specs.Laws.{IsSubtree}
use Rattle.term_model.specs.declared.Head.{Head}
use Rattle.term_model.proofs.Subtrees.{subtrees_nest, arguments_are_subtrees}
use Rattle.history_core.specs.TermSet.{Names, TermSet, empty, Holds, IsHeld, IsFree, Lacks, tree_at, trees_at, tree_over, MayCreate, with_pair, with_roots, with_only, is_one_of, IsReached, IsSound}
use Rattle.history_core.specs.Entry.{Entry, Make, Find, Roots, Collect, IsStep, after}
use Rattle.history_core.specs.Chronicle.{History, Legal, left_by}
use Rattle.history_core.proofs.Members.{contains_here, contains_there, contains_none, contains_cases, each_at}
use Rattle.history_core.proofs.Sets.{grows_pair, pair_cases}

-- some name is held with the tree
abbrev pub Has : Names → Tree → Type 0
Has h t = (m : ℕ) × Holds h m t

-- the trees of held names are held
trees_are_held : (h : Names) (ns : List ℕ) → AllByRecursion (IsHeld h) ns → (u : Tree) → Contains (list_of (trees_at h ns)) u → Has h u
trees_are_held h [] a u c = absurd (contains_none u c)
trees_are_held h (n ∷ ns) a u c = go (contains_cases (tree_at h n) (list_of (trees_at h ns)) u c) (trees_are_held h ns a.1 u)
  where
    go : (tree_at h n ≡ u) ⊎ Contains (list_of (trees_at h ns)) u → (Contains (list_of (trees_at h ns)) u → Has h u) → Has h u
    go (inl same) rest = (n, a.0.1 ∙ ap Some (sym (ap (λ (o : Option Tree). unwrap_or o (Leaf 0)) a.0.1) ∙ same))
    go (inr d) rest = rest d

all_formed : (h : Names) (ns : List ℕ) → AllByRecursion (IsHeld h) ns → ((n : ℕ) (t : Tree) → Holds h n t → IsWellFormed t) → all_well_formed (trees_at h ns) ≡ true
all_formed h [] a f = refl
all_formed h (n ∷ ns) a f = and_from _ _ (f n (tree_at h n) (a.0.1 ∙ ap Some (sym (ap (λ (o : Option Tree). unwrap_or o (Leaf 0)) a.0.1)))) (all_formed h ns a.1 f)

all_without_variables : (h : Names) (ns : List ℕ) → AllByRecursion (IsHeld h) ns → ((n : ℕ) (t : Tree) → Holds h n t → IsGround t) → all_ground (trees_at h ns) ≡ true
all_without_variables h [] a f = refl
all_without_variables h (n ∷ ns) a f = and_from _ _ (f n (tree_at h n) (a.0.1 ∙ ap Some (sym (ap (λ (o : Option Tree). unwrap_or o (Leaf 0)) a.0.1)))) (all_without_variables h ns a.1 f)

pub some_same : (t u : Tree) → Some t ≡ Some u → t ≡ u
some_same t u e = cc

-- a new pair is one of the old ones or the one added
pub pair_split : (h : Names) (n : ℕ) (t : Tree) (m : ℕ) (u : Tree) → Holds (with_pair h n t) m u → ((m ≡ n) × (t ≡ u)) ⊎ Holds h m u
pair_split h n t m u e = pair_cases (λ o. o ≡ Some u → ((m ≡ n) × (t ≡ u)) ⊎ Holds h m u) h n t m (λ same k. inl (same, some_same t u k)) (λ _ k. inr k) e

pair_sound : (rows : ℕ) (s : TermSet) (head : Head) (args : List ℕ) (row : ℕ) → IsSound rows s → MayCreate s.held head args → row < rows → IsFree s.held row
    → Lacks s.held (tree_over s.held head args) → IsSound rows (record { held = with_pair s.held row (tree_over s.held head args); roots = s.roots })
pair_sound rows s head args row k may less free lacks = record {
  below = λ n t e. on_split n t (n < rows) e (λ same _. subst (λ (m : ℕ). m < rows) (sym same) less) (λ old. k.below n t old);
  one_name = λ n m t e f. on_split n t (n ≡ m) e
      (λ same is. on_split m t (n ≡ m) f (λ too _. same ∙ sym too) (λ old. absurd (lacks m (old ∙ ap Some (sym is)))))
      (λ old. on_split m t (n ≡ m) f (λ too is. absurd (lacks n (old ∙ ap Some (sym is)))) (λ older. k.one_name n m t old older));
  closed = λ n t u e c. on_split n t (Has new u) e
      (λ _ is. grown u (trees_are_held s.held args may.names u (subst (λ v. Contains (arguments v) u) (sym is) c)))
      (λ old. grown u (k.closed n t u old c));
  formed = λ n t e. on_split n t (IsWellFormed t) e (λ _ is. subst IsWellFormed is (and_from _ _ may.formed (all_formed s.held args may.names k.formed))) (λ old. k.formed n t old);
  ground = λ n t e. on_split n t (IsGround t) e (λ _ is. subst IsGround is (all_without_variables s.held args may.names k.ground)) (λ old. k.ground n t old);
  rooted = λ caller n c. let was = k.rooted caller n c in (was.0, (grows_pair s.held row tree free).each n was.0 was.1);
}
  where
    tree : Tree
    tree = tree_over s.held head args

    new : Names
    new = with_pair s.held row tree

    grown : (u : Tree) → Has s.held u → Has new u
    grown u was = (was.0, (grows_pair s.held row tree free).each was.0 u was.1)

    on_split : (n : ℕ) (t : Tree) (P : Type 0) → Holds new n t → (n ≡ row → tree ≡ t → P) → (Holds s.held n t → P) → P
    on_split n t P e f g = elim (pair_split s.held row tree n t e) [ inl both ↦ f both.0 both.1 | inr old ↦ g old ]

pub one_of : (names : List ℕ) (n : ℕ) → Contains names n → is_one_of names n ≡ true
one_of [] n c = absurd (contains_none n c)
one_of (m ∷ ms) n c = go (n == m) refl (contains_cases m ms n c) (one_of ms n)
  where
    go : (b : Bool) → (n == m) ≡ b → (m ≡ n) ⊎ Contains ms n → (Contains ms n → is_one_of ms n ≡ true) → (if b then true else is_one_of ms n) ≡ true
    go true e k rest = refl
    go false e (inl same) rest = let yes : (n == m) ≡ true = eq-eqb n m (sym same) in cc
    go false e (inr d) rest = rest d

pub of_one : (names : List ℕ) (n : ℕ) → is_one_of names n ≡ true → Contains names n
of_one [] n h = cc
of_one (m ∷ ms) n h = go (n == m) refl h (of_one ms n)
  where
    go : (b : Bool) → (n == m) ≡ b → (if b then true else is_one_of ms n) ≡ true → (is_one_of ms n ≡ true → Contains ms n) → Contains (m ∷ ms) n
    go true e k rest = subst (Contains (m ∷ ms)) (sym (eqb-true n m e)) (contains_here m ms)
    go false e k rest = contains_there m ms n (rest k)

pub only_holds : (h : Names) (kept : List ℕ) (n : ℕ) → Contains kept n → with_only h kept n ≡ h n
only_holds h kept n c = cond-true (is_one_of kept n) (h n) None (one_of kept n c)

pub only_split : (h : Names) (kept : List ℕ) (n : ℕ) (t : Tree) → Holds (with_only h kept) n t → Holds h n t × Contains kept n
only_split h kept n t e = go (is_one_of kept n) refl e
  where
    go : (b : Bool) → is_one_of kept n ≡ b → (if b then h n else None) ≡ Some t → Holds h n t × Contains kept n
    go true is k = (k, of_one kept n is)
    go false is k = cc

pub itself : (t : Tree) → IsSubtree t t
itself (Leaf x) = contains_here (Leaf x) []
itself (Node head ts) = contains_here (Node head ts) _

only_sound : (rows : ℕ) (s : TermSet) (number : ℕ) (kept : List ℕ) → IsSound rows s → IsStep rows s (Collect number kept)
    → IsSound rows (record { held = with_only s.held kept; roots = s.roots })
only_sound rows s number kept k step = record {
  below = λ n t e. k.below n t (only_split s.held kept n t e).0;
  one_name = λ n m t e f. k.one_name n m t (only_split s.held kept n t e).0 (only_split s.held kept m t f).0;
  closed = λ n t u e c. closed n t u (only_split s.held kept n t e) c;
  formed = λ n t e. k.formed n t (only_split s.held kept n t e).0;
  ground = λ n t e. k.ground n t (only_split s.held kept n t e).0;
  rooted = λ caller n c. let was = k.rooted caller n c in
      stays n was.0 was.1 record { caller = caller; root = n; below = was.0; above = was.0; rooted = c; root_tree = was.1; tree = was.1; inside = itself was.0 };
}
  where
    stays : (n : ℕ) (t : Tree) → Holds s.held n t → IsReached s n → IsHeld (with_only s.held kept) n
    stays n t e r = (t, only_holds s.held kept n ((step.1 n).1 r) ∙ e)

    closed : (n : ℕ) (t u : Tree) → Holds s.held n t × Contains kept n → Contains (arguments t) u → Has (with_only s.held kept) u
    closed n t u e c =
        let r : IsReached s n = (step.1 n).0 e.1 in
        let same : r.below ≡ t = some_same r.below t (sym r.tree ∙ e.0) in
        let m = k.closed n t u e.0 c in
        let deep : IsSubtree u r.above = subtrees_nest r.above r.below u r.inside (arguments_are_subtrees r.below u (subst (λ v. Contains (arguments v) u) (sym same) c)) in (
          m.0,
          only_holds s.held kept m.0 ((step.1 m.0).1 record {
            caller = r.caller;
            root = r.root;
            below = u;
            above = r.above;
            rooted = r.rooted;
            root_tree = r.root_tree;
            tree = m.1;
            inside = deep;
          }) ∙ m.1,
        )

roots_sound : (rows : ℕ) (s : TermSet) (caller : ℕ) (names : List ℕ) → IsSound rows s → AllByRecursion (IsHeld s.held) names
    → IsSound rows (record { held = s.held; roots = with_roots s.roots caller names })
roots_sound rows s caller names k held = record {
  below = k.below;
  one_name = k.one_name;
  closed = k.closed;
  formed = k.formed;
  ground = k.ground;
  rooted = λ other n c. go other n (other == caller) c;
}
  where
    go : (other n : ℕ) (b : Bool) → Contains (if b then names else s.roots other) n → IsHeld s.held n
    go other n true c = each_at (IsHeld s.held) names n held c
    go other n false c = k.rooted other n c

pub step_sound : (rows : ℕ) (s : TermSet) (caller : ℕ) (e : Entry) → IsSound rows s → IsStep rows s e → IsSound rows (after s caller e)
step_sound rows s caller (Make number head args row) k step = pair_sound rows s head args row k step.0 step.1 step.2 step.3
step_sound rows s caller (Find seen head args row) k step = k
step_sound rows s caller (Roots seen names) k step = roots_sound rows s caller names k step
step_sound rows s caller (Collect number kept) k step = only_sound rows s number kept k step

history_sound : (rows : ℕ) (s : TermSet) (l : History) → IsSound rows s → Legal rows s l → IsSound rows (left_by s l)
history_sound rows s [] k legal = k
history_sound rows s (y ∷ l) k legal = history_sound rows (after s y.0 y.1) l (step_sound rows s y.0 y.1 k legal.0) legal.1

pub empty_sound : (rows : ℕ) → IsSound rows empty
empty_sound rows = record {
  below = λ n t e. cc;
  one_name = λ n m t e f. cc;
  closed = λ n t u e c. cc;
  formed = λ n t e. cc;
  ground = λ n t e. cc;
  rooted = λ caller n c. absurd (contains_none n c);
}

pub legal_is_sound : (rows : ℕ) (l : History) → Legal rows empty l → IsSound rows (left_by empty l)
legal_is_sound rows l legal = history_sound rows empty l (empty_sound rows) legal
