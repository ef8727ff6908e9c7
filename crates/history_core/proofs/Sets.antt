-- Pairs of a set, and what a set with more pairs keeps.
use Rattle.std.proofs.Common.{◌≡◌, ℕ, Bool, true, false, Option, Some, None, List, [], ◌∷◌, cond, refl, sym, ap, ◌∙◌}
use Rattle.std.specs.Prelude.{◌==◌, unwrap_or}
use Rattle.std.specs.List.{AllByRecursion}
use Rattle.std.proofs.Math.Path.{fun_ext}
use Rattle.std.proofs.lemmas.Bool.{cond-true, cond-false, cond_both, eq-eqb, ne_eqb, eqb-true, eqb-false}
use Rattle.term_model.specs.Tree.{Tree, Leaf, Node, More, may_stand_over}
use Rattle.term_model.specs.declared.Head.{Head}
use Rattle.history_core.specs.TermSet.{Names, Holds, IsHeld, IsFree, Lacks, tree_at, trees_at, tree_over, MayCreate, with_pair}

pub pair_same : (h : Names) (n : ℕ) (t : Tree) → with_pair h n t n ≡ Some t
pair_same h n t = cond-true (n == n) (Some t) (h n) (eq-eqb n n refl)

pub pair_other : (h : Names) (n : ℕ) (t : Tree) (m : ℕ) → (m ≡ n → ⊥) → with_pair h n t m ≡ h m
pair_other h n t m ne = cond-false (m == n) (Some t) (h m) (ne_eqb m n ne)

pub pair_cases : (P : Option Tree → Type 0) (h : Names) (n : ℕ) (t : Tree) (m : ℕ) → (m ≡ n → P (Some t)) → ((m ≡ n → ⊥) → P (h m)) → P (with_pair h n t m)
pair_cases P h n t m same other = cond_both (m == n) (Some t) (h m) P (λ e. same (eqb-true m n e)) (λ e. other (eqb-false m n e))

either_first : (a b : Bool) (x y z : Option Tree) → (a ≡ true → b ≡ true → ⊥) → cond a x (cond b y z) ≡ cond b y (cond a x z)
either_first true true x y z h = absurd (h refl refl)
either_first true false x y z h = refl
either_first false b x y z h = refl

-- pairs of different names may be added in either order
pub pairs_commute : (h : Names) (n : ℕ) (t : Tree) (m : ℕ) (u : Tree) → (m ≡ n → ⊥) → with_pair (with_pair h n t) m u ≡ with_pair (with_pair h m u) n t
pairs_commute h n t m u ne =
    fun_ext (λ k. either_first (k == m) (k == n) (Some u) (Some t) (h k) (λ a b. ne (sym (eqb-true k m a) ∙ eqb-true k n b)))

-- each pair of h is one of k
pub record Grows (h k : Names) : Type 0 where
  pub each : (n : ℕ) (t : Tree) → Holds h n t → Holds k n t

pub grows_none : (h : Names) → Grows h h
grows_none h = record { each = λ _ _ e. e }

pub grows_on : {h k l : Names} → Grows h k → Grows k l → Grows h l
grows_on f g = record { each = λ n t e. g.each n t (f.each n t e) }

pub grows_pair : (h : Names) (n : ℕ) (t : Tree) → IsFree h n → Grows h (with_pair h n t)
grows_pair h n t free = record { each = λ m u e. pair_other h n t m (λ same. let here : h n ≡ Some u = ap h (sym same) ∙ e in cc) ∙ e }

pub free_before : {h k : Names} → Grows h k → (n : ℕ) → IsFree k n → IsFree h n
free_before {h} {k} g n free = go (h n) refl
  where
    go : (o : Option Tree) → h n ≡ o → o ≡ None
    go None e = refl
    go (Some t) e = let there : k n ≡ Some t = g.each n t e in cc

pub lacks_before : {h k : Names} → Grows h k → (t : Tree) → Lacks k t → Lacks h t
lacks_before g t lacks = λ n e. lacks n (g.each n t e)

pub held_grow : {h k : Names} → Grows h k → (ns : List ℕ) → AllByRecursion (IsHeld h) ns → AllByRecursion (IsHeld k) ns
held_grow g [] a = a
held_grow g (n ∷ ns) a = ((a.0.0, g.each n a.0.0 a.0.1), held_grow g ns a.1)

pub trees_grow : {h k : Names} → Grows h k → (ns : List ℕ) → AllByRecursion (IsHeld h) ns → trees_at k ns ≡ trees_at h ns
trees_grow g [] a = refl
trees_grow {h} {k} g (n ∷ ns) a =
    let same : k n ≡ h n = g.each n a.0.0 a.0.1 ∙ sym a.0.1 in
    ap (λ o. More (unwrap_or o (Leaf 0)) (trees_at k ns)) same ∙ ap (More (tree_at h n)) (trees_grow g ns a.1)

pub tree_grows : {h k : Names} → Grows h k → (head : Head) (ns : List ℕ) → MayCreate h head ns → tree_over k head ns ≡ tree_over h head ns
tree_grows g head ns may = ap (Node head) (trees_grow g ns may.names)

pub may_create_grows : {h k : Names} → Grows h k → (head : Head) (ns : List ℕ) → MayCreate h head ns → MayCreate k head ns
may_create_grows g head ns may = record {
  names = held_grow g ns may.names;
  formed = ap (may_stand_over head) (trees_grow g ns may.names) ∙ may.formed;
}
