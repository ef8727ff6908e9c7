-- The entries after an inserted one are still steps.
use Rattle.std.proofs.Common.{◌≡◌, ◌⊎◌, inl, inr, ℕ, Bool, true, false, Some, None, List, [], ◌∷◌, cond, refl, sym, ap, ◌∙◌, subst}
use Rattle.std.specs.List.{AllByRecursion}
use Rattle.std.specs.Prelude.{Contains, ◌==◌}
use Rattle.std.proofs.Math.Path.{fun_ext}
use Rattle.std.proofs.lemmas.Bool.{eqb-true, cases_eq}
use Rattle.term_model.specs.Tree.{Tree}
use Rattle.history_core.specs.TermSet.{Names, RootNames, TermSet, Holds, IsFree, Lacks, tree_over, with_pair, with_roots}
use Rattle.history_core.specs.Entry.{Entry, Make, Find, Roots, Collect, is_collect, is_roots, IsStep, after}
use Rattle.history_core.specs.Chronicle.{History, Legal, left_by}
use Rattle.history_core.proofs.Sets.{Grows, grows_pair, free_before, held_grow, tree_grows, may_create_grows, pair_same, pair_other, pair_cases, pairs_commute}
use Rattle.history_core.proofs.Members.{contains_none, contains_cases}
use Rattle.history_core.proofs.Growing.{Adds, step_grows, history_grows}

-- the set with one pair more
abbrev pub paired : TermSet → ℕ → Tree → TermSet
paired s n t = record { held = with_pair s.held n t; roots = s.roots }

-- A step is still one with a pair more, whose name and tree are not there in the end, and the pair
-- may be added before or after it.
pub step_beside_pair : (rows : ℕ) (s : TermSet) (end : Names) (n : ℕ) (t : Tree) (caller : ℕ) (e : Entry) → IsStep rows s e → is_collect e ≡ false
    → Grows s.held (after s caller e).held → Grows (after s caller e).held end → IsFree end n → Lacks end t
    → IsStep rows (paired s n t) e × (after (paired s n t) caller e ≡ paired (after s caller e) n t)
step_beside_pair rows s end n t caller (Make number head args row) step kind now then_on free lacks =
    ((may_create_grows grows head args step.0, step.1, pair_other s.held n t row differs ∙ step.2, new), moved)
  where
    tree : Tree
    tree = tree_over s.held head args

    at_end : Holds end row tree
    at_end = then_on.each row tree (pair_same s.held row tree)

    before : IsFree s.held n
    before = free_before now n (free_before then_on n free)

    grows : Grows s.held (with_pair s.held n t)
    grows = grows_pair s.held n t before

    same : tree_over (with_pair s.held n t) head args ≡ tree
    same = tree_grows grows head args step.0

    differs : row ≡ n → ⊥
    differs e = let gone : end row ≡ None = ap end e ∙ free in cc at_end

    new : Lacks (with_pair s.held n t) (tree_over (with_pair s.held n t) head args)
    new m = subst (Lacks (with_pair s.held n t)) (sym same) (λ m. pair_cases (λ o. o ≡ Some tree → ⊥) s.held n t m
        (λ _ e. lacks row (at_end ∙ sym e))
        (λ _ e. step.3 m e)) m

    moved : after (paired s n t) caller (Make number head args row) ≡ paired (after s caller (Make number head args row)) n t
    moved = ap (λ (h : Names). record { held = h; roots = s.roots })
        (ap (with_pair (with_pair s.held n t) row) same ∙ pairs_commute s.held n t row tree differs)
step_beside_pair rows s end n t caller (Find seen head args row) step kind now then_on free lacks =
    ((may_create_grows grows head args step.0, grows.each row (tree_over s.held head args) step.1 ∙ ap Some (sym (tree_grows grows head args step.0))), refl)
  where
    grows : Grows s.held (with_pair s.held n t)
    grows = grows_pair s.held n t (free_before now n (free_before then_on n free))
step_beside_pair rows s end n t caller (Roots seen names) step kind now then_on free lacks =
    (held_grow (grows_pair s.held n t (free_before now n (free_before then_on n free))) names step, refl)
step_beside_pair rows s end n t caller (Collect number kept) step kind now then_on free lacks = cc

pub history_beside_pair : (rows : ℕ) (s : TermSet) (n : ℕ) (t : Tree) (l : History) → Legal rows s l → Adds l → IsFree (left_by s l).held n → Lacks (left_by s l).held t
    → Legal rows (paired s n t) l × (left_by (paired s n t) l ≡ paired (left_by s l) n t)
history_beside_pair rows s n t [] legal adds free lacks = (tt, refl)
history_beside_pair rows s n t (y ∷ l) legal adds free lacks =
    let next : TermSet = after s y.0 y.1 in
    let step = step_beside_pair rows s (left_by next l).held n t y.0 y.1 legal.0 adds.0
    (step_grows rows s y.0 y.1 legal.0 adds.0) (history_grows rows next l legal.1 adds.1) free lacks in
    let rest = history_beside_pair rows next n t l legal.1 adds.1 free lacks in
    ((step.0, subst (λ z. Legal rows z l) (sym step.1) rest.0), ap (λ z. left_by z l) step.1 ∙ rest.1)

-- the set with other roots
abbrev pub rooted : TermSet → RootNames → TermSet
rooted s r = record { held = s.held; roots = r }

-- Roots have no say in steps that are no Collect.
pub step_with_roots : (rows : ℕ) (s : TermSet) (r : RootNames) (e : Entry) → IsStep rows s e → is_collect e ≡ false → IsStep rows (rooted s r) e
step_with_roots rows s r (Make number head args row) step kind = step
step_with_roots rows s r (Find seen head args row) step kind = step
step_with_roots rows s r (Roots seen names) step kind = step
step_with_roots rows s r (Collect number kept) step kind = cc

pub after_with_roots : (s : TermSet) (r : RootNames) (caller : ℕ) (e : Entry) → after (rooted s r) caller e ≡ rooted (after s caller e) (after (rooted s r) caller e).roots
after_with_roots s r caller (Make number head args row) = refl
after_with_roots s r caller (Find seen head args row) = refl
after_with_roots s r caller (Roots seen names) = refl
after_with_roots s r caller (Collect number kept) = refl

pub history_with_roots : (rows : ℕ) (s : TermSet) (r : RootNames) (l : History) → Legal rows s l → Adds l → Legal rows (rooted s r) l
history_with_roots rows s r [] legal adds = tt
history_with_roots rows s r (y ∷ l) legal adds = (
  step_with_roots rows s r y.1 legal.0 adds.0,
  subst (λ z. Legal rows z l) (sym (after_with_roots s r y.0 y.1))
      (history_with_roots rows (after s y.0 y.1) (after (rooted s r) y.0 y.1).roots l legal.1 adds.1),
)

choice_first : (a b : Bool) (x y z : List ℕ) → (a ≡ true → b ≡ true → ⊥) → cond a x (cond b y z) ≡ cond b y (cond a x z)
choice_first true true x y z h = absurd (h refl refl)
choice_first true false x y z h = refl
choice_first false b x y z h = refl

choice_again : (a : Bool) (x y z : List ℕ) → cond a x (cond a y z) ≡ cond a x z
choice_again true x y z = refl
choice_again false x y z = refl

-- the set with other roots of one caller
abbrev pub left_with : TermSet → ℕ → List ℕ → TermSet
left_with s caller names = rooted s (with_roots s.roots caller names)

-- Roots of a caller may be noted before or after an entry that isn't Roots of that caller; where it
-- is, only the second count.
after_roots : (s : TermSet) (caller : ℕ) (names : List ℕ) (other : ℕ) (e : Entry) → (other ≡ caller → is_roots e ≡ false)
    → after (left_with s caller names) other e ≡ left_with (after s other e) caller names
after_roots s caller names other (Make number head args row) apart = refl
after_roots s caller names other (Find seen head args row) apart = refl
after_roots s caller names other (Roots seen named) apart = ap (rooted s) (fun_ext (λ k.
    choice_first (k == other) (k == caller) named names (s.roots k) (λ a b. let h = apart (sym (eqb-true k other a) ∙ eqb-true k caller b) in cc)))
after_roots s caller names other (Collect number kept) apart = refl

roots_twice : (s : TermSet) (caller : ℕ) (names : List ℕ) (seen : ℕ) (named : List ℕ) → after (left_with s caller names) caller (Roots seen named) ≡ after s caller (Roots seen named)
roots_twice s caller names seen named = ap (rooted s) (fun_ext (λ k. choice_again (k == caller) named names (s.roots k)))

-- none of the entries is Roots of this caller
abbrev pub Unrooted : ℕ → History → Type 0
Unrooted caller l = AllByRecursion (λ (y : ℕ × Entry). y.0 ≡ caller → is_roots y.1 ≡ false) l

pub history_keeps_roots : (s : TermSet) (caller : ℕ) (names : List ℕ) (l : History) → Unrooted caller l → left_by (left_with s caller names) l ≡ left_with (left_by s l) caller names
history_keeps_roots s caller names [] apart = refl
history_keeps_roots s caller names (y ∷ l) apart =
    ap (λ z. left_by z l) (after_roots s caller names y.0 y.1 apart.0) ∙ history_keeps_roots (after s y.0 y.1) caller names l apart.1

roots_or_not : (e : Entry) → ((seen : ℕ) × (names : List ℕ) × (e ≡ Roots seen names)) ⊎ (is_roots e ≡ false)
roots_or_not (Make number head args row) = inr refl
roots_or_not (Find seen head args row) = inr refl
roots_or_not (Roots seen names) = inl (seen, names, refl)
roots_or_not (Collect number kept) = inr refl

-- whoever the entry is of, the roots of a caller noted before it are lost or still the last
either_roots : (s : TermSet) (caller : ℕ) (names : List ℕ) (other : ℕ) (e : Entry)
    → (after (left_with s caller names) other e ≡ after s other e) ⊎ (after (left_with s caller names) other e ≡ left_with (after s other e) caller names)
either_roots s caller names other e = go (cases_eq other caller) (roots_or_not e)
  where
    go : (other ≡ caller) ⊎ (other ≡ caller → ⊥) → ((seen : ℕ) × (named : List ℕ) × (e ≡ Roots seen named)) ⊎ (is_roots e ≡ false)
        → (after (left_with s caller names) other e ≡ after s other e) ⊎ (after (left_with s caller names) other e ≡ left_with (after s other e) caller names)
    go (inl same) (inl roots) = inl (
        ap (λ d. after (left_with s caller names) d e) same ∙ ap (after (left_with s caller names) caller) roots.2
        ∙ roots_twice s caller names roots.0 roots.1 ∙ sym (ap (λ d. after s d e) same ∙ ap (after s caller) roots.2))
    go (inr differ) k = inr (after_roots s caller names other e (λ same. absurd (differ same)))
    go (inl same) (inr none) = inr (after_roots s caller names other e (λ _. none))

pub history_replaces_roots : (s : TermSet) (caller : ℕ) (names : List ℕ) (l : History) (seen : ℕ) (named : List ℕ) → Contains l (caller, Roots seen named)
    → left_by (left_with s caller names) l ≡ left_by s l
history_replaces_roots s caller names [] seen named c = absurd (contains_none (caller, Roots seen named) c)
history_replaces_roots s caller names (y ∷ l) seen named c =
    go (contains_cases y l (caller, Roots seen named) c) (either_roots s caller names y.0 y.1) (λ d. history_replaces_roots (after s y.0 y.1) caller names l seen named d)
  where
    go : (y ≡ (caller, Roots seen named)) ⊎ Contains l (caller, Roots seen named)
        → (after (left_with s caller names) y.0 y.1 ≡ after s y.0 y.1) ⊎ (after (left_with s caller names) y.0 y.1 ≡ left_with (after s y.0 y.1) caller names)
        → (Contains l (caller, Roots seen named) → left_by (left_with (after s y.0 y.1) caller names) l ≡ left_by (after s y.0 y.1) l)
        → left_by (after (left_with s caller names) y.0 y.1) l ≡ left_by (after s y.0 y.1) l
    go (inl here) k rest = ap (λ z. left_by z l) (
        ap (λ (z : ℕ × Entry). after (left_with s caller names) z.0 z.1) here ∙ roots_twice s caller names seen named
        ∙ sym (ap (λ (z : ℕ × Entry). after s z.0 z.1) here))
    go (inr d) (inl lost) rest = ap (λ z. left_by z l) lost
    go (inr d) (inr moved) rest = ap (λ z. left_by z l) moved ∙ rest d
