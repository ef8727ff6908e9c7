-- What a Collect of a legal history keeps is below what the callers protect there.
use Rattle.std.proofs.Common.{◌≡◌, ◌⊎◌, inl, inr, ℕ, ◌==◌, Bool, true, false, List, [], ◌∷◌, ◌++◌, length, refl, sym, ap, subst, ◌∙◌, arith}
use Rattle.std.specs.Prelude.{Contains, unwrap_or, if◌then◌else◌}
use Rattle.std.specs.List.{AllByRecursion}
use Rattle.std.proofs.lemmas.Bool.{eqb-true}
use Rattle.std.proofs.lemmas.List.{length-append}
use Rattle.std.proofs.lemmas.List.Elements.{Contains-append_left}
use mathlib.Core.Logic.{dite}
use native.Mathlib.Decide.{ℕ_discrete}
use Rattle.term_model.specs.Tree.{Tree, Leaf, list_of}
use Rattle.history_core.specs.declared.entry.Entry.{Entry}
use Rattle.history_core.specs.declared.entry.Entry.TheVariants.{Make, Find, Roots, Collect}
use Rattle.history_core.specs.Entry.{is_collect, IsStep, after}
use Rattle.history_core.specs.Chronicle.{History, Legal, left_by, set_of, chronicle, IsLegal, IsNoted}
use Rattle.history_core.specs.TermSet.{Names, TermSet, Holds, empty, tree_at, trees_at}
use Rattle.history_core.proofs.Chronicles.{has_the_noted}
use Rattle.history_core.proofs.Members.{contains_here, contains_there, contains_none, contains_cases}
use Rattle.node_rows.specs.Crowding.{EndsWith, IsLastCollect}
use Rattle.shared_desk.specs.Telling.{protected_by}
use Rattle.shared_work.proofs.Kept.{tree_of_name}
use Rattle.shared_work.proofs.Needing.{below, in_below}

-- where the last Collect of a caller stands, if it has one
abbrev pub NoneBy : ℕ → History → Type 0
NoneBy i l = AllByRecursion (λ (y : ℕ × Entry). y.0 ≡ i → is_collect y.1 ≡ false) l

first_of : (i c : ℕ) (e : Entry) (l : History) → NoneBy i l → IsLastCollect ((c, e) ∷ l) i ⊎ NoneBy i ((c, e) ∷ l)
first_of i c (Make number head args row) l none = inr ((λ _. refl), none)
first_of i c (Find seen head args row) l none = inr ((λ _. refl), none)
first_of i c (Roots seen names) l none = inr ((λ _. refl), none)
first_of i c (Collect number kept) l none = dite (ℕ_discrete c i)
    (λ same. inl record { before = []; number = number; kept = kept; rest = l; is = ap (λ (j : ℕ). let x : ℕ × Entry = (j, Collect number kept) in x ∷ l) same; last = none })
    (λ ne. inr ((λ same. absurd (ne same)), none))

pub last_collect : (i : ℕ) (l : History) → IsLastCollect l i ⊎ NoneBy i l
last_collect i [] = inr tt
last_collect i ((c, e) ∷ l) = by (last_collect i l)
  where
    by : IsLastCollect l i ⊎ NoneBy i l → IsLastCollect ((c, e) ∷ l) i ⊎ NoneBy i ((c, e) ∷ l)
    by (inl p) = inl record { before = (c, e) ∷ p.before; number = p.number; kept = p.kept; rest = p.rest; is = ap (λ (xs : History). (c, e) ∷ xs) p.is; last = p.last }
    by (inr none) = first_of i c e l none

pub end_of_nothing : (xs ys : List Tree) → EndsWith xs ys → xs ≡ [] → ys ≡ []
end_of_nothing xs [] e none = refl
end_of_nothing xs (y ∷ ys) e none = let all = ap length (sym e.is ∙ none) in let long = length-append e.before (y ∷ ys) in absurd (omega (arith, all, long))

-- each entry of a legal history is a step at its place
pub step_at : (rows : ℕ) (s : TermSet) (before : History) (x : ℕ × Entry) (rest : History) → Legal rows s (before ++ x ∷ rest) → IsStep rows (left_by s before) x.1
step_at rows s [] x rest legal = legal.0
step_at rows s (y ∷ ys) x rest legal = step_at rows (after s y.0 y.1) ys x rest legal.1

-- who has a root has noted an entry
rooted_now : (s : TermSet) (c : ℕ) (e : Entry) (j n : ℕ) → Contains ((after s c e).roots j) n → Contains (s.roots j) n ⊎ (c ≡ j)
rooted_now s c (Make number head args row) j n has = inl has
rooted_now s c (Find seen head args row) j n has = inl has
rooted_now s c (Roots seen names) j n has = by (j == c) refl has
  where
    by : (b : Bool) → (j == c) ≡ b → Contains (if b then names else s.roots j) n → Contains (s.roots j) n ⊎ (c ≡ j)
    by true is h = inr (sym (eqb-true j c is))
    by false is h = inl h
rooted_now s c (Collect number kept) j n has = inl has

rooted_by : (s : TermSet) (l : History) (j n : ℕ) → Contains ((left_by s l).roots j) n → Contains (s.roots j) n ⊎ ((e : Entry) × Contains l (j, e))
rooted_by s [] j n has = inl has
rooted_by s ((c, e) ∷ l) j n has = by (rooted_by (after s c e) l j n has)
  where
    now : Contains (s.roots j) n ⊎ (c ≡ j) → Contains (s.roots j) n ⊎ ((d : Entry) × Contains ((c, e) ∷ l) (j, d))
    now (inl was) = inl was
    now (inr same) = inr (e, subst (λ (i : ℕ). Contains ((c, e) ∷ l) (i, e)) same (contains_here (c, e) l))

    by : Contains ((after s c e).roots j) n ⊎ ((d : Entry) × Contains l (j, d)) → Contains (s.roots j) n ⊎ ((d : Entry) × Contains ((c, e) ∷ l) (j, d))
    by (inl h) = now (rooted_now s c e j n h)
    by (inr m) = inr (m.0, contains_there (c, e) l (j, m.0) m.1)

-- the tree of a name is one of the trees of the names
name_has : (h : Names) (ns : List ℕ) (n : ℕ) (t : Tree) → Contains ns n → Holds h n t → Contains (list_of (trees_at h ns)) t
name_has h [] n t c is = absurd (contains_none n c)
name_has h (m ∷ ms) n t c is = by (contains_cases m ms n c) (name_has h ms n t)
  where
    by : (m ≡ n) ⊎ Contains ms n → (Contains ms n → Holds h n t → Contains (list_of (trees_at h ms)) t) → Contains (list_of (trees_at h (m ∷ ms))) t
    by (inl same) rest =
        let tree : tree_at h m ≡ t = ap (tree_at h) same ∙ ap (λ o. unwrap_or o (Leaf 0)) is in
        subst (Contains (list_of (trees_at h (m ∷ ms)))) tree (contains_here (tree_at h m) (list_of (trees_at h ms)))
    by (inr more) rest = contains_there (tree_at h m) (list_of (trees_at h ms)) t (rest more is)

-- What a Collect of the chronicle keeps is below what some caller protects there.
pub kept_below : (rows : ℕ) (lists : List (List Entry)) (i : ℕ) → IsLegal rows (chronicle lists) → (c : IsLastCollect (chronicle lists) i) (t : Tree)
    → Contains (list_of (trees_at (set_of c.before).held c.kept)) t → (j : ℕ) × ((e : Entry) × IsNoted lists (j, e)) × Contains (below (protected_by j c.before)) t
kept_below rows lists i legal c t has =
    let there = set_of c.before in
    let q = tree_of_name there.held c.kept t has in
    let step = step_at rows empty c.before (i, Collect c.number c.kept) c.rest (subst (IsLegal rows) c.is legal) in
    let r = (step.1 q.0).0 q.1 in
    let same : t ≡ r.below = sym q.2 ∙ ap (λ o. unwrap_or o (Leaf 0)) r.tree in (
      r.caller,
      noted r.caller (rooted_by empty c.before r.caller r.root r.rooted),
      subst (Contains (below (protected_by r.caller c.before))) (sym same)
          (in_below (protected_by r.caller c.before) r.above r.below (name_has there.held (there.roots r.caller) r.root r.above r.rooted r.root_tree) r.inside),
    )
  where
    noted : (j : ℕ) {n : ℕ} → Contains [] n ⊎ ((e : Entry) × Contains c.before (j, e)) → (e : Entry) × IsNoted lists (j, e)
    noted j {n} (inl nothing) = absurd (contains_none n nothing)
    noted j {n} (inr m) =
        (m.0, (has_the_noted lists (j, m.0)).0 (subst (λ (l : History). Contains l (j, m.0)) (sym c.is) (Contains-append_left c.before ((i, Collect c.number c.kept) ∷ c.rest) (j, m.0) m.1)))
