-- What a Collect of a legal history keeps was made before it.
use Rattle.std.proofs.Common.{◌≡◌, ◌⊎◌, inl, inr, ℕ, zero, suc, ◌==◌, Bool, true, false, List, [], ◌∷◌, eq-eqb, refl, sym, ap, subst, ◌∙◌, arith}
use Rattle.std.specs.Prelude.{Contains, Some, None, if◌then◌else◌, unwrap_or}
use Rattle.std.proofs.lemmas.Bool.Decides.{nat_tests}
use Rattle.std.proofs.lemmas.List.Elements.{Contains-append_left, Contains-append_right, Contains-append_cases}
use Rattle.std.proofs.lemmas.Option.{same_Some}
use Rattle.term_model.specs.Tree.{Tree, Leaf, list_of}
use Rattle.history_core.specs.declared.entry.Entry.{Entry}
use Rattle.history_core.specs.declared.entry.Entry.TheVariants.{Make, Find, Roots, Collect}
use Rattle.history_core.specs.Entry.{IsStep, after}
use Rattle.history_core.specs.Chronicle.{History, Legal}
use Rattle.history_core.specs.TermSet.{Names, TermSet, Holds, tree_at, trees_at, tree_over, is_one_of}
use Rattle.history_core.specs.Told.{told, named, kept_trees}

-- from this set on some caller's entries name the tree
pub record IsNamed (s : TermSet) (l : History) (t : Tree) : Type 0 where
  pub caller : ℕ
  pub there : Contains (told named caller s l) t

abbrev IsKnown : TermSet → History → Tree → Type 0
IsKnown s l t = ((n : ℕ) × Holds s.held n t) ⊎ IsNamed s l t

single : (a t : Tree) → Contains (a ∷ []) t → a ≡ t
single a t (zero, l, e) = e
single a t (suc k, l, e) = absurd (omega (arith, l))

none : {A : Type 0} (t : A) → Contains [] t → ⊥
none t (k, l, e) = omega (arith, l)

-- a tree of names is the tree of one of them
pub tree_of_name : (h : Names) (ns : List ℕ) (t : Tree) → Contains (list_of (trees_at h ns)) t → (n : ℕ) × Contains ns n × (tree_at h n ≡ t)
tree_of_name h [] t c = absurd (none t c)
tree_of_name h (n ∷ ns) t c = by (tree_of_name h ns t) (Contains-append_cases (tree_at h n ∷ []) (list_of (trees_at h ns)) t c)
  where
    by : (Contains (list_of (trees_at h ns)) t → (m : ℕ) × Contains ns m × (tree_at h m ≡ t))
        → Contains (tree_at h n ∷ []) t ⊎ Contains (list_of (trees_at h ns)) t → (m : ℕ) × Contains (n ∷ ns) m × (tree_at h m ≡ t)
    by rest (inl one) = (n, Contains-append_left (n ∷ []) ns n (0, omega arith, refl), single (tree_at h n) t one)
    by rest (inr more) = let q = rest more in (q.0, Contains-append_right (n ∷ []) ns q.0 q.1, q.2)

-- a tree that a Collect keeps is held
kept_held : (rows : ℕ) (s : TermSet) (e : Entry) (t : Tree) → IsStep rows s e → Contains (kept_trees s.held e) t → (n : ℕ) × Holds s.held n t
kept_held rows s (Make number head args row) t step c = absurd (none t c)
kept_held rows s (Find seen head args row) t step c = absurd (none t c)
kept_held rows s (Roots seen names) t step c = absurd (none t c)
kept_held rows s (Collect number kept) t step c =
    let q = tree_of_name s.held kept t c in
    let reached = (step.1 q.0).0 q.1 in
    let same : tree_at s.held q.0 ≡ reached.below = ap (λ o. unwrap_or o (Leaf 0)) reached.tree in
    (q.0, reached.tree ∙ ap Some (sym same ∙ q.2))

-- what is known after an entry was so before it, or the entry makes it
known_before : (s : TermSet) (c : ℕ) (e : Entry) (xs : History) (t : Tree) → IsKnown (after s c e) xs t → IsKnown s ((c, e) ∷ xs) t
known_before s c e xs t (inr m) =
    inr record { caller = m.caller; there = Contains-append_right (if c == m.caller then named s.held e else []) (told named m.caller (after s c e) xs) t m.there }
known_before s c (Make number head args row) xs t (inl (n, h)) = by (n == row) h
  where
    by : (b : Bool) → (if b then Some (tree_over s.held head args) else s.held n) ≡ Some t → IsKnown s ((c, Make number head args row) ∷ xs) t
    by true q =
        let same : tree_over s.held head args ≡ t = same_Some (tree_over s.held head args) t q in
        let mine = subst (λ (b : Bool). Contains (if b then tree_over s.held head args ∷ [] else []) t) (sym (eq-eqb c c refl)) (0, omega arith, same) in
        inr record { caller = c; there = Contains-append_left (if c == c then named s.held (Make number head args row) else []) (told named c (after s c (Make number head args row)) xs) t mine }
    by false q = inl (n, q)
known_before s c (Find seen head args row) xs t (inl h) = inl h
known_before s c (Roots seen names) xs t (inl h) = inl h
known_before s c (Collect number kept) xs t (inl (n, h)) = by (is_one_of kept n) h
  where
    by : (b : Bool) → (if b then s.held n else None) ≡ Some t → IsKnown s ((c, Collect number kept) ∷ xs) t
    by true q = inl (n, q)
    by false q = absurd cc

pub kept_made : (rows k : ℕ) (s : TermSet) (l : History) (t : Tree) → Legal rows s l → Contains (told kept_trees k s l) t → IsKnown s l t
kept_made rows k s [] t legal c = absurd (none t c)
kept_made rows k s ((i, e) ∷ xs) t legal c =
    by (kept_made rows k (after s i e) xs t legal.1) (i == k) (Contains-append_cases (if i == k then kept_trees s.held e else []) (told kept_trees k (after s i e) xs) t c)
  where
    by : (Contains (told kept_trees k (after s i e) xs) t → IsKnown (after s i e) xs t) → (b : Bool) → Contains (if b then kept_trees s.held e else []) t ⊎ Contains (told kept_trees k (after s i e) xs) t → IsKnown s ((i, e) ∷ xs) t
    by rest true (inl h) = inl (kept_held rows s e t legal.0 h)
    by rest false (inl h) = absurd (none t h)
    by rest b (inr h) = known_before s i e xs t (rest h)

-- a caller whose entries tell something has an entry
pub told_some : (f : Names → Entry → List Tree) (caller : ℕ) (s : TermSet) (l : History) (t : Tree) → Contains (told f caller s l) t → (e : Entry) × Contains l (caller, e)
told_some f caller s [] t c = absurd (none t c)
told_some f caller s ((i, e) ∷ xs) t c =
    by (told_some f caller (after s i e) xs t) (i == caller) refl (Contains-append_cases (if i == caller then f s.held e else []) (told f caller (after s i e) xs) t c)
  where
    by : (Contains (told f caller (after s i e) xs) t → (d : Entry) × Contains xs (caller, d)) → (b : Bool) → (i == caller) ≡ b → Contains (if b then f s.held e else []) t ⊎ Contains (told f caller (after s i e) xs) t → (d : Entry) × Contains ((i, e) ∷ xs) (caller, d)
    by rest true q (inl h) =
        let same : i ≡ caller = grind (arith, nat_tests) in
        (e, Contains-append_left ((i, e) ∷ []) xs (caller, e) (0, omega arith, ap (λ (j : ℕ). let x : ℕ × Entry = (j, e) in x) same))
    by rest false q (inl h) = absurd (none t h)
    by rest b q (inr h) = let r = rest h in (r.0, Contains-append_right ((i, e) ∷ []) xs (caller, r.0) r.1)
