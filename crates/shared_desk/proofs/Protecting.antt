-- The trees that a caller protects at a place of a legal history are those that its own entries
-- before it tell.
use Rattle.std.proofs.Common.{◌≡◌, ◌⊎◌, inl, inr, ⊎_elim, ℕ, ◌≤◌, ◌==◌, Bool, true, false, List, [], ◌∷◌, ◌++◌, map, length, take, drop, eq-eqb, true≢false, refl, sym, ap, ◌∙◌, arith}
use Rattle.std.specs.Prelude.{Contains, unwrap_or, if◌then◌else◌}
use Rattle.std.specs.List.{AllByRecursion}
use Rattle.std.proofs.Math.Nat.{le-max_left, le-max_right, max-eq_left, max-eq_right}
use Rattle.std.proofs.Math.Seq.{take-append_seam, drop-append_seam}
use Rattle.std.proofs.lemmas.Bool.{cases_lt, eqb-true, eqb-false, ne_eqb}
use Rattle.std.proofs.lemmas.List.{length-map}
use Rattle.term_model.specs.Tree.{Tree, Leaf, More, list_of}
use Rattle.history_core.specs.declared.entry.Entry.{Entry}
use Rattle.history_core.specs.declared.entry.Entry.TheVariants.{Make, Find, Roots, Collect}
use Rattle.history_core.specs.Entry.{is_collect, IsStep, after}
use Rattle.history_core.specs.Chronicle.{History, Legal, left_by, part_of}
use Rattle.history_core.specs.TermSet.{Names, TermSet, IsSound, tree_over, tree_at, trees_at, with_roots}
use Rattle.history_core.specs.Told.{told, rooted_trees}
use Rattle.history_core.proofs.Members.{each_from}
use Rattle.history_core.proofs.Sets.{pair_other}
use Rattle.history_core.proofs.Sound.{only_holds, itself, step_sound}
use Rattle.store_model.specs.Told as store
use Rattle.store_model.specs.Told.{Told, all_roots_from, told_from, subtrees_in}
use Rattle.node_rows.specs.CrowdsKept.{trees_many}

-- two lists in parts, the first ones of one length
same_parts : (a b x y : List Tree) → length a ≡ length b → a ++ x ≡ b ++ y → (a ≡ b) × (x ≡ y)
same_parts a b x y l e = (
  sym (take-append_seam a x) ∙ (ap (take (length a)) e ∙ (ap (λ (k : ℕ). take k (b ++ y)) l ∙ take-append_seam b y)),
  sym (drop-append_seam a x) ∙ (ap (drop (length a)) e ∙ (ap (λ (k : ℕ). drop k (b ++ y)) l ∙ drop-append_seam b y)),
)

trees_same : (h g : Names) (ns : List ℕ) → AllByRecursion (λ n. h n ≡ g n) ns → trees_at h ns ≡ trees_at g ns
trees_same h g [] all = refl
trees_same h g (n ∷ ns) all =
    ap (λ o. More (unwrap_or o (Leaf 0)) (trees_at h ns)) all.0 ∙ ap (More (tree_at g n)) (trees_same h g ns all.1)

-- the trees that caller i protects in a set
abbrev own_trees : ℕ → TermSet → List Tree
own_trees i s = list_of (trees_at s.held (s.roots i))

module _ (rows i : ℕ) where
  -- a root stays under its name
  held_stays : (s : TermSet) (c : ℕ) (e : Entry) (n : ℕ) → IsSound rows s → IsStep rows s e → Contains (s.roots i) n → (after s c e).held n ≡ s.held n
  held_stays s c (Make number head args row) n sound step root =
      let was = sound.rooted i n root in
      pair_other s.held row (tree_over s.held head args) n (λ same. let none = ap s.held same ∙ step.2 in let no = sym was.1 ∙ none in cc)
  held_stays s c (Find seen head args row) n sound step root = refl
  held_stays s c (Roots seen names) n sound step root = refl
  held_stays s c (Collect number kept) n sound step root =
      let was = sound.rooted i n root in
      only_holds s.held kept n ((step.1 n).1 record { caller = i; root = n; below = was.0; above = was.0; rooted = root; root_tree = was.1; tree = was.1; inside = itself was.0 })

  trees_stay : (s : TermSet) (c : ℕ) (e : Entry) → IsSound rows s → IsStep rows s e → (after s c e).roots i ≡ s.roots i → own_trees i (after s c e) ≡ own_trees i s
  trees_stay s c e sound step same =
      ap (λ ns. list_of (trees_at (after s c e).held ns)) same
      ∙ ap list_of (trees_same (after s c e).held s.held (s.roots i) (each_from (λ n. (after s c e).held n ≡ s.held n) (s.roots i) (λ n root. held_stays s c e n sound step root)))

  -- another caller's entry leaves its roots
  others_leave : (s : TermSet) (c : ℕ) (e : Entry) → (c ≡ i → ⊥) → (after s c e).roots i ≡ s.roots i
  others_leave s c (Make number head args row) ne = refl
  others_leave s c (Find seen head args row) ne = refl
  others_leave s c (Roots seen names) ne = ap (λ (b : Bool). if b then names else s.roots i) (ne_eqb i c (λ same. ne (sym same)))
  others_leave s c (Collect number kept) ne = refl

  -- its trees at every place after this entry, where those before it are told
  abbrev Follows : TermSet → Told → History → History → Type 0
  Follows s t before rest =
      told rooted_trees i s (before ++ rest) ≡ all_roots_from t (part_of i (before ++ rest)) → own_trees i s ≡ t.rooted
      → own_trees i (left_by s before) ≡ (told_from t (part_of i before)).rooted

  follow : (s : TermSet) (t : Told) (c : ℕ) (e : Entry) (before rest : History) (b : Bool) → (c == i) ≡ b → IsSound rows s → IsStep rows s e
      → ((u : Told) → Follows (after s c e) u before rest)
      → (if b then rooted_trees s.held e else []) ++ told rooted_trees i (after s c e) (before ++ rest) ≡ all_roots_from t (if b then e ∷ part_of i (before ++ rest) else part_of i (before ++ rest))
      → own_trees i s ≡ t.rooted
      → own_trees i (left_by (after s c e) before) ≡ (told_from t (if b then e ∷ part_of i before else part_of i before)).rooted
  follow s t c e before rest false is sound step on same here = on t same (trees_stay s c e sound step (others_leave s c e (eqb-false c i is)) ∙ here)
  follow s t c (Make number head args row) before rest true is sound step on same here =
      on (store.after t (Make number head args row)) same (trees_stay s c (Make number head args row) sound step refl ∙ here)
  follow s t c (Find seen head args row) before rest true is sound step on same here = on (store.after t (Find seen head args row)) same here
  follow s t c (Roots seen names) before rest true is sound step on same here =
      let now = map t.tree names in
      let long : length (list_of (trees_at s.held names)) ≡ length now = trees_many s.held names ∙ sym (length-map names t.tree) in
      let parts = same_parts (list_of (trees_at s.held names)) now (told rooted_trees i (after s c (Roots seen names)) (before ++ rest)) (all_roots_from (store.after t (Roots seen names)) (part_of i (before ++ rest))) long same in
      let mine : with_roots s.roots c names i ≡ names = ap (λ (b : Bool). if b then names else s.roots i) (eq-eqb i c (sym (eqb-true c i is))) in
      on (store.after t (Roots seen names)) parts.1 (ap (λ ns. list_of (trees_at s.held ns)) mine ∙ parts.0)
  follow s t c (Collect number kept) before rest true is sound step on same here =
      on (store.after t (Collect number kept)) same (trees_stay s c (Collect number kept) sound step refl ∙ here)

  pub protected_are_told : (s : TermSet) (t : Told) (before rest : History) → IsSound rows s → Legal rows s (before ++ rest) → Follows s t before rest
  protected_are_told s t [] rest sound legal same here = here
  protected_are_told s t ((c, e) ∷ before) rest sound legal same here =
      follow s t c e before rest (c == i) refl sound legal.0
      (λ u. protected_are_told (after s c e) u before rest (step_sound rows s c e sound legal.0) legal.1) same here

-- what is told of entries in two parts
pub told_join : (t : Told) (xs ys : List Entry) → told_from t (xs ++ ys) ≡ told_from (told_from t xs) ys
told_join t [] ys = refl
told_join t (x ∷ xs) ys = told_join (store.after t x) xs ys

-- without a Collect the hand stays
hand_after : (t : Told) (e : Entry) → is_collect e ≡ false → (store.after t e).hand ≡ t.hand
hand_after t (Make number head args row) plain = refl
hand_after t (Find seen head args row) plain = refl
hand_after t (Roots seen names) plain = refl
hand_after t (Collect number kept) plain = absurd (true≢false plain)

pub hand_stays : (i : ℕ) (t : Told) (l : History) → AllByRecursion (λ (y : ℕ × Entry). y.0 ≡ i → is_collect y.1 ≡ false) l → (told_from t (part_of i l)).hand ≡ t.hand
hand_stays i t [] none = refl
hand_stays i t ((c, e) ∷ l) none = by (c == i) refl (hand_stays i (store.after t e) l none.1) (hand_stays i t l none.1)
  where
    by : (b : Bool) → (c == i) ≡ b → (told_from (store.after t e) (part_of i l)).hand ≡ (store.after t e).hand → (told_from t (part_of i l)).hand ≡ t.hand
        → (told_from t (if b then e ∷ part_of i l else part_of i l)).hand ≡ t.hand
    by true is own other = own ∙ hand_after t e (none.0 (eqb-true c i is))
    by false is own other = other

-- The load never falls, and counts the last Roots.
load_after : (t : Told) (e : Entry) → t.load ≤ (store.after t e).load
load_after t (Make number head args row) = omega arith
load_after t (Find seen head args row) = omega arith
load_after t (Roots seen names) = le-max_left t.load (subtrees_in (map t.tree names))
load_after t (Collect number kept) = omega arith

pub load_grows : (t : Told) (es : List Entry) → t.load ≤ (told_from t es).load
load_grows t [] = omega arith
load_grows t (e ∷ es) = let one = load_after t e in let rest = load_grows (store.after t e) es in omega (arith, one, rest)

abbrev Counts : Told → Type 0
Counts t = subtrees_in t.rooted ≤ t.load

counts_after : (t : Told) (e : Entry) → Counts t → Counts (store.after t e)
counts_after t (Make number head args row) h = h
counts_after t (Find seen head args row) h = h
counts_after t (Roots seen names) h = le-max_right t.load (subtrees_in (map t.tree names))
counts_after t (Collect number kept) h = h

pub load_counts : (t : Told) (es : List Entry) → Counts t → Counts (told_from t es)
load_counts t [] h = h
load_counts t (e ∷ es) h = load_counts (store.after t e) es (counts_after t e h)

-- It is what was given, or is counted at some place.
load_counted : (t : Told) (e : Entry) → ((store.after t e).load ≡ t.load) ⊎ (subtrees_in (store.after t e).rooted ≡ (store.after t e).load)
load_counted t (Make number head args row) = inl refl
load_counted t (Find seen head args row) = inl refl
load_counted t (Roots seen names) = ⊎_elim (λ less. inr (sym (max-eq_right (omega (arith, less))))) (λ more. inl (max-eq_left more)) (cases_lt t.load (subtrees_in (map t.tree names)))
load_counted t (Collect number kept) = inl refl

abbrev pub Reaches : ℕ → Told → History → List Entry → Type 0
Reaches i t l es =
    ((told_from t es).load ≡ t.load)
    ⊎ ((before : History) × (rest : History) × (l ≡ before ++ rest) × (subtrees_in (told_from t (part_of i before)).rooted ≡ (told_from t es).load))

pub load_is_counted : (i : ℕ) (t : Told) (l : History) → Reaches i t l (part_of i l)
load_is_counted i t [] = inl refl
load_is_counted i t ((c, e) ∷ l) = by (c == i) refl (load_is_counted i (store.after t e) l) (load_is_counted i t l)
  where
    same : (b : Bool) → (c == i) ≡ b → (before : History) → (told_from t (part_of i ((c, e) ∷ before))).rooted ≡ (told_from t (if b then e ∷ part_of i before else part_of i before)).rooted
    same b is before = ap (λ (d : Bool). (told_from t (if d then e ∷ part_of i before else part_of i before)).rooted) is

    on_other : (c == i) ≡ false → Reaches i t l (part_of i l) → Reaches i t ((c, e) ∷ l) (part_of i l)
    on_other is (inl x) = inl x
    on_other is (inr r) = inr ((c, e) ∷ r.0, r.1, ap (λ (xs : History). (c, e) ∷ xs) r.2, ap subtrees_in (same false is r.0) ∙ r.3)

    here : (c == i) ≡ true → (told_from (store.after t e) (part_of i l)).load ≡ (store.after t e).load
        → ((store.after t e).load ≡ t.load) ⊎ (subtrees_in (store.after t e).rooted ≡ (store.after t e).load) → Reaches i t ((c, e) ∷ l) (e ∷ part_of i l)
    here is x (inl old) = inl (x ∙ old)
    here is x (inr new) = inr ((c, e) ∷ [], l, refl, ap subtrees_in (same true is []) ∙ (new ∙ sym x))

    on_own : (c == i) ≡ true → Reaches i (store.after t e) l (part_of i l) → Reaches i t ((c, e) ∷ l) (e ∷ part_of i l)
    on_own is (inl x) = here is x (load_counted t e)
    on_own is (inr r) = inr ((c, e) ∷ r.0, r.1, ap (λ (xs : History). (c, e) ∷ xs) r.2, ap subtrees_in (same true is r.0) ∙ r.3)

    by : (b : Bool) → (c == i) ≡ b → Reaches i (store.after t e) l (part_of i l) → Reaches i t l (part_of i l) → Reaches i t ((c, e) ∷ l) (if b then e ∷ part_of i l else part_of i l)
    by true is own other = on_own is own
    by false is own other = on_other is other
