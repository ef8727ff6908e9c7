-- What known words tell of rows and their trees.
use Rattle.std.proofs.Common.{◌≡◌, ◌≢◌, ◌⊎◌, inl, inr, ℕ, zero, suc, ◌+◌, ◌<◌, eqb, Bool, true, cond, List, [], ◌∷◌, ◌++◌, length, get_or, map, refl, sym, ap, ap₂, ◌∙◌, subst, ⊎_elim, arith, true≢false, ne_eqb}
use Rattle.std.specs.Prelude.{Contains}
use mathlib.Core.Logic.{dite}
use native.Mathlib.Decide.{ℕ_discrete}
use Rattle.term_model.specs.declared.Head.{Head}
use Rattle.term_model.specs.Tree.{Tree, Leaf, Node, Trees, End, More, trees_of, list_of, arguments, subtrees, subtrees_all, is_ground, all_ground}
use Rattle.term_model.proofs.Order.{both}
use Rattle.hash_buckets.specs.Spelled.{spelled}
use Rattle.store_model.specs.declared.view.KnownWord.{KnownWord}
use Rattle.store_model.specs.declared.view.Content.{Content}
use Rattle.store_model.specs.Calls.{IsOver}
use Rattle.store_model.specs.Machine.{Each, words_known}
use Rattle.store_model.specs.ByView.{KnowsWord}
use Rattle.node_rows.specs.Knowing.{KnowsRow, KnowsTree, KnowsTrees}
use Rattle.store_model.proofs.Basics.{choose, eqb_not}
use Rattle.store_model.proofs.Histories.{spelled_once}
use Rattle.store_model.proofs.Chains.{some_words}
use Rattle.std.proofs.lemmas.List.Elements.{Contains-append_cases}
use Rattle.shared_desk.specs.Held.{names, IsOnce}

-- a row of which a word is known
pub word_names : (r k n : ℕ) (ks : List KnownWord) → KnowsWord r k n ks → names r ks ≡ true
word_names r k n [] h = absurd h
word_names r k n (x ∷ xs) h = choose (λ (b : Bool). b ≡ true) (eqb x.row r) true (names r xs) (λ _. refl)
    (λ ne. ⊎_elim (λ (t : (x.row ≡ r) × (x.word ≡ k) × (x.value ≡ n)). absurd (eqb_not x.row r ne t.0)) (λ t. word_names r k n xs t) h)

names_rest : (r : ℕ) (x : KnownWord) (xs : List KnownWord) → x.row ≢ r → names r (x ∷ xs) ≡ true → names r xs ≡ true
names_rest r x xs ne h = sym (ap (λ (b : Bool). cond b true (names r xs)) (ne_eqb x.row r ne)) ∙ h

pub names_word : (r : ℕ) (ks : List KnownWord) → names r ks ≡ true → (k : ℕ) × (n : ℕ) × KnowsWord r k n ks
names_word r [] h = absurd (true≢false (sym h))
names_word r (x ∷ xs) h = dite (ℕ_discrete x.row r)
    (λ e. (x.word, x.value, inl (e, refl, refl)))
    (λ ne. let t = names_word r xs (names_rest r x xs ne h) in (t.0, t.1, inr t.2))

pub tree_names : (ks : List KnownWord) (r : ℕ) (t : Tree) → KnowsTree ks r t → names r ks ≡ true
tree_names ks r (Leaf x) h = absurd h
tree_names ks r (Node f ts) h = word_names r 0 (get_or (spelled f h.0) 0 0) ks (h.1.words 0 (some_words f h.0))

-- all that is known in ks is known in js
abbrev pub Within : List KnownWord → List KnownWord → Type 0
Within ks js = (r k n : ℕ) → KnowsWord r k n ks → KnowsWord r k n js

pub row_within : (ks js : List KnownWord) → Within ks js → (r : ℕ) (f : Head) (rs : List ℕ) → KnowsRow ks r f rs → KnowsRow js r f rs
row_within ks js more r f rs h = record { over = h.over; words = λ k l. more r k (get_or (spelled f rs) k 0) (h.words k l) }

mutual
  pub tree_within : (ks js : List KnownWord) → Within ks js → (t : Tree) (r : ℕ) → KnowsTree ks r t → KnowsTree js r t
  tree_within ks js more (Leaf x) r h = absurd h
  tree_within ks js more (Node f ts) r h = (h.0, row_within ks js more r f h.0 h.1, trees_within ks js more ts h.0 h.2)

  pub trees_within : (ks js : List KnownWord) → Within ks js → (ts : Trees) (rs : List ℕ) → KnowsTrees ks rs ts → KnowsTrees js rs ts
  trees_within ks js more End [] h = tt
  trees_within ks js more (More t ts) [] h = absurd h
  trees_within ks js more End (r ∷ rs) h = absurd h
  trees_within ks js more (More t ts) (r ∷ rs) h = (tree_within ks js more t r h.0, trees_within ks js more ts rs h.1)

pub names_within : (ks js : List KnownWord) → Within ks js → (r : ℕ) → names r ks ≡ true → names r js ≡ true
names_within ks js more r h = let t = names_word r ks h in word_names r t.0 t.1 js (more r t.0 t.1 t.2)

pub row_once : (ks : List KnownWord) → IsOnce ks → (r : ℕ) (f g : Head) (rs qs : List ℕ) → KnowsRow ks r f rs → KnowsRow ks r g qs
    → ◌≡◌ {A = Content} record { head = f; arguments = rs } record { head = g; arguments = qs }
row_once ks once r f g rs qs a b = spelled_once f g rs qs a.over b.over (λ k l m. once r k (get_or (spelled f rs) k 0) (get_or (spelled g qs) k 0) (a.words k l) (b.words k m))

-- a row has one known tree
mutual
  pub tree_once : (ks : List KnownWord) → IsOnce ks → (t u : Tree) (r : ℕ) → KnowsTree ks r t → KnowsTree ks r u → t ≡ u
  tree_once ks once (Leaf x) u r a b = absurd a
  tree_once ks once (Node f ts) (Leaf y) r a b = absurd b
  tree_once ks once (Node f ts) (Node g us) r a b =
      let e = row_once ks once r f g a.0 b.0 a.1 b.1 in
      let same : a.0 ≡ b.0 = ap (λ (c : Content). c.arguments) e in
      ap₂ Node (ap (λ (c : Content). c.head) e) (trees_once ks once ts us b.0 (subst (λ (qs : List ℕ). KnowsTrees ks qs ts) same a.2) b.2)

  pub trees_once : (ks : List KnownWord) → IsOnce ks → (ts us : Trees) (rs : List ℕ) → KnowsTrees ks rs ts → KnowsTrees ks rs us → ts ≡ us
  trees_once ks once End End rs a b = refl
  trees_once ks once End (More u us) [] a b = absurd b
  trees_once ks once End (More u us) (r ∷ rs) a b = absurd a
  trees_once ks once (More t ts) End [] a b = absurd a
  trees_once ks once (More t ts) End (r ∷ rs) a b = absurd b
  trees_once ks once (More t ts) (More u us) [] a b = absurd a
  trees_once ks once (More t ts) (More u us) (r ∷ rs) a b = ap₂ More (tree_once ks once t u r a.0 b.0) (trees_once ks once ts us rs a.1 b.1)

-- a known tree has no variable
mutual
  pub tree_ground : (ks : List KnownWord) (t : Tree) (r : ℕ) → KnowsTree ks r t → is_ground t ≡ true
  tree_ground ks (Leaf x) r h = absurd h
  tree_ground ks (Node f ts) r h = trees_ground ks ts h.0 h.2

  trees_ground : (ks : List KnownWord) (ts : Trees) (rs : List ℕ) → KnowsTrees ks rs ts → all_ground ts ≡ true
  trees_ground ks End rs h = refl
  trees_ground ks (More t ts) [] h = absurd h
  trees_ground ks (More t ts) (r ∷ rs) h = both (is_ground t) (all_ground ts) (tree_ground ks t r h.0) (trees_ground ks ts rs h.1)

-- the row of one of known trees
pub one_known : (ks : List KnownWord) (ts : Trees) (rs : List ℕ) (u : Tree) → KnowsTrees ks rs ts → Contains (list_of ts) u → (q : ℕ) × KnowsTree ks q u
one_known ks End rs u h (k, lt, e) = absurd (omega arith)
one_known ks (More t ts) [] u h c = absurd h
one_known ks (More t ts) (r ∷ rs) u h (zero, lt, e) = (r, subst (KnowsTree ks r) e h.0)
one_known ks (More t ts) (r ∷ rs) u h (suc k, lt, e) = one_known ks ts rs u h.1 (k, omega arith, e)

-- the row of an argument
pub argument_known : (ks : List KnownWord) (t u : Tree) (r : ℕ) → KnowsTree ks r t → Contains (arguments t) u → (q : ℕ) × KnowsTree ks q u
argument_known ks (Leaf x) u r h c = absurd h
argument_known ks (Node f ts) u r h c = one_known ks ts h.0 u h.2 c

-- and of any subtree
mutual
  pub subtree_known : (ks : List KnownWord) (t u : Tree) (r : ℕ) → KnowsTree ks r t → Contains (subtrees t) u → (q : ℕ) × KnowsTree ks q u
  subtree_known ks (Leaf x) u r h c = absurd h
  subtree_known ks (Node f ts) u r h (zero, lt, e) = (r, subst (KnowsTree ks r) e h)
  subtree_known ks (Node f ts) u r h (suc k, lt, e) = subtree_of_some ks ts h.0 u h.2 (k, omega arith, e)

  subtree_of_some : (ks : List KnownWord) (ts : Trees) (rs : List ℕ) (u : Tree) → KnowsTrees ks rs ts → Contains (subtrees_all ts) u → (q : ℕ) × KnowsTree ks q u
  subtree_of_some ks End rs u h (k, lt, e) = absurd (omega arith)
  subtree_of_some ks (More t ts) [] u h c = absurd h
  subtree_of_some ks (More t ts) (r ∷ rs) u h c =
      elim (Contains-append_cases (subtrees t) (subtrees_all ts) u c) [
        | inl a ↦ subtree_known ks t u r h.0 a
        | inr a ↦ subtree_of_some ks ts rs u h.1 a
      ]

-- the words of a row are known once they stand in front
words_there : (r k : ℕ) (ns : List ℕ) (ks : List KnownWord) (j : ℕ) → j < length ns → KnowsWord r (k + j) (get_or ns j 0) (words_known r k ns ++ ks)
words_there r k [] ks j l = absurd (omega arith)
words_there r k (n ∷ ns) ks zero l = inl (refl, (let e : k ≡ k + 0 = omega arith in e), refl)
words_there r k (n ∷ ns) ks (suc j) l = inr (subst (λ (i : ℕ). KnowsWord r i (get_or ns j 0) (words_known r (suc k) ns ++ ks)) (let e : suc k + j ≡ k + suc j = omega arith in e) (words_there r (suc k) ns ks j (omega arith)))

pub row_there : (r : ℕ) (f : Head) (rs : List ℕ) (ks : List KnownWord) → IsOver f rs → KnowsRow (words_known r 0 (spelled f rs) ++ ks) r f rs
row_there r f rs ks over =
    record {
      over = over;
      words = λ k l. subst (λ (i : ℕ). KnowsWord r i (get_or (spelled f rs) k 0) (words_known r 0 (spelled f rs) ++ ks)) (let e : 0 + k ≡ k = omega arith in e) (words_there r 0 (spelled f rs) ks k l);
    }

pub known_before : (xs ks : List KnownWord) → Within ks (xs ++ ks)
known_before [] ks r k n h = h
known_before (x ∷ xs) ks r k n h = inr (known_before xs ks r k n h)

-- and no other row is named by them
pub named_there : (r k q : ℕ) (ns : List ℕ) (ks : List KnownWord) → names q (words_known r k ns ++ ks) ≡ true → (q ≡ r) ⊎ (names q ks ≡ true)
named_there r k q [] ks h = inr h
named_there r k q (n ∷ ns) ks h = dite (ℕ_discrete r q) (λ e. inl (sym e))
    (λ ne. named_there r (suc k) q ns ks (names_rest q record { row = r; word = k; value = n } (words_known r (suc k) ns ++ ks) ne h))

-- nor by words of one row
pub named_of : (r q : ℕ) (xs ks : List KnownWord) → Each (λ (x : KnownWord). x.row ≡ r) xs → names q (xs ++ ks) ≡ true → (q ≡ r) ⊎ (names q ks ≡ true)
named_of r q [] ks all h = inr h
named_of r q (x ∷ xs) ks all h = dite (ℕ_discrete x.row q) (λ e. inl (sym e ∙ all.0)) (λ ne. named_of r q xs ks all.1 (names_rest q x (xs ++ ks) ne h))

-- the trees of rows that are each known
pub trees_known : (ks : List KnownWord) (tree : ℕ → Tree) (rs : List ℕ) → Each (λ r. KnowsTree ks r (tree r)) rs → KnowsTrees ks rs (trees_of (map tree rs))
trees_known ks tree [] h = tt
trees_known ks tree (r ∷ rs) h = (h.0, trees_known ks tree rs h.1)
