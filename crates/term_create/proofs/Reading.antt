-- What a read of a row tells of the tree that its pass knows.
use Rattle.std.proofs.Common.{◌≡◌, inl, inr, ℕ, zero, suc, ◌+◌, ◌<◌, ◌≤◌, Bool, true, false, cond, Some, List, [], ◌∷◌, ◌++◌, length, get_or, refl, sym, ap, ◌∙◌, subst, arith}
use Rattle.std.specs.Prelude.{nat_lt}
use Rattle.std.proofs.lemmas.Bool.Decides.{nat_tests}
use Rattle.term_model.specs.Tree.{Tree, Leaf, Node, Trees, End, More, root, arguments, list_of}
use Rattle.term_model.specs.declared.Head.{Head}
use Rattle.term_model.specs.declared.Head.TheVariants.{App, Int, Nil, Cons}
use Rattle.hash_buckets.specs.Spelled.{spelled}
use Rattle.store_model.specs.declared.view.KnownWord.{KnownWord}
use Rattle.store_model.specs.declared.view.Sizes.{Sizes}
use Rattle.store_model.specs.declared.view.View.{View}
use Rattle.store_model.specs.Calls.{IsOver}
use Rattle.store_model.specs.declared.view.Stay.TheVariants.{Away, Ready}
use Rattle.store_model.specs.declared.view.Place.TheVariants.{RowWord}
use Rattle.store_model.specs.Shown.{in_table}
use Rattle.store_model.specs.Steps.{IsAtRest}
use Rattle.store_model.specs.Machine.{Each, In, widest}
use Rattle.store_model.specs.ByView.{KnowsWord}
use Rattle.store_model.proofs.Basics.{each_in}
use Rattle.node_rows.specs.Knowing.{KnowsRow, KnowsTree, KnowsTrees}
use Rattle.node_rows.specs.declared.view.NodeView.{NodeView}
use Rattle.node_rows.specs.Steps.{Known, with_store}
use Rattle.term_create.specs.Read.{word, head_words}

-- a row that the pass has got is one of the store
got_below : (N r : ℕ) (rs : List ℕ) → Each (λ q. q < N) rs → In r rs → r < N
got_below N r rs h i = each_in (λ q. q < N) r rs h i

-- a row that a pass at rest has got is one of the store
pub uses_below : (z : Sizes) (v : View) (r : ℕ) → IsAtRest v → Known z v → In r v.got → r < z.rows
uses_below z v r rest known i = got_below z.rows r v.got (known.got (λ e. let no : Ready ≡ Away = sym rest.stay ∙ e in grind arith)) i

less : (a b : ℕ) → a < b → nat_lt a b ≡ true
less a b l = grind (arith, nat_tests)

-- each of its first words is one of the table
pub word_there : (z : Sizes) (r k : ℕ) → r < z.rows → k < widest z + 2 → in_table z (RowWord r k) ≡ true
word_there z r k l m = ap (λ (b : Bool). cond b (nat_lt k (widest z + 2)) false) (less r z.rows l) ∙ less k (widest z + 2) m

-- what is known is still known when more is
known_after : (xs ks : List KnownWord) (r k n : ℕ) → KnowsWord r k n ks → KnowsWord r k n (xs ++ ks)
known_after [] ks r k n h = h
known_after (x ∷ xs) ks r k n h = inr (known_after xs ks r k n h)

module _ (xs ks : List KnownWord) where
  row_after : (r : ℕ) (f : Head) (rs : List ℕ) → KnowsRow ks r f rs → KnowsRow (xs ++ ks) r f rs
  row_after r f rs h = record { over = h.over; words = λ k l. known_after xs ks r k (get_or (spelled f rs) k 0) (h.words k l) }

  mutual
    tree_after : (t : Tree) (r : ℕ) → KnowsTree ks r t → KnowsTree (xs ++ ks) r t
    tree_after (Leaf x) r h = absurd h
    tree_after (Node f ts) r h = (h.0, row_after r f h.0 h.1, trees_after ts h.0 h.2)

    trees_after : (ts : Trees) (rs : List ℕ) → KnowsTrees ks rs ts → KnowsTrees (xs ++ ks) rs ts
    trees_after End [] h = tt
    trees_after (More t ts) [] h = absurd h
    trees_after End (r ∷ rs) h = absurd h
    trees_after (More t ts) (r ∷ rs) h = (tree_after t r h.0, trees_after ts rs h.1)

-- each word of a row has one value
abbrev Once : List KnownWord → Type 0
Once ks = (r k m n : ℕ) → KnowsWord r k m ks → KnowsWord r k n ks → m ≡ n

-- a head that code can have
abbrev pub InRange : Head → Type 0
InRange (App s) = s.0 < 4294967296
InRange f = Unit {0}

two_words : (f : Head) (rs : List ℕ) → 1 < length (spelled f rs)
two_words (App s) rs = omega arith
two_words (Int n) rs = omega arith
two_words Nil rs = omega arith
two_words Cons rs = omega arith

some_words : (f : Head) (rs : List ℕ) → 0 < length (spelled f rs)
some_words f rs = let l = two_words f rs in omega arith

-- the head that was read is that of the row
same_head : (ks : List KnownWord) (r : ℕ) (f g : Head) (rs : List ℕ) → Once (head_words r g ++ ks) → KnowsRow ks r f rs → InRange g → f ≡ g
same_head ks r (App s) (App t) rs once h l = let e : s.0 ≡ t.0 = once r 0 s.0 t.0 (inr (h.words 0 (omega arith))) (inl (refl, refl, refl)) in ap (λ (n : ℕ). App record { 0 = n }) e
same_head ks r (App s) (Int n) rs once h l = absurd (let e : s.0 ≡ 4294967296 = once r 0 s.0 4294967296 (inr (inr (h.words 0 (omega arith)))) (inr (inl (refl, refl, refl))) in let b : s.0 < 4294967296 = h.over in omega arith)
same_head ks r (App s) Nil rs once h l = absurd (let e : s.0 ≡ 4294967297 = once r 0 s.0 4294967297 (inr (h.words 0 (omega arith))) (inl (refl, refl, refl)) in let b : s.0 < 4294967296 = h.over in omega arith)
same_head ks r (App s) Cons rs once h l = absurd (let e : s.0 ≡ 4294967298 = once r 0 s.0 4294967298 (inr (h.words 0 (omega arith))) (inl (refl, refl, refl)) in let b : s.0 < 4294967296 = h.over in omega arith)
same_head ks r (Int m) (App t) rs once h l = absurd (let e : 4294967296 ≡ t.0 = once r 0 4294967296 t.0 (inr (h.words 0 (omega arith))) (inl (refl, refl, refl)) in omega arith)
same_head ks r (Int m) (Int n) rs once h l = ap Int (once r 2 m n (inr (inr (h.words 2 (omega arith)))) (inl (refl, refl, refl)))
same_head ks r (Int m) Nil rs once h l = absurd (let e : 4294967296 ≡ 4294967297 = once r 0 4294967296 4294967297 (inr (h.words 0 (omega arith))) (inl (refl, refl, refl)) in omega arith)
same_head ks r (Int m) Cons rs once h l = absurd (let e : 4294967296 ≡ 4294967298 = once r 0 4294967296 4294967298 (inr (h.words 0 (omega arith))) (inl (refl, refl, refl)) in omega arith)
same_head ks r Nil (App t) rs once h l = absurd (let e : 4294967297 ≡ t.0 = once r 0 4294967297 t.0 (inr (h.words 0 (omega arith))) (inl (refl, refl, refl)) in omega arith)
same_head ks r Nil (Int n) rs once h l = absurd (let e : 4294967297 ≡ 4294967296 = once r 0 4294967297 4294967296 (inr (inr (h.words 0 (omega arith)))) (inr (inl (refl, refl, refl))) in omega arith)
same_head ks r Nil Nil rs once h l = refl
same_head ks r Nil Cons rs once h l = absurd (let e : 4294967297 ≡ 4294967298 = once r 0 4294967297 4294967298 (inr (h.words 0 (omega arith))) (inl (refl, refl, refl)) in omega arith)
same_head ks r Cons (App t) rs once h l = absurd (let e : 4294967298 ≡ t.0 = once r 0 4294967298 t.0 (inr (h.words 0 (omega arith))) (inl (refl, refl, refl)) in omega arith)
same_head ks r Cons (Int n) rs once h l = absurd (let e : 4294967298 ≡ 4294967296 = once r 0 4294967298 4294967296 (inr (inr (h.words 0 (omega arith)))) (inr (inl (refl, refl, refl))) in omega arith)
same_head ks r Cons Nil rs once h l = absurd (let e : 4294967298 ≡ 4294967297 = once r 0 4294967298 4294967297 (inr (h.words 0 (omega arith))) (inl (refl, refl, refl)) in omega arith)
same_head ks r Cons Cons rs once h l = refl

root_is : (ks : List KnownWord) (r : ℕ) (g : Head) → Once (head_words r g ++ ks) → InRange g → (t : Tree) → KnowsTree ks r t → root t ≡ Some g
root_is ks r g once range (Leaf x) h = absurd h
root_is ks r g once range (Node f ts) h = ap Some (same_head ks r f g h.0 once h.1 range)

trees_long : (ks : List KnownWord) (ts : Trees) (rs : List ℕ) → KnowsTrees ks rs ts → length (list_of ts) ≡ length rs
trees_long ks End [] h = refl
trees_long ks (More t ts) [] h = absurd h
trees_long ks End (r ∷ rs) h = absurd h
trees_long ks (More t ts) (r ∷ rs) h = ap suc (trees_long ks ts rs h.1)

-- the second word is how many arguments there are
counted : (f : Head) (rs : List ℕ) → IsOver f rs → get_or (spelled f rs) 1 0 ≡ length rs
counted (App s) rs o = refl
counted (Int n) rs o = sym (ap length o)
counted Nil rs o = sym (ap length o)
counted Cons rs o = sym o

-- and those after it are the arguments
argument_word : (f : Head) (rs : List ℕ) (j : ℕ) → IsOver f rs → j < length rs → get_or (spelled f rs) (suc (suc j)) 0 ≡ get_or rs j 0
argument_word (App s) rs j o l = refl
argument_word (Int n) rs j o l = absurd (let e = ap length o in omega arith)
argument_word Nil rs j o l = absurd (let e = ap length o in omega arith)
argument_word Cons rs j o l = refl

words_long : (f : Head) (rs : List ℕ) (j : ℕ) → IsOver f rs → j < length rs → suc (suc j) < length (spelled f rs)
words_long (App s) rs j o l = omega arith
words_long (Int n) rs j o l = absurd (let e = ap length o in omega arith)
words_long Nil rs j o l = absurd (let e = ap length o in omega arith)
words_long Cons rs j o l = omega arith

-- the count that was read is that of the row
count_is : (ks : List KnownWord) (r n : ℕ) → Once (word r 1 n ∷ ks) → (t : Tree) → KnowsTree ks r t → length (arguments t) ≡ n
count_is ks r n once (Leaf x) h = absurd h
count_is ks r n once (Node f ts) h =
    trees_long ks ts h.0 h.2 ∙ (sym (counted f h.0 h.1.over) ∙ once r 1 (get_or (spelled f h.0) 1 0) n (inr (h.1.words 1 (two_words f h.0))) (inl (refl, refl, refl)))

tree_in : (ks : List KnownWord) (ts : Trees) (rs : List ℕ) (j : ℕ) → KnowsTrees ks rs ts → j < length rs → KnowsTree ks (get_or rs j 0) (get_or (list_of ts) j (Leaf 0))
tree_in ks End [] j h l = absurd (omega arith)
tree_in ks (More t ts) [] j h l = absurd h
tree_in ks End (r ∷ rs) j h l = absurd h
tree_in ks (More t ts) (r ∷ rs) zero h l = h.0
tree_in ks (More t ts) (r ∷ rs) (suc j) h l = tree_in ks ts rs j h.1 (omega arith)

-- the argument that was read has the tree of that argument
child_is : (ks : List KnownWord) (r j n child : ℕ) → Once (word r (suc (suc j)) child ∷ ks) → KnowsWord r 1 n ks → j < n → (t : Tree) → KnowsTree ks r t → KnowsTree (word r (suc (suc j)) child ∷ ks) child (get_or (arguments t) j (Leaf 0))
child_is ks r j n child once known below (Leaf x) h = absurd h
child_is ks r j n child once known below (Node f ts) h =
    let rs : List ℕ = h.0 in
    let e : n ≡ length rs = once r 1 n (get_or (spelled f rs) 1 0) (inr known) (inr (h.1.words 1 (two_words f rs))) ∙ counted f rs h.1.over in
    let l : j < length rs = omega arith in
    let a : get_or (spelled f rs) (suc (suc j)) 0 ≡ child = once r (suc (suc j)) (get_or (spelled f rs) (suc (suc j)) 0) child (inr (h.1.words (suc (suc j)) (words_long f rs j h.1.over l))) (inl (refl, refl, refl)) in
    let b : get_or rs j 0 ≡ child = sym (argument_word f rs j h.1.over l) ∙ a in
    subst (λ (q : ℕ). KnowsTree (word r (suc (suc j)) child ∷ ks) q (get_or (list_of ts) j (Leaf 0))) b
    (tree_after (word r (suc (suc j)) child ∷ []) ks (get_or (list_of ts) j (Leaf 0)) (get_or rs j 0) (tree_in ks ts rs j h.2 l))

module _ (z : Sizes) (v w : NodeView) (rest : IsAtRest v.store) (known : Known z w.store) where
  once_in : (xs : List KnownWord) → w ≡ with_store v (record v.store { knows = xs ++ v.store.knows }) → Once (xs ++ v.store.knows)
  once_in xs e = subst (λ (u : NodeView). Once u.store.knows) e (known.words (subst (λ (u : NodeView). IsAtRest u.store) (sym e) record { call = rest.call; stay = rest.stay }))

  pub head_tree : (r : ℕ) (g : Head) → w ≡ with_store v (record v.store { knows = head_words r g ++ v.store.knows }) → InRange g → (t : Tree) → KnowsTree v.store.knows r t → root t ≡ Some g
  head_tree r g e range t k = root_is v.store.knows r g (once_in (head_words r g) e) range t k

  -- the symbol word is that of a head
  pub head_bound : (r n : ℕ) → w ≡ with_store v (record v.store { knows = word r 0 n ∷ v.store.knows }) → n ≤ 4294967298
  head_bound r n e = subst (λ (u : NodeView). IsAtRest u.store → (q m : ℕ) → KnowsWord q 0 m u.store.knows → m ≤ 4294967298) e known.heads record { call = rest.call; stay = rest.stay } r n (inl (refl, refl, refl))

  -- a row has room for as many arguments as it counts
  pub count_bound : (r n : ℕ) → w ≡ with_store v (record v.store { knows = word r 1 n ∷ v.store.knows }) → n ≤ widest z
  count_bound r n e = subst (λ (u : NodeView). IsAtRest u.store → (q m : ℕ) → KnowsWord q 1 m u.store.knows → m ≤ widest z) e known.counts record { call = rest.call; stay = rest.stay } r n (inl (refl, refl, refl))

  pub count_tree : (r n : ℕ) → w ≡ with_store v (record v.store { knows = word r 1 n ∷ v.store.knows }) → (t : Tree) → KnowsTree v.store.knows r t → length (arguments t) ≡ n
  count_tree r n e t k = count_is v.store.knows r n (once_in (word r 1 n ∷ []) e) t k

  pub child_tree : (r j n child : ℕ) → w ≡ with_store v (record v.store { knows = word r (suc (suc j)) child ∷ v.store.knows; got = child ∷ v.store.got }) → KnowsWord r 1 n v.store.knows → j < n
      → (t : Tree) → KnowsTree v.store.knows r t → KnowsTree w.store.knows child (get_or (arguments t) j (Leaf 0))
  child_tree r j n child e counted below t k =
      let once : Once (word r (suc (suc j)) child ∷ v.store.knows) = subst (λ (u : NodeView). Once u.store.knows) e (known.words (subst (λ (u : NodeView). IsAtRest u.store) (sym e) record { call = rest.call; stay = rest.stay })) in
      subst (λ (u : NodeView). KnowsTree u.store.knows child (get_or (arguments t) j (Leaf 0))) (sym e) (child_is v.store.knows r j n child once counted below t k)
