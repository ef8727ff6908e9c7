-- What a pass knows of rows is so.
use Rattle.std.proofs.Common.{◌≡◌, ◌≢◌, ℕ, ◌<◌, ◌≤◌, true, Some, List, [], ◌∷◌, length, get_or, refl, sym, ap, ap₂, ◌∙◌, subst, ⊎_elim, arith}
use Rattle.term_model.specs.Tree.{Tree, Leaf, Node, Trees, End, More}
use Rattle.term_model.specs.declared.Head.{Head}
use Rattle.term_model.specs.declared.Head.TheVariants.{App, Int, Nil, Cons}
use Rattle.history_core.specs.TermSet.{Lacks, tree_over}
use Rattle.hash_buckets.specs.Spelled.{spelled}
use Rattle.store_model.specs.declared.view.Sizes.{Sizes}
use Rattle.store_model.specs.declared.view.Content.{Content}
use Rattle.store_model.specs.declared.view.KnownWord.{KnownWord}
use Rattle.store_model.specs.declared.view.Place.{Place}
use Rattle.store_model.specs.declared.view.Place.TheVariants.{InUse, Bucket, RowWord}
use Rattle.store_model.specs.Words.{row_at}
use Rattle.store_model.specs.Calls.{IsOver, words_of, bucket}
use Rattle.store_model.specs.Machine.{Each, In}
use Rattle.store_model.specs.Meaning as meaning
use Rattle.store_model.specs.Meaning.{Meaning, Linked, grown}
use Rattle.store_model.specs.Seats.{Lacks as Misses, Walked, IsKnown}
use Rattle.store_model.specs.Invariant.{ChainsHold, names_of}
use Rattle.store_model.specs.ByView.{KnowsWord}
use Rattle.store_model.proofs.Basics.{each_in}
use Rattle.store_model.proofs.Chains.{linked_once}
use Rattle.store_model.proofs.Histories.{spelled_once, held_live, live_held, trees_named}
use Rattle.store_model.proofs.Publishes.{content_is}
use Rattle.node_rows.specs.Knowing.{KnowsRow, KnowsTree, KnowsTrees}

abbrev content : Head → List ℕ → Content
content f rs = record { head = f; arguments = rs }

-- a known word is that of a live row
pub record Stands (w : Place → ℕ) (m : Meaning) (r k n : ℕ) : Type 0 where
  pub live : m.live r ≡ true
  pub value_is : w (RowWord r k) ≡ n

pub word_stands : (w : Place → ℕ) (m : Meaning) (r k n : ℕ) (ks : List KnownWord) → Each (IsKnown w m) ks → KnowsWord r k n ks → Stands w m r k n
word_stands w m r k n [] h e = absurd e
word_stands w m r k n (x ∷ xs) h e = ⊎_elim
    (λ (t : (x.row ≡ r) × (x.word ≡ k) × (x.value ≡ n)). record {
      live = subst (λ (q : ℕ). m.live q ≡ true) t.0 h.0.live;
      value_is = ap (λ (q : ℕ). w (RowWord q k)) (sym t.0) ∙ (ap (λ (q : ℕ). w (RowWord x.row q)) (sym t.1) ∙ (h.0.value_is ∙ t.2));
    })
    (λ t. word_stands w m r k n xs h.1 t) e

some_words : (f : Head) (rs : List ℕ) → 0 < length (spelled f rs)
some_words (App s) rs = omega arith
some_words (Int n) rs = omega arith
some_words Nil rs = omega arith
some_words Cons rs = omega arith

-- the first word is below the number past all heads
first_word : (f : Head) (rs : List ℕ) → IsOver f rs → get_or (spelled f rs) 0 0 ≤ 4294967298
first_word (App s) rs o = omega (arith, o)
first_word (Int n) rs o = omega arith
first_word Nil rs o = omega arith
first_word Cons rs o = omega arith

module _ (z : Sizes) (w : Place → ℕ) (m : Meaning) (h : ChainsHold z w m) (ks : List KnownWord) (known : Each (IsKnown w m) ks) where
  pub word_once : (r k a b : ℕ) → KnowsWord r k a ks → KnowsWord r k b ks → a ≡ b
  word_once r k a b p q = sym (word_stands w m r k a ks known p).value_is ∙ (word_stands w m r k b ks known q).value_is

  pub head_word : (r n : ℕ) → KnowsWord r 0 n ks → n ≤ 4294967298
  head_word r n p =
      let s = word_stands w m r 0 n ks known p in
      let c : Content = m.content r in
      let is : w (RowWord r 0) ≡ get_or (words_of c) 0 0 = h.words r s.live 0 (some_words c.head c.arguments) in
      subst (λ (q : ℕ). q ≤ 4294967298) (sym is ∙ s.value_is) (first_word c.head c.arguments (h.over r s.live))

  -- a row whose words it knows is live, and has that content
  pub record IsRow (r : ℕ) (f : Head) (rs : List ℕ) : Type 0 where
    pub live : m.live r ≡ true
    pub content_is : m.content r ≡ content f rs

  row_is : (r : ℕ) (f : Head) (rs : List ℕ) → KnowsRow ks r f rs → IsRow r f rs
  row_is r f rs k =
      let first = word_stands w m r 0 (get_or (spelled f rs) 0 0) ks known (k.words 0 (some_words f rs)) in
      let c : Content = m.content r in
      record {
        live = first.live;
        content_is = spelled_once c.head f c.arguments rs (h.over r first.live) k.over
            (λ j a b. sym (h.words r first.live j a) ∙ (word_stands w m r j (get_or (spelled f rs) j 0) ks known (k.words j b)).value_is);
      }

  -- a known tree is that of the row
  pub record IsTree (r : ℕ) (t : Tree) : Type 0 where
    pub live : m.live r ≡ true
    pub tree_is : m.tree r ≡ t

  mutual
    pub tree_is : (t : Tree) (r : ℕ) → KnowsTree ks r t → IsTree r t
    tree_is (Leaf x) r k = absurd k
    tree_is (Node f ts) r k =
        let row = row_is r f k.0 k.1 in
        record {
          live = row.live;
          tree_is = h.trees r row.live ∙ (ap (grown m.tree) row.content_is ∙ ap (Node f) (trees_are ts k.0 k.2));
        }

    pub trees_are : (ts : Trees) (rs : List ℕ) → KnowsTrees ks rs ts → meaning.trees_at m.tree rs ≡ ts
    trees_are End [] k = refl
    trees_are (More t ts) [] k = absurd k
    trees_are End (r ∷ rs) k = absurd k
    trees_are (More t ts) (r ∷ rs) k = ap₂ More (tree_is t r k.0).tree_is (trees_are ts rs k.1)

  pub tree_once : (r q : ℕ) (t : Tree) → KnowsTree ks r t → KnowsTree ks q t → r ≡ q
  tree_once r q t a b =
      let p = tree_is t r a in
      let o = tree_is t q b in
      h.differ r q p.live o.live (p.tree_is ∙ sym o.tree_is)

module _ (z : Sizes) (w : Place → ℕ) (m : Meaning) (h : ChainsHold z w m) (c : Content) (wants : Each (λ r. m.live r ≡ true) c.arguments) where
  -- where the chain from the present head was walked and misses c, no live row has its tree
  none_has : (from n : ℕ) → Walked (row_at w) (m.chain (bucket c (w InUse))) c from n → w (Bucket (bucket c (w InUse))) ≡ from → (q : ℕ) → m.live q ≡ true → m.tree q ≢ grown m.tree c
  none_has from n walk head q l is =
      let b : ℕ = bucket c (w InUse) in
      let settled : Each (Misses (row_at w) c) (m.chain b) = subst (Each (Misses (row_at w) c)) (linked_once (row_at w) from walk.settled (m.chain b) walk.to_settled (subst (λ (k : ℕ). Linked (row_at w) k (m.chain b)) head (h.linked b))) walk.settled_lack in
      let contents : m.content q ≡ c = content_is z w m h c wants q l is in
      each_in (Misses (row_at w) c) q (m.chain b) settled (subst (λ (k : Content). In q (m.chain (bucket k (w InUse)))) contents (h.present q l)) (subst (meaning.Matches (row_at w q)) contents (h.words q l))

  -- so no name has it
  pub names_lack : (from n : ℕ) → Walked (row_at w) (m.chain (bucket c (w InUse))) c from n → w (Bucket (bucket c (w InUse))) ≡ from → Lacks (names_of m) (tree_over (names_of m) c.head c.arguments)
  names_lack from n walk head q held =
      let t : Tree = tree_over (names_of m) c.head c.arguments in
      let live : m.live q ≡ true = held_live m q (t, held) in
      let same : names_of m q ≡ Some (m.tree q) = live_held m q live in
      let is : m.tree q ≡ t = cc in
      none_has from n walk head q live (is ∙ ap (Node c.head) (trees_named m c.arguments wants))
