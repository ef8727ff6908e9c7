-- What a desk knows of a row before it reads it.
use Rattle.std.proofs.Common.{◌≡◌, ℕ, suc, ◌<◌, Bool, List, [], ◌∷◌, length, get_or, refl, sym, ap, ◌∙◌, subst, arith}
use Rattle.term_model.specs.declared.Head.{Head}
use Rattle.term_model.specs.declared.Head.TheVariants.{App, Int, Nil, Cons}
use Rattle.term_model.specs.Tree.{Tree, Leaf, Node, Trees, End, More, arguments, list_of}
use Rattle.hash_buckets.specs.Spelled.{spelled}
use Rattle.store_model.specs.declared.view.KnownWord.{KnownWord}
use Rattle.store_model.specs.declared.view.View.{View}
use Rattle.store_model.specs.Calls.{IsOver}
use Rattle.store_model.specs.ByView.{KnowsWord}
use Rattle.node_rows.specs.Knowing.{KnowsTree, KnowsTrees}
use Rattle.term_create.specs.Read.{HasArgument}
use Rattle.terms_api.specs.Terms.{IsHeld, tree_at}
use Rattle.terms_api.proofs.Callers.{tree_at-has, has-held}
use Rattle.shared_desk.specs.Held.{tree_in, Has, IsWhole}
use Rattle.shared_desk.specs.Pass.{WhichStore, WhichPass, own}
use Rattle.shared_desk.specs.Seen.{row_of, seen}
use Rattle.shared_desk.proofs.Views.{has_tree, tree_has}

two_words : (f : Head) (rs : List ℕ) → 1 < length (spelled f rs)
two_words (App s) rs = omega arith
two_words (Int n) rs = omega arith
two_words Nil rs = omega arith
two_words Cons rs = omega arith

-- the second word is how many arguments there are
counted : (f : Head) (rs : List ℕ) → IsOver f rs → get_or (spelled f rs) 1 0 ≡ length rs
counted (App s) rs o = refl
counted (Int n) rs o = sym (ap (λ (xs : List ℕ). length xs) o)
counted Nil rs o = sym (ap (λ (xs : List ℕ). length xs) o)
counted Cons rs o = sym o

trees_long : (ks : List KnownWord) (ts : Trees) (rs : List ℕ) → KnowsTrees ks rs ts → length (list_of ts) ≡ length rs
trees_long ks End [] h = refl
trees_long ks (More t ts) [] h = absurd h
trees_long ks End (r ∷ rs) h = absurd h
trees_long ks (More t ts) (r ∷ rs) h = ap suc (trees_long ks ts rs h.1)

count_known : (ks : List KnownWord) (t : Tree) (r : ℕ) → KnowsTree ks r t → KnowsWord r 1 (length (arguments t)) ks
count_known ks (Leaf x) r h = absurd h
count_known ks (Node f ts) r h = subst (λ (n : ℕ). KnowsWord r 1 n ks) (counted f h.0 h.1.over ∙ sym (trees_long ks ts h.0 h.2)) (h.1.words 1 (two_words f h.0))

module _ (st : WhichStore) (seat : WhichPass) (a b : Bool) (crowd : List Tree) (v : View) (h : IsWhole st.sizes v) (r : ℕ) (held : IsHeld (own (seen st seat a b crowd v)) (row_of r)) where
  pub held_on : Has v r
  held_on = (tree_has st seat a b crowd v h (row_of r) (tree_at (own (seen st seat a b crowd v)) (row_of r)) (has-held (own (seen st seat a b crowd v)) (row_of r) held)).0

  pub tree_is : tree_at (own (seen st seat a b crowd v)) (row_of r) ≡ tree_in v r
  tree_is = tree_at-has (own (seen st seat a b crowd v)) (row_of r) (tree_in v r) (has_tree st seat a b crowd v h (row_of r) held_on)

  -- its count of arguments is known
  pub has_argument : (j : ℕ) → j < length (arguments (tree_at (own (seen st seat a b crowd v)) (row_of r))) → HasArgument v.knows r j
  has_argument j lt =
      let o = h.rows r held_on in
      let e = ap (λ (t : Tree). length (arguments t)) tree_is in
      record {
        count = length (arguments (tree_in v r));
        known = count_known v.knows (tree_in v r) r o.known;
        below = omega (arith, lt, e);
      }
