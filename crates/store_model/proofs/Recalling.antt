-- Which rows a seat recalls: those that it may name, and those that it keeps where its epoch ends.
use Rattle.std.proofs.Common.{◌≡◌, ℕ, suc, ◌<◌, true, Some, List, [], ◌∷◌, get_or, sym, ap, ◌∙◌, subst, ⊎_elim, arith}
use Rattle.std.specs.Prelude.{Contains}
use Rattle.term_model.specs.Tree.{Tree, list_of}
use Rattle.term_model.specs.Laws.{IsSubtree}
use Rattle.term_model.proofs.Subtrees.{arguments_are_subtrees}
use Rattle.history_core.specs.TermSet.{Names, Holds}
use Rattle.history_core.proofs.Members.{contains_here, contains_there}
use Rattle.history_core.proofs.Sound.{some_same}
use Rattle.store_model.specs.Words.{Birth, RootCount, Root, RowWord, row_at}
use Rattle.store_model.specs.Calls.{Content, words_of, View}
use Rattle.store_model.specs.Machine.{Sizes, State, Each, In, MayName, has_got, has_protected, has_argument, protected_in, rows_kept, words_kept}
use Rattle.store_model.specs.Meaning as meaning
use Rattle.store_model.specs.Meaning.{Meaning, IsOlder, grown}
use Rattle.store_model.specs.Seats.{IsKnown}
use Rattle.store_model.specs.Invariant.{listed, names_of, Holds as StateHolds}
use Rattle.store_model.specs.Recalls.{IsRecalled, held_in}
use Rattle.store_model.proofs.Basics.{each_in}
use Rattle.store_model.proofs.Gains.{two_words, enough_words, argument_at}
use Rattle.store_model.proofs.Histories.{held_live, live_held}
use Rattle.store_model.proofs.Staying.{led_has, goes_on, in_rows}
use Rattle.store_model.proofs.Recalled.{inner_recalled}

in_trees : (tree : ℕ → Tree) (a : ℕ) (rs : List ℕ) → In a rs → Contains (list_of (meaning.trees_at tree rs)) (tree a)
in_trees tree a [] i = absurd i
in_trees tree a (r ∷ rs) i = ⊎_elim
    (λ e. subst (λ (b : ℕ). Contains (tree r ∷ list_of (meaning.trees_at tree rs)) (tree b)) (sym e) (contains_here (tree r) (list_of (meaning.trees_at tree rs))))
    (λ k. contains_there (tree r) (list_of (meaning.trees_at tree rs)) (tree a) (in_trees tree a rs k)) i

module _ (z : Sizes) (s : State) (m : Meaning) (h : StateHolds z s m) (tree : ℕ → Tree) where
  abbrev held : Names
  held = held_in (listed z.seats (λ j. (s.view j).entries))

  held_is : (r : ℕ) → held_in (listed z.seats (λ j. (s.view j).entries)) r ≡ names_of m r
  held_is r = ap (λ (f : Names). f r) h.history.pairs

  -- a recalled row is live, and its tree is that which it means
  means_tree : (r : ℕ) → IsRecalled held tree r → (m.live r ≡ true) × (tree r ≡ m.tree r)
  means_tree r k =
      let at : names_of m r ≡ Some (tree r) = sym (held_is r) ∙ k.own in
      let live = held_live m r (tree r, at) in
      (live, some_same (tree r) (m.tree r) (sym at ∙ live_held m r live))

  pub argument_recalled : (r k : ℕ) → IsRecalled held tree r → k < s.words (RowWord r 1) → IsRecalled held tree (s.words (RowWord r (suc (suc k))))
  argument_recalled r k above l =
      let is_so = means_tree r above in
      let live = is_so.0 in
      let c : Content = m.content r in
      let over = h.chains.over r live in
      let count : s.words (RowWord r 1) ≡ get_or (words_of c) 1 0 = h.chains.words r live 1 (two_words c.head c.arguments) in
      let below : k < get_or (words_of c) 1 0 = omega arith in
      let a : ℕ = get_or (words_of c) (suc (suc k)) 0 in
      let is : s.words (RowWord r (suc (suc k))) ≡ a = h.chains.words r live (suc (suc k)) (enough_words c.head c.arguments k over below) in
      let among : In a c.arguments = argument_at c.head c.arguments k over below in
      let old = each_in (IsOlder m.live (row_at s.words) (s.words (Birth r))) a c.arguments (h.chains.arguments r live) among in
      let at : Holds held a (m.tree a) = held_is a ∙ live_held m a old.live in
      let inside : IsSubtree (m.tree a) (tree r) = subst (IsSubtree (m.tree a)) (sym (is_so.1 ∙ h.chains.trees r live)) (arguments_are_subtrees (grown m.tree c) (m.tree a) (in_trees m.tree a c.arguments among)) in
      subst (IsRecalled held tree) (sym is) (inner_recalled held tree r a (m.tree a) above at inside)

  pub named_recalled : (i : ℕ) (v : View) → ((k : ℕ) → k < s.words (RootCount i) → IsRecalled held tree (s.words (Root i k))) → Each (IsRecalled held tree) v.got → (r : ℕ) → MayName s.words i v r → IsRecalled held tree r
  named_recalled i v roots got r (has_got _ k) = each_in (IsRecalled held tree) r v.got got k
  named_recalled i v roots got r (has_protected k l) = roots k l
  named_recalled i v roots got a (has_argument r k n l) = argument_recalled r k (named_recalled i v roots got r n) l

  pub kept_recalled : (v : View) → Each (IsKnown s.words m) (words_kept v) → Each (IsRecalled held tree) (protected_in v) → Each (IsRecalled held tree) (rows_kept v)
  kept_recalled v known there = led_has (IsRecalled held tree) v.knows (protected_in v)
      (goes_on s.words m v.knows (rows_kept v) (IsRecalled held tree) (λ r j _ k l. argument_recalled r j k l) (in_rows (IsKnown s.words m) (rows_kept v) v.knows known)) there
