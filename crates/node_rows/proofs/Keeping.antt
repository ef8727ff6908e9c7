-- What a pass is led to stays.
use Rattle.std.proofs.Common.{◌≢◌, ℕ, suc, ◌<◌, List, [], ◌∷◌, length, get_or, sym, subst, arith}
use Rattle.term_model.specs.Tree.{Tree, Leaf, Node, Trees, End, More}
use Rattle.hash_buckets.specs.Spelled.{spelled}
use Rattle.store_model.specs.declared.view.View.{View}
use Rattle.store_model.specs.declared.view.KnownWord.{KnownWord}
use Rattle.store_model.specs.Machine.{Each, In, protected_in, rows_kept, words_kept, based, ready}
use Rattle.store_model.specs.Collection.{collected}
use Rattle.store_model.specs.ByView.{KnowsWord}
use Rattle.store_model.specs.Leading.{LeadsTo, leads_first, leads_on}
use Rattle.store_model.proofs.Gains.{two_words, enough_words}
use Rattle.store_model.proofs.ByWords.{spelled_at}
use Rattle.store_model.proofs.Leading.{among_in, led_in, words_in, entry_keeps}
use Rattle.node_rows.specs.Knowing.{KnowsTree, KnowsTrees}
use Rattle.node_rows.specs.Keeping.{IsLedTo, KeepsLed, LedToArguments}

each_at : (P : ℕ → Type 0) (rs : List ℕ) → ((k : ℕ) → k < length rs → P (get_or rs k 0)) → Each P rs
each_at P [] f = tt
each_at P (r ∷ rs) f = (f 0 (omega arith), each_at P rs (λ k l. f (suc k) (omega (arith, l))))

pub led_to_arguments : LedToArguments
led_to_arguments v r f rs led row = each_at (IsLedTo v) rs (λ k l.
    let at = spelled_at f rs k row.over l in
    let count = row.words 1 (two_words f rs) in
    let word = row.words (suc (suc k)) (enough_words f rs k row.over at.0) in
    leads_on r (get_or (spelled f rs) 1 0) k (get_or rs k 0) led count at.0 (subst (λ (n : ℕ). KnowsWord r (suc (suc k)) n v.knows) at.1 word))

module _ (v : View) where
  word_stays : (r k n : ℕ) → IsLedTo v r → KnowsWord r k n v.knows → KnowsWord r k n (words_kept v)
  word_stays r k n led h = words_in (rows_kept v) r k n v.knows (led_in v.knows (protected_in v) r led) h

  mutual
    tree_stays : (t : Tree) (r : ℕ) → IsLedTo v r → KnowsTree v.knows r t → KnowsTree (words_kept v) r t
    tree_stays (Leaf x) r led h = absurd h
    tree_stays (Node f ts) r led h = (
      h.0,
      record { over = h.1.over; words = λ k l. word_stays r k (get_or (spelled f h.0) k 0) led (h.1.words k l) },
      trees_stay ts h.0 (led_to_arguments v r f h.0 led h.1) h.2,
    )

    trees_stay : (ts : Trees) (rs : List ℕ) → Each (IsLedTo v) rs → KnowsTrees v.knows rs ts → KnowsTrees (words_kept v) rs ts
    trees_stay End [] led h = tt
    trees_stay (More t ts) [] led h = absurd h
    trees_stay End (r ∷ rs) led h = absurd h
    trees_stay (More t ts) (r ∷ rs) led h = (tree_stays t r led.0 h.0, trees_stay ts rs led.1 h.1)

  leads_still : (r : ℕ) → IsLedTo v r → LeadsTo (words_kept v) (protected_in v) r
  leads_still r (leads_first _ i) = leads_first r i
  leads_still a (leads_on r n k _ l count below argument) = leads_on r n k a (leads_still r l) (word_stays r 1 n l count) below (word_stays r (suc (suc k)) a l argument)

  uses_led : (r : ℕ) → IsLedTo v r → In r (rows_kept v)
  uses_led r led = among_in r (rows_kept v) (led_in v.knows (protected_in v) r led)

  pub entry_keeps_led : (base in_use : ℕ) → base ≢ v.base → KeepsLed v (ready (based v base) in_use)
  entry_keeps_led base in_use ne = let e = (entry_keeps v base).0 ne in record {
    uses = λ r led. subst (In r) (sym e.0) (uses_led r led);
    trees = λ r t led h. subst (λ (ks : List KnownWord). KnowsTree ks r t) (sym e.1) (tree_stays t r led h);
    leads = λ r led. subst (λ (ks : List KnownWord). LeadsTo ks (protected_in v) r) (sym e.1) (leads_still r led);
  }

  pub collection_keeps_led : (base number in_use : ℕ) (kept : List ℕ) → KeepsLed v (collected v base number in_use kept)
  collection_keeps_led base number in_use kept = record { uses = uses_led; trees = λ r t led h. tree_stays t r led h; leads = leads_still }
