-- The words that a collection has loaded are sound: what its rows that are reached say.
use Rattle.std.proofs.Common.{◌≡◌, ◌⊎◌, ℕ, suc, ◌+◌, ◌<◌, ◌≤◌, true, Option, None, Some, List, length, get_or, refl, sym, ap, ◌∙◌, subst, ⊎_elim, inl, inr, arith}
use Rattle.std.proofs.lemmas.Bool.{cases_lt}
use Rattle.term_model.specs.declared.Head.{Head}
use Rattle.term_model.specs.declared.Head.TheVariants.{App, Int, Nil, Cons}
use Rattle.hash_buckets.specs.Spelled.{spelled}
use Rattle.atomic_table.specs.declared.shared.Seat.{Seat}
use Rattle.store_model.specs.declared.view.Sizes.{Sizes}
use Rattle.store_model.specs.declared.view.View.{View}
use Rattle.store_model.specs.declared.view.Content.{Content}
use Rattle.store_model.specs.declared.view.Place.{Place}
use Rattle.store_model.specs.declared.view.Place.TheVariants.{InUse, Bucket, RowWord, Birth, RootCount, Root}
use Rattle.store_model.specs.declared.view.Call.TheVariants.{Loading}
use Rattle.store_model.specs.Words.{row_at}
use Rattle.store_model.specs.Calls.{words_of, IsOver}
use Rattle.store_model.specs.Machine.{State, widest}
use Rattle.store_model.specs.Meaning.{IsOlder, Linked}
use Rattle.store_model.specs.Invariant.{Holds}
use Rattle.store_model.specs.MarkedChains.{HasContent}
use Rattle.store_model.specs.Steps.{loads, value_at, ReachesByWords, protected_row, argument_row}
use Rattle.store_model.specs.ByView.{IsLoaded, HasAll}
use Rattle.store_model.specs.StoreHolds.{StoreHolds}
use Rattle.store_model.proofs.Basics.{each_in}
use Rattle.store_model.proofs.Gains.{argument_at, two_words, enough_words}
use Rattle.node_rows.specs.Collecting.{or_zero, HasStore}
use Rattle.node_rows.specs.declared.view.NodeView.{NodeView}
use Rattle.row_sweep.specs.declared.sweep.Sweep.{Sweep}
use Rattle.row_sweep.specs.Loaded.{found, FitsRows}
use Rattle.row_sweep.specs.Gathered.{sizes_of, loads_of, HasGathered}
use Rattle.row_sweep.proofs.Stands.{still, there, in_use_is}

-- the length of a content's words, by its count
pub spelled_count : (f : Head) (rs : List ℕ) → IsOver f rs → length rs ≡ get_or (spelled f rs) 1 0
spelled_count (App f) rs o = refl
spelled_count (Int v) rs o = ap length o
spelled_count Nil rs o = ap length o
spelled_count Cons rs o = o

pub spelled_few : (f : Head) (rs : List ℕ) (N : ℕ) → 2 ≤ N → length rs ≤ N → length (spelled f rs) ≤ N + 2
spelled_few (App f) rs N two few = omega arith
spelled_few (Int v) rs N two few = omega arith
spelled_few Nil rs N two few = omega arith
spelled_few Cons rs N two few = omega arith

module _ (z : Sizes) (i : ℕ) (v : View) (ls : List (Place × ℕ)) (call : v.call ≡ Loading ls) (h : HasStore z i v) (all : HasAll z ls) (fits : FitsRows z) where
  abbrev s : State
  s = h.store

  abbrev k : StoreHolds z h.store
  k = h.holds

  abbrev w : Place → ℕ
  w = found ls

  began_is : (p : Place) → k.began p ≡ s.words p
  began_is p = ap (λ (u : Place → ℕ). u p) (sym (still z i v ls call h))

  -- a loaded word is there
  pub word_is : (p : Place) → IsLoaded p ls → w p ≡ s.words p
  word_is p l = ap or_zero l.1 ∙ sym (there z i v ls call h p l.0 l.1)

  pub began_word : (p : Place) → IsLoaded p ls → w p ≡ k.began p
  began_word p l = word_is p l ∙ sym (began_is p)

  word_cases : (p : Place) (o : Option ℕ) → value_at p ls ≡ o → (w p ≡ 0) ⊎ (w p ≡ s.words p)
  word_cases p None e = inl (ap or_zero e)
  word_cases p (Some n) e = inr (word_is p (n, e))

  facts : Holds z (record { lock = s.lock; words = k.began; view = s.view }) k.meaning
  facts = k.strengthened.holds

  -- protected rows are those of seats
  pub seat_below : (j q : ℕ) → q < w (RootCount j) → j < z.seats
  seat_below j q l = ⊎_elim (λ less. less) (λ past.
      let none = facts.numbers.absent j past in
      let same = began_is (RootCount j) in
      ⊎_elim (λ e. absurd (omega arith)) (λ e. absurd (omega arith)) (word_cases (RootCount j) (value_at (RootCount j) ls) refl)) (cases_lt j z.seats)

  pub root_loaded : (j q : ℕ) → q < w (RootCount j) → IsLoaded (Root j q) ls
  root_loaded j q l =
      let below = seat_below j q l in
      let count = all.root_counts j below in
      all.roots j q count.0 below count.1 (let e = ap or_zero count.1 in omega arith)

  -- the words of a live row
  module _ (r : ℕ) (live : k.meaning.live r ≡ true) where
    abbrev c : Content
    c = k.meaning.content r

    row_below : r < z.rows
    row_below = facts.chains.below r live

    over : IsOver c.head c.arguments
    over = facts.chains.over r live

    count_is : w (RowWord r 1) ≡ get_or (words_of c) 1 0
    count_is = began_word (RowWord r 1) (all.row_words r 1 row_below (omega arith)) ∙ facts.chains.words r live 1 (two_words c.head c.arguments)

    count_few : w (RowWord r 1) ≤ widest z
    count_few = let a = word_is (RowWord r 1) (all.row_words r 1 row_below (omega arith)) in let b = fits s k r in omega arith

    has_content : HasContent w r c
    has_content = record {
      over = over;
      words = λ q l.
          let n = spelled_count c.head c.arguments over in
          let few = spelled_few c.head c.arguments (widest z) (omega arith) (let a = count_is in let b = count_few in omega arith) in
          began_word (RowWord r q) (all.row_words r q row_below (omega arith)) ∙ facts.chains.words r live q l;
    }

    argument_live : (q : ℕ) → q < w (RowWord r 1) → k.meaning.live (w (RowWord r (suc (suc q)))) ≡ true
    argument_live q l =
        let below : q < get_or (words_of c) 1 0 = (let a = count_is in omega arith) in
        let is : w (RowWord r (suc (suc q))) ≡ get_or (words_of c) (suc (suc q)) 0 =
        began_word (RowWord r (suc (suc q))) (all.row_words r (suc (suc q)) row_below (let a = count_few in omega arith)) ∙ facts.chains.words r live (suc (suc q)) (enough_words c.head c.arguments q over below) in
        let a = each_in (IsOlder k.meaning.live (row_at k.began) (k.began (Birth r))) (get_or (words_of c) (suc (suc q)) 0) c.arguments (facts.chains.arguments r live) (argument_at c.head c.arguments q over below) in
        ap k.meaning.live is ∙ a.live

  -- rows that are reached are live
  pub reached_live : (r : ℕ) → ReachesByWords w r → k.meaning.live r ≡ true
  reached_live r (protected_row j q l) =
      let below = seat_below j q l in
      let count = began_word (RootCount j) (all.root_counts j below) in
      ap k.meaning.live (began_word (Root j q) (root_loaded j q l)) ∙ ((facts.seats j).protects.roots q (omega arith)).live
  reached_live r (argument_row t q y l) = argument_live t (reached_live t y) q l

  pub reached_below : (r : ℕ) → ReachesByWords w r → r < z.rows
  reached_below r y = row_below r (reached_live r y)

  pub reached_few : (r : ℕ) → ReachesByWords w r → w (RowWord r 1) ≤ widest z
  reached_few r y = count_few r (reached_live r y)

  pub reached_content : (r : ℕ) → ReachesByWords w r → (c : Content) × HasContent w r c
  reached_content r y = (k.meaning.content r, has_content r (reached_live r y))

  -- heads past those in use are 0
  pub head_beyond : (b : ℕ) → w InUse ≤ b → b < z.buckets → w (Bucket b) ≡ 0
  head_beyond b past l =
      let uses = began_word InUse all.in_use in
      let none = facts.chains.beyond b (let e = uses in omega arith) in
      began_word (Bucket b) (all.buckets b l) ∙ subst (λ (rs : List ℕ). Linked (row_at k.began) (k.began (Bucket b)) rs) none (facts.chains.linked b)

-- and so those of a collection
module _ (c : Sweep) (a : Seat (Unit {0}) NodeView) (i n : ℕ) (h : HasGathered c a i n) where
  abbrev words : Place → ℕ
  words = found (loads_of a)

  abbrev z : Sizes
  z = sizes_of c

  own : a.me.0.store.call ≡ Loading (loads_of a)
  own = h.gathers.call ∙ ap Loading (sym (ap loads h.gathers.call))

  pub protected_below : (j q : ℕ) → q < words (RootCount j) → j < z.seats
  protected_below = seat_below z i a.me.0.store (loads_of a) own h.gathers.stands h.all c.fits

  pub protected_loaded : (j q : ℕ) → q < words (RootCount j) → IsLoaded (Root j q) (loads_of a)
  protected_loaded = root_loaded z i a.me.0.store (loads_of a) own h.gathers.stands h.all c.fits

  pub row_is_below : (r : ℕ) → ReachesByWords words r → r < z.rows
  row_is_below = reached_below z i a.me.0.store (loads_of a) own h.gathers.stands h.all c.fits

  pub row_counts_few : (r : ℕ) → ReachesByWords words r → words (RowWord r 1) ≤ widest z
  row_counts_few = reached_few z i a.me.0.store (loads_of a) own h.gathers.stands h.all c.fits

  pub row_has_content : (r : ℕ) → ReachesByWords words r → (c : Content) × HasContent words r c
  row_has_content = reached_content z i a.me.0.store (loads_of a) own h.gathers.stands h.all c.fits

  pub no_head_beyond : (b : ℕ) → words InUse ≤ b → b < z.buckets → words (Bucket b) ≡ 0
  no_head_beyond = head_beyond z i a.me.0.store (loads_of a) own h.gathers.stands h.all c.fits

  pub use_is : words InUse ≡ a.me.0.store.in_use
  use_is = let l = h.all.in_use in ap or_zero l.1 ∙ in_use_is z i a.me.0.store (loads_of a) own h.gathers.stands h.gathers.alone.stay l.0 l.1
