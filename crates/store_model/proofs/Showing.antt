-- A step that the own view shows is permitted.
use Rattle.std.proofs.Common.{Bool, Option, cond, ◌≡◌, ◌≢◌, ℕ, Some, List, [], ◌∷◌, get_or, refl, sym, ap, ◌∙◌, subst, ⊎_elim, inl, inr, arith, true, false}
use Rattle.term_model.specs.declared.Head.{Head}
use Rattle.term_model.specs.declared.Head.TheVariants.{App, Int, Nil, Cons}
use Rattle.store_model.specs.Words.{Place, same_place, Base, FreeCount, Claim, InUse, FreePlace, Bucket, RowWord, Birth, Next, RootCount, Root}
use Rattle.store_model.specs.Calls.{Call, Loading, Storing, Away, Ready, KnownWord}
use Rattle.store_model.specs.Machine.{Sizes, State, Each, In, Step, LockAlone, LowerShared, UnaskSeat, GiveGranted, LoadBase, LoadInUse, Begin, Go, LoadRoot, StoreRoot, StoreCount, ReadWord, ReadArgument, LoadAny, StoreAny, StoreClaim, MayName, has_got, SecondIsList}
use Rattle.store_model.specs.Meaning.{Meaning}
use Rattle.store_model.specs.Seats.{IsKnown}
use Rattle.store_model.specs.Steps.{stores, stored_over, loads, value_at, is_storing, is_collecting, IsWhole, IsAtRest, MayStore, Permits, CoreHolds}
use Rattle.store_model.specs.StoreHolds.{StoreHolds}
use Rattle.store_model.specs.ByView.{KnowsWord, KnowsSecond, IsLoaded, HasAll, StoresNext, Shows, LockGrants, ViewShows, KnownWordsStand, seen_at, CollectionSees}
use Rattle.store_model.proofs.Basics.{each_map}
use Rattle.store_model.proofs.Locks.{is_in}
use Rattle.store_model.proofs.Wrapped.{words_kept}
use Rattle.store_model.proofs.ByWords.{value_is}
use Rattle.store_model.proofs.CollectsKept.{words_still}
use Rattle.store_model.proofs.Eight.{core_of}

word_is : (w : Place → ℕ) (m : Meaning) (r k n : ℕ) (ks : List KnownWord) → Each (IsKnown w m) ks → KnowsWord r k n ks → w (RowWord r k) ≡ n
word_is w m r k n [] h e = absurd e
word_is w m r k n (x ∷ xs) h e = ⊎_elim
    (λ (t : (x.row ≡ r) × (x.word ≡ k) × (x.value ≡ n)). ap (λ (q : ℕ). w (RowWord q k)) (sym t.0) ∙ (ap (λ (q : ℕ). w (RowWord x.row q)) (sym t.1) ∙ (h.0.value_is ∙ t.2)))
    (λ t. word_is w m r k n xs h.1 t) e

second_is : (w : Place → ℕ) (m : Meaning) (ks : List KnownWord) → Each (IsKnown w m) ks → (f : Head) (rs : List ℕ) → KnowsSecond ks f rs → SecondIsList w f rs
second_is w m ks h Cons (a ∷ b ∷ rs) k = ⊎_elim (λ e. inl (word_is w m b 0 4294967297 ks h e)) (λ e. inr (word_is w m b 0 4294967298 ks h e)) k
second_is w m ks h Cons [] k = tt
second_is w m ks h Cons (a ∷ []) k = tt
second_is w m ks h (App f) rs k = tt
second_is w m ks h (Int v) rs k = tt
second_is w m ks h Nil rs k = tt

there : (w : Place → ℕ) (p : Place) (ls : List (Place × ℕ)) → Each (λ q. w q.0 ≡ q.1) ls → IsLoaded p ls → value_at p ls ≡ Some (w p)
there w p ls h e = e.1 ∙ ap Some (sym (value_is w p e.0 ls h e.1))

whole : (z : Sizes) (w : Place → ℕ) (ls : List (Place × ℕ)) → Each (λ q. w q.0 ≡ q.1) ls → HasAll z ls → IsWhole z w ls
whole z w ls h a =
    let count = there w FreeCount ls h a.count in record {
      base = there w Base ls h a.base;
      claim = there w Claim ls h a.claim;
      count = count;
      in_use = there w InUse ls h a.in_use;
      places = λ i l. there w (FreePlace i) ls h (a.places i (w FreeCount) count l);
      buckets = λ b l. there w (Bucket b) ls h (a.buckets b l);
      row_words = λ r k l q. there w (RowWord r k) ls h (a.row_words r k l q);
      births = λ r l. there w (Birth r) ls h (a.births r l);
      nexts = λ r l. there w (Next r) ls h (a.nexts r l);
      root_counts = λ j l. there w (RootCount j) ls h (a.root_counts j l);
      roots = λ j k l q. there w (Root j k) ls h (a.roots j k (w (RootCount j)) l (there w (RootCount j) ls h (a.root_counts j l)) q);
    }

module _ (z : Sizes) (s : State) (i : ℕ) (k : StoreHolds z s) where
  abbrev core : CoreHolds z s
  core = core_of z s k

  module _ (rest : IsAtRest (s.view i)) where
    inside : (s.view i).stay ≢ Away
    inside f = let a : Away ≡ Ready = sym f ∙ rest.stay in absurd (cc)

    same : s.words ≡ k.began
    same = words_kept z s core i (is_in s.lock i (s.view i).stay (core.holds.lock.access i) inside) (ap is_collecting rest.call)

    knows : Each (IsKnown s.words k.meaning) (s.view i).knows
    knows = subst (λ (w : Place → ℕ). Each (IsKnown w k.meaning) (s.view i).knows) (sym same) (k.protected.knows i (k.numbers.base i inside))

    names : (r : ℕ) → In r (s.view i).got → MayName s.words i (s.view i) r
    names r g = has_got r g

  may_store : (x : Call) → (s.view i).call ≡ x → StoresNext z x → MayStore z s.words x
  may_store (Loading ls) e all =
      let alone = k.collection.alone i (ap is_collecting e) in
      let still : s.words ≡ k.began = words_still z s core i alone (ap is_storing e) in
      let loaded : Each (λ (q : Place × ℕ). k.began q.0 ≡ q.1) ls = subst (λ (y : Call). Each (λ (q : Place × ℕ). k.began q.0 ≡ q.1) (loads y)) e (k.collection.loaded i) in
      whole z s.words ls (subst (λ (w : Place → ℕ). Each (λ (q : Place × ℕ). w q.0 ≡ q.1) ls) (sym still) loaded) all
  may_store (Storing ls ss) e all = tt
  may_store x e all = absurd all

  shown : (x : Step) → Shows z (s.view i) x → LockGrants s i x → Permits z s i x
  shown (Begin c) h l = (h.0, l, record { few = h.1; second = second_is s.words k.meaning (s.view i).knows (knows h.0) c.head c.arguments h.3; over = h.2; named = each_map (λ r. In r (s.view i).got) (MayName s.words i (s.view i)) c.arguments (names h.0) h.4 })
  shown Go h l = h
  shown (LoadRoot q) h l = h
  shown (StoreRoot q r) h l = (h.0, h.1, names h.0 r h.2)
  shown (StoreCount n) h l = (h.0, h.1, λ q less. ⊎_elim inl (λ g. inr (subst (MayName s.words i (s.view i)) (sym ((k.strengthened.remembers.own i).root q (let a = h.1 in omega arith))) (names h.0 (get_or (s.view i).roots q 0) g))) (h.2 q less))
  shown (ReadWord r q) h l = (h.0, ⊎_elim inl (λ (t : (q ≡ 2) × KnowsWord r 0 4294967296 (s.view i).knows). inr (t.0, word_is s.words k.meaning r 0 4294967296 (s.view i).knows (knows h.0) t.1)) h.1, names h.0 r h.2)
  shown (ReadArgument r j) h l = (h.0, (let e = word_is s.words k.meaning r 1 h.1.0 (s.view i).knows (knows h.0) h.1.1 in let a = h.1.2 in omega arith), names h.0 r h.2)
  shown (LoadAny p) h l = (h.0, h.1, l, h.2, h.3, h.4)
  shown (StoreAny p n) h l = (may_store (s.view i).call refl h.0, h.1, h.2)
  shown (LockAlone x) h l = absurd h
  shown LowerShared h l = absurd h
  shown (UnaskSeat q) h l = absurd h
  shown GiveGranted h l = absurd h
  shown LoadBase h l = absurd h
  shown LoadInUse h l = absurd h
  shown StoreClaim h l = absurd h

pub view_shows : ViewShows
view_shows z s i x k h l = shown z s i k x h l

pub known_words_stand : KnownWordsStand
known_words_stand z s i r k n h rest e = word_is s.words h.meaning r k n (s.view i).knows (knows z s i h rest) e

choose_two : (b : Bool) (x y : ℕ) (o : Option ℕ) (n : ℕ) → (o ≡ Some n → y ≡ n) → cond b (Some x) o ≡ Some n → cond b x y ≡ n
choose_two true x y o n f e = cc
choose_two false x y o n f e = f e

seen_word : (w : Place → ℕ) (p : Place) (n : ℕ) (ls ss : List (Place × ℕ)) → Each (λ q. w q.0 ≡ q.1) ls → seen_at p ls ss ≡ Some n → stored_over w ss p ≡ n
seen_word w p n ls [] h e = value_is w p n ls h e
seen_word w p n ls (x ∷ ss) h e = choose_two (same_place p x.0) x.1 (stored_over w ss p) (seen_at p ls ss) n (seen_word w p n ls ss h) e

pub collection_sees : CollectionSees
collection_sees z s i p n k storing e = ap (λ (w : Place → ℕ). w p) (k.collection.present i storing) ∙ seen_word k.began p n (loads (s.view i).call) (stores (s.view i).call) (k.collection.loaded i) e
