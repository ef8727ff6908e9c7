-- A collection that has stored what it worked out may end.
use Rattle.std.proofs.Common.{◌≡◌, ℕ, zero, suc, ◌+◌, ◌<◌, ◌≤◌, Bool, true, false, Option, None, Some, List, [], ◌∷◌, length, get_or, refl, sym, ap, ◌∙◌, subst, ⊎_elim, arith, true≢false}
use Rattle.std.proofs.lemmas.Bool.{cases_lt, le-ltb}
use Rattle.std.proofs.lemmas.List.{get_or_past}
use Rattle.atomic_table.specs.declared.shared.Seat.{Seat}
use Rattle.store_model.specs.declared.view.Sizes.{Sizes}
use Rattle.store_model.specs.declared.view.View.{View}
use Rattle.store_model.specs.declared.view.Content.{Content}
use Rattle.store_model.specs.declared.view.Place.{Place}
use Rattle.store_model.specs.declared.view.Place.TheVariants.{Base, FreeCount, Claim, InUse, FreePlace, Bucket, RowWord, Next, RootCount, Root}
use Rattle.store_model.specs.Words.{row_at, same_place}
use Rattle.store_model.specs.Machine.{State, Each, In, widest}
use Rattle.store_model.specs.Meaning.{Linked}
use Rattle.store_model.specs.Invariant.{Holds}
use Rattle.store_model.specs.Marks.{IsMarked, MarksReached, MarksFree}
use Rattle.store_model.specs.MarkedChains.{HasContent, StandsIn, IsChained, IsNoted, UsesBuckets, ChainsMarked}
use Rattle.store_model.specs.Ending.{Keeps, BaseFollows, UseFollows}
use Rattle.store_model.specs.Shown.{in_table}
use Rattle.store_model.specs.Steps.{loads, stores, stored_over, value_at, is_stored, is_storing, ReachesByWords, protected_row, argument_row, grown_use, MayEnd, CoreHolds}
use Rattle.store_model.specs.ByView.{seen_at, IsLoaded}
use Rattle.store_model.specs.StoreHolds.{StoreHolds}
use Rattle.store_model.proofs.Basics.{choose, each_map, same_is}
use Rattle.store_model.proofs.ByWords.{value_is}
use Rattle.store_model.proofs.Eight.{core_of}
use Rattle.store_model.proofs.Gains.{two_words}
use Rattle.store_model.proofs.Ending.{ends}
use Rattle.store_model.proofs.Showing.{collection_sees}
use Rattle.node_rows.specs.declared.view.NodeView.{NodeView}
use Rattle.node_rows.specs.Collecting.{or_zero, HasSeen, MayEndBy}
use Rattle.row_sweep.specs.declared.sweep.Sweep.{Sweep}
use Rattle.row_sweep.specs.Gathered.{sizes_of, loads_of, words_of}
use Rattle.row_sweep.specs.Chained.{LeadsTo, Belongs}
use Rattle.row_sweep.specs.Turns.{order_for}
use Rattle.row_sweep.specs.Stored.{seen_of, ArePlaced}
use Rattle.row_sweep.specs.Collected.{HasSwept}
use Rattle.row_sweep.proofs.Left.{opposite, opposite_marks, free_marks, count_left}
use Rattle.row_sweep.proofs.Placing.{placed_like}
use Rattle.row_sweep.proofs.Sound.{spelled_count, spelled_few}

-- a word that was loaded is seen
pub loaded_seen : (p : Place) (ls ss : List (Place × ℕ)) → IsLoaded p ls → (n : ℕ) × (seen_at p ls ss ≡ Some n)
loaded_seen p ls [] l = l
loaded_seen p ls (x ∷ ss) l = choose (λ (o : Option ℕ). (n : ℕ) × (o ≡ Some n)) (same_place p x.0) (Some x.1) (seen_at p ls ss) (λ _. (x.1, refl)) (λ _. loaded_seen p ls ss l)

pub inside_marks : (marks : List Bool) (r : ℕ) → IsMarked marks r → r < length marks
inside_marks m r h = ⊎_elim (λ l. l) (λ past. absurd (true≢false (sym h ∙ get_or_past m r false past))) (cases_lt r (length m))

-- a place outside the table isn't stored
stored_outside : (z : Sizes) (w : Place → ℕ) (p : Place) → in_table z p ≡ false → (ss : List (Place × ℕ)) → Each (λ x. in_table z x.0 ≡ true) ss → stored_over w ss p ≡ w p
stored_outside z w p out [] h = refl
stored_outside z w p out (x ∷ ss) h = choose (λ (n : ℕ). n ≡ w p) (same_place p x.0) x.1 (stored_over w ss p)
    (λ same. absurd (true≢false (sym h.0 ∙ (ap (in_table z) (sym (same_is p x.0 same)) ∙ out)))) (λ _. stored_outside z w p out ss h.1)

-- rows that two words reach alike
module _ (w u : Place → ℕ) (counts : (j : ℕ) → w (RootCount j) ≡ u (RootCount j)) (roots : (j q : ℕ) → q < w (RootCount j) → w (Root j q) ≡ u (Root j q))
    (rows : (r : ℕ) → ReachesByWords w r → w (RowWord r 1) ≡ u (RowWord r 1)) (arguments : (r q : ℕ) → ReachesByWords w r → q < w (RowWord r 1) → w (RowWord r (suc (suc q))) ≡ u (RowWord r (suc (suc q)))) where
  pub reach_there : (r : ℕ) → ReachesByWords w r → ReachesByWords u r
  reach_there r (protected_row j q l) = subst (ReachesByWords u) (sym (roots j q l)) (protected_row j q (let a = counts j in omega arith))
  reach_there r (argument_row t q y l) = subst (ReachesByWords u) (sym (arguments t q y l)) (argument_row t q (reach_there t y) (let a = rows t y in omega arith))

  pub reach_back : (r : ℕ) → ReachesByWords u r → ReachesByWords w r
  reach_back r (protected_row j q l) = let m : q < w (RootCount j) = (let a = counts j in omega arith) in subst (ReachesByWords w) (roots j q m) (protected_row j q m)
  reach_back r (argument_row t q y l) =
      let back = reach_back t y in
      let m : q < w (RowWord t 1) = (let a = rows t back in omega arith) in
      subst (ReachesByWords w) (arguments t q back m) (argument_row t q back m)

-- a chain by next words is one by the words of rows
linked_by : (w : Place → ℕ) (next : ℕ → ℕ) (at : ℕ) (rs : List ℕ) → Each (λ r. next r ≡ w (Next r)) rs → LeadsTo next at rs → Linked (row_at w) at rs
linked_by w next at [] e h = h
linked_by w next at (r ∷ rs) e h = (h.0, subst (λ (n : ℕ). Linked (row_at w) n rs) e.0 (linked_by w next (next r) rs e.1 h.1))

each_get : (P : ℕ → Type 0) (xs : List ℕ) (k : ℕ) → Each P xs → k < length xs → P (get_or xs k 0)
each_get P [] k h l = absurd (omega arith)
each_get P (x ∷ xs) zero h l = h.0
each_get P (x ∷ xs) (suc k) h l = each_get P xs k h.1 (omega arith)

in_place : (r : ℕ) (xs : List ℕ) → In r xs → (k : ℕ) × (k < length xs) × (get_or xs k 0 ≡ r)
in_place r [] h = absurd h
in_place r (x ∷ xs) h = ⊎_elim (λ e. (0, omega arith, sym e)) (λ i. let t = in_place r xs i in (suc t.0, (let l = t.1 in omega arith), t.2)) h

module _ (c : Sweep) (a : Seat (Unit {0}) NodeView) (i n : ℕ) (marks : List Bool) (live buckets : ℕ) (h : HasSwept c a i n marks live buckets) where
  abbrev z : Sizes
  z = sizes_of c

  abbrev w : Place → ℕ
  w = words_of a

  seen_loaded : (p : Place) → IsLoaded p (loads_of a) → HasSeen a.me.0.store p
  seen_loaded p l = loaded_seen p (loads_of a) (stores a.me.0.store.call) l

  module _ (s : State) (k : StoreHolds z s) (own : s.view i ≡ a.me.0.store) where
    abbrev u : Place → ℕ
    u = s.words

    abbrev core : CoreHolds z s
    core = core_of z s k

    is_so : is_storing (s.view i).call ≡ true
    is_so = ap (λ (v : View). is_storing v.call) own ∙ h.storing

    sees : (p : Place) → HasSeen a.me.0.store p → u p ≡ seen_of a p
    sees p has =
        let at : seen_at p (loads (s.view i).call) (stores (s.view i).call) ≡ Some has.0 = ap (λ (v : View). seen_at p (loads v.call) (stores v.call)) own ∙ has.1 in
        collection_sees z s i p has.0 k is_so at ∙ sym (ap or_zero has.1)

    facts : Holds z (record { lock = s.lock; words = k.began; view = s.view }) k.meaning
    facts = k.strengthened.holds

    -- what isn't stored is as it was loaded
    still : (p : Place) → is_stored p ≡ false → u p ≡ k.began p
    still = core.under.stored i is_so

    began_loaded : Each (λ (q : Place × ℕ). k.began q.0 ≡ q.1) (loads_of a)
    began_loaded = subst (λ (v : View). Each (λ (q : Place × ℕ). k.began q.0 ≡ q.1) (loads v.call)) own (k.collection.loaded i)

    loaded_is : (p : Place) → IsLoaded p (loads_of a) → w p ≡ k.began p
    loaded_is p l = ap or_zero l.1 ∙ sym (value_is k.began p l.0 (loads_of a) began_loaded l.1)

    kept_is : (p : Place) → is_stored p ≡ false → IsLoaded p (loads_of a) → w p ≡ u p
    kept_is p not l = loaded_is p l ∙ sym (still p not)

    count_cases : (j : ℕ) (o : Option ℕ) → value_at (RootCount j) (loads_of a) ≡ o → z.seats ≤ j → w (RootCount j) ≡ u (RootCount j)
    count_cases j None e past = let none = facts.numbers.absent j past in let same = still (RootCount j) refl in ap or_zero e ∙ sym (same ∙ none)
    count_cases j (Some m) e past = kept_is (RootCount j) refl (m, e)

    counts : (j : ℕ) → w (RootCount j) ≡ u (RootCount j)
    counts j = ⊎_elim (λ l. kept_is (RootCount j) refl (h.stored.all.root_counts j l)) (λ past. count_cases j (value_at (RootCount j) (loads_of a)) refl past) (cases_lt j z.seats)

    roots : (j q : ℕ) → q < w (RootCount j) → w (Root j q) ≡ u (Root j q)
    roots j q l = ⊎_elim
        (λ below. let t = h.stored.all.root_counts j below in kept_is (Root j q) refl (h.stored.all.roots j q t.0 below t.1 (let e = ap or_zero t.1 in omega arith)))
        (λ past. absurd (let none = facts.numbers.absent j past in let same = still (RootCount j) refl in let e = counts j in omega arith)) (cases_lt j z.seats)

    marked_inside : (r : ℕ) → IsMarked marks r → r < z.rows
    marked_inside r m = let l = inside_marks marks r m in let e = h.stored.reached.size in omega arith

    reached_inside : (r : ℕ) → ReachesByWords w r → r < z.rows
    reached_inside r y = marked_inside r ((h.stored.reached.marked r).1 y)

    word_is : (r q : ℕ) → r < z.rows → q < widest z + 2 → w (RowWord r q) ≡ u (RowWord r q)
    word_is r q l m = kept_is (RowWord r q) refl (h.stored.all.row_words r q l m)

    few : (r : ℕ) → r < z.rows → w (RowWord r 1) ≤ widest z
    few r l = let a = word_is r 1 l (omega arith) in let b = c.fits s k r in omega arith

    reached : MarksReached u z.rows marks
    reached =
        let args : (r q : ℕ) → ReachesByWords w r → q < w (RowWord r 1) → w (RowWord r (suc (suc q))) ≡ u (RowWord r (suc (suc q))) = (λ r q y l. let t = reached_inside r y in word_is r (suc (suc q)) t (let f = few r t in omega arith)) in
        let rows : (r : ℕ) → ReachesByWords w r → w (RowWord r 1) ≡ u (RowWord r 1) = (λ r y. word_is r 1 (reached_inside r y) (omega arith)) in record {
          size = h.stored.reached.size;
          marked = λ r. (
            (λ m. reach_there w u counts roots rows args r ((h.stored.reached.marked r).0 m)),
            λ y. (h.stored.reached.marked r).1 (reach_back w u counts roots rows args r y),
          );
        }

    -- the free places
    count_is : u FreeCount ≡ h.count
    count_is = sees FreeCount h.seen_count ∙ h.count_is

    place_is : (q : ℕ) → q < h.count → u (FreePlace q) ≡ seen_of a (FreePlace q)
    place_is q l = sees (FreePlace q) (h.stored.seen_places q l)

    placed : ArePlaced (λ q. u (FreePlace q)) marks z (order_for z live) z.rows (u FreeCount)
    placed = subst (ArePlaced (λ q. u (FreePlace q)) marks z (order_for z live) z.rows) (sym count_is)
        (placed_like (λ q. seen_of a (FreePlace q)) (λ q. u (FreePlace q)) marks z (order_for z live) z.rows h.count place_is h.stored.placed)

    free : MarksFree z u (opposite marks)
    free = record {
      few = (let e = count_is in let f = h.stored.few in omega arith);
      there = placed.below;
      places = free_marks (λ q. u (FreePlace q)) marks z (order_for z live) (u FreeCount) placed h.stored.reached.size;
    }

    -- the chains
    use_is : u InUse ≡ buckets
    use_is = sees InUse h.seen_in_use ∙ h.in_use

    next_is : (r : ℕ) → r < z.rows → seen_of a (Next r) ≡ u (Next r)
    next_is r l = sym (sees (Next r) (seen_loaded (Next r) (h.stored.all.nexts r l)))

    head_is : (b : ℕ) → b < z.buckets → u (Bucket b) ≡ seen_of a (Bucket b)
    head_is b l = sees (Bucket b) (seen_loaded (Bucket b) (h.stored.all.buckets b l))

    linked : (b : ℕ) → b < buckets → Linked (row_at u) (u (Bucket b)) (h.stored.rows b)
    linked b l = subst (λ (m : ℕ). Linked (row_at u) m (h.stored.rows b)) (sym (head_is b (let e = h.stored.within in omega arith)))
        (linked_by u (λ r. seen_of a (Next r)) (seen_of a (Bucket b)) (h.stored.rows b)
        (each_map (Belongs w marks buckets z.rows b) (λ r. seen_of a (Next r) ≡ u (Next r)) (h.stored.rows b) (λ r t. next_is r t.below) (h.stored.belong b l)) (h.stored.leads b l))

    content_there : (r : ℕ) (d : Content) → r < z.rows → HasContent w r d → HasContent u r d
    content_there r d l t = record {
      over = t.over;
      words = λ q m. sym (word_is r q l (let one = t.words 1 (two_words d.head d.arguments) in let e = spelled_count d.head d.arguments t.over in let f = few r l in let g = spelled_few d.head d.arguments (widest z) (omega arith) (omega arith) in omega arith)) ∙ t.words q m;
    }

    stands_there : (b r : ℕ) → Belongs w marks buckets z.rows b r → StandsIn u (u InUse) b r
    stands_there b r t = subst (λ (m : ℕ). StandsIn u m b r) (sym use_is) (record { content = t.stands.content; has = content_there r t.stands.content t.below t.stands.has; bucket = t.stands.bucket })

    noted : (b : ℕ) → b < u InUse → IsNoted z u marks marks (u InUse) b
    noted b l =
        let m : b < buckets = (let e = use_is in omega arith) in
        let each = h.stored.belong b m in
        let at : (q : ℕ) → q < length (h.stored.rows b) → Belongs w marks buckets z.rows b (get_or (h.stored.rows b) q 0) = (λ q t. each_get (Belongs w marks buckets z.rows b) (h.stored.rows b) q each t) in record {
          rows = h.stored.rows b;
          sound = record {
            chain = record { linked = linked b m; below = λ q t. (at q t).below };
            marked = λ q t. (at q t).marked;
            standing = λ q t. stands_there b (get_or (h.stored.rows b) q 0) (at q t);
          };
          noted = λ q t. (at q t).marked;
        }

    chained : (r : ℕ) → IsMarked marks r → IsChained u (u InUse) r
    chained r m =
        let t = h.stored.chained r m in
        let p = in_place r (h.stored.rows t.0) t.2 in record {
          bucket = t.0;
          used = (let l = t.1 in let e = use_is in omega arith);
          rows = h.stored.rows t.0;
          linked = linked t.0 t.1;
          at = p.0;
          within = p.1;
          is = p.2;
        }

    uses : UsesBuckets z u
    uses = let e = use_is in record {
      used = (let f = h.stored.used in omega arith);
      within = (let f = h.stored.within in omega arith);
      beyond = λ b past l. head_is b l ∙ h.stored.beyond b (omega arith) l;
    }

    chains : ChainsMarked z u marks
    chains = record {
      uses = uses;
      standing = marks;
      chains = record { size = h.stored.reached.size; chain = noted; only = chained };
      all = λ r m. m;
    }

    keeps : Keeps z u live
    keeps = record {
      live = marks;
      free = opposite marks;
      reached = reached;
      places = free;
      opposite = opposite_marks marks;
      chains = chains;
      count = h.stored.live_is ∙ sym (count_left (λ q. u (FreePlace q)) marks z (order_for z live) (u FreeCount) placed h.stored.reached.size);
    }

    base_follows : BaseFollows u (loads (s.view i).call)
    base_follows = record {
      base = c.base;
      claim = c.claim;
      base_loaded = ap (λ (v : View). value_at Base (loads v.call)) own ∙ h.stored.base_loaded;
      claim_loaded = ap (λ (v : View). value_at Claim (loads v.call)) own ∙ h.stored.claim_loaded;
      is = sees Base h.seen_base ∙ h.base;
    }

    use_follows : UseFollows z u (loads (s.view i).call) live
    use_follows = let l = h.stored.all.in_use in record {
      in_use = l.0;
      loaded = ap (λ (v : View). value_at InUse (loads v.call)) own ∙ l.1;
      is = use_is ∙ (h.stored.buckets_are ∙ ap (λ (m : ℕ). grown_use z m live) (ap or_zero l.1));
    }

    no_heads : (b : ℕ) → z.buckets ≤ b → u (Bucket b) ≡ 0
    no_heads b past =
        let out : in_table z (Bucket b) ≡ false = le-ltb b z.buckets past in
        let inside : Each (λ x. in_table z x.0 ≡ true) (stores (s.view i).call) = subst (λ (v : View). Each (λ x. in_table z x.0 ≡ true) (stores v.call)) (sym own) h.stored.stores.inside in
        let none = facts.chains.beyond b (let t = facts.chains.within in omega arith) in
        (ap (λ (f : Place → ℕ). f (Bucket b)) (k.collection.present i is_so) ∙ stored_outside z k.began (Bucket b) out (stores (s.view i).call) inside)
        ∙ subst (λ (rs : List ℕ). Linked (row_at k.began) (k.began (Bucket b)) rs) none (facts.chains.linked b)

    may_end : MayEnd z s i
    may_end = ends z s core i is_so no_heads live keeps base_follows use_follows

  pub ends_by : MayEndBy z i a.me.0.store
  ends_by = record {
    storing = h.storing;
    base = h.seen_base;
    in_use = h.seen_in_use;
    count = h.seen_count;
    places = λ q l. h.stored.seen_places q (let e = h.count_is in omega arith);
    ends = may_end;
  }
