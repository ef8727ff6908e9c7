-- From what a collection has worked out to its end.
use Rattle.std.proofs.Common.{◌≡◌, ℕ, suc, pred, ◌+◌, ◌<◌, ◌≤◌, Bool, true, false, List, get_or, refl, sym, ap, ◌∙◌, subst, arith, true≢false}
use Rattle.std.proofs.lemmas.Bool.{le-ltb}
use Rattle.atomic_table.specs.declared.shared.Seat.{Seat}
use Rattle.busy_forbidden.specs.Calls.{IsSame}
use Rattle.history_core.specs.Entry.{IsAscending}
use Rattle.store_model.specs.declared.view.Call.{Call}
use Rattle.store_model.specs.declared.view.Call.TheVariants.{Loading}
use Rattle.store_model.specs.declared.view.Place.{Place}
use Rattle.store_model.specs.declared.view.Place.TheVariants.{Base, FreeCount, Claim, InUse, FreePlace, Bucket, RowWord, Birth, Next, RootCount, Root}
use Rattle.store_model.specs.Collection.{collected}
use Rattle.store_model.specs.Machine.{Each}
use Rattle.store_model.specs.Marks.{IsMarked, MarksReached}
use Rattle.store_model.specs.Steps.{loads, stores, value_at, is_stored, grown_use, names_left}
use Rattle.store_model.specs.ByView.{HasAll, StoresNext, seen_at}
use Rattle.store_model.specs.Shown.{in_table}
use Rattle.store_model.proofs.Basics.{each_map}
use Rattle.node_rows.specs.declared.view.NodeView.{NodeView}
use Rattle.node_rows.specs.Collecting.{or_zero, ended_by, HasSeen, IsKept}
use Rattle.node_rows.specs.Crowding.{kept_in, swept}
use Rattle.node_rows.specs.Steps.{Known}
use Rattle.row_sweep.specs.declared.sweep.Sweep.{Sweep}
use Rattle.row_sweep.specs.Loaded.{begun, found}
use Rattle.row_sweep.specs.Gathered.{sizes_of, loads_of, words_of, StaysSeat, HasGathered}
use Rattle.row_sweep.specs.Chained.{LeadsTo, Belongs}
use Rattle.row_sweep.specs.Turns.{order_for}
use Rattle.row_sweep.specs.Stored.{seen_of, Stores, StoresMore, ArePlaced, is_next, is_head, is_place, is_number}
use Rattle.row_sweep.specs.Collected.{IsWorkedOut, HasStored, HasSwept, Ends}
use Rattle.row_sweep.proofs.Chains.{leads_same}
use Rattle.row_sweep.proofs.Ending.{inside_marks}
use Rattle.row_sweep.proofs.Left.{count_left, left_marked}
use Rattle.row_sweep.proofs.Placing.{placed_like}
use Rattle.row_sweep.proofs.Sound.{no_head_beyond}

-- a collection that has loaded all words may store
pub gathered_stores : (c : Sweep) (a : Seat (Unit {0}) NodeView) (i n : ℕ) → HasGathered c a i n → Stores c a i n
gathered_stores c a i n h =
    let own : a.me.0.store.call ≡ Loading (loads_of a) = h.gathers.call ∙ ap Loading (sym (ap loads h.gathers.call)) in record {
      alone = h.gathers.alone;
      may = subst (StoresNext (sizes_of c)) (sym own) h.all;
      inside = subst (λ (x : Call). Each (λ q. in_table (sizes_of c) q.0 ≡ true) (stores x)) (sym own) tt;
    }

-- and has seen what it has loaded
pub seen_start : (c : Sweep) (a : Seat (Unit {0}) NodeView) (i n : ℕ) → HasGathered c a i n → (p : Place) → seen_of a p ≡ words_of a p
seen_start c a i n h p = subst (λ (x : Call). or_zero (seen_at p (loads x) (stores x)) ≡ found (loads x) p) (sym h.gathers.call) refl

not_place : (p : Place) → is_stored p ≡ false → is_place p ≡ false
not_place (FreePlace k) e = absurd (true≢false e)
not_place Base e = refl
not_place FreeCount e = refl
not_place Claim e = refl
not_place InUse e = refl
not_place (Bucket b) e = refl
not_place (RowWord r k) e = refl
not_place (Birth r) e = refl
not_place (Next r) e = refl
not_place (RootCount j) e = refl
not_place (Root j k) e = refl

not_head : (u : ℕ) (p : Place) → is_stored p ≡ false → is_head u p ≡ false
not_head u (Bucket b) e = absurd (true≢false e)
not_head u Base e = refl
not_head u FreeCount e = refl
not_head u Claim e = refl
not_head u InUse e = refl
not_head u (FreePlace k) e = refl
not_head u (RowWord r k) e = refl
not_head u (Birth r) e = refl
not_head u (Next r) e = refl
not_head u (RootCount j) e = refl
not_head u (Root j k) e = refl

not_next : (p : Place) → is_stored p ≡ false → is_next p ≡ false
not_next (Next r) e = absurd (true≢false e)
not_next Base e = refl
not_next FreeCount e = refl
not_next Claim e = refl
not_next InUse e = refl
not_next (FreePlace k) e = refl
not_next (Bucket b) e = refl
not_next (RowWord r k) e = refl
not_next (Birth r) e = refl
not_next (RootCount j) e = refl
not_next (Root j k) e = refl

not_number : (p : Place) → is_stored p ≡ false → is_number p ≡ false
not_number Base e = absurd (true≢false e)
not_number FreeCount e = absurd (true≢false e)
not_number InUse e = absurd (true≢false e)
not_number Claim e = refl
not_number (Next r) e = refl
not_number (FreePlace k) e = refl
not_number (Bucket b) e = refl
not_number (RowWord r k) e = refl
not_number (Birth r) e = refl
not_number (RootCount j) e = refl
not_number (Root j k) e = refl

-- the chains, the heads and the free places were stored
module _ (c : Sweep) (a : Seat (Unit {0}) NodeView) (i n : ℕ) (marks : List Bool) (nexts heads : List ℕ) (live buckets : ℕ) (h : IsWorkedOut c a i n marks nexts heads live buckets)
    (b : Seat (Unit {0}) NodeView) (j m : ℕ) (d : Seat (Unit {0}) NodeView) (k l : ℕ) (e : Seat (Unit {0}) NodeView) (o q : ℕ) (count : ℕ)
    (first : StoresMore a i n b j m) (second : StoresMore b j m d k l) (third : StoresMore d k l e o q) (at : Stores c e o q)
    (next_is : (r : ℕ) → r < (sizes_of c).rows → IsMarked marks r → seen_of b (Next r) ≡ get_or nexts r 0) (next_others : (p : Place) → is_next p ≡ false → seen_of b p ≡ seen_of a p)
    (head_is : (x : ℕ) → x < buckets → seen_of d (Bucket x) ≡ get_or heads x 0) (head_others : (p : Place) → is_head buckets p ≡ false → seen_of d p ≡ seen_of b p)
    (placed : ArePlaced (λ x. seen_of e (FreePlace x)) marks (sizes_of c) (order_for (sizes_of c) live) (sizes_of c).rows count) (has : (x : ℕ) → x < count → HasSeen e.me.0.store (FreePlace x)) (few : count ≤ (sizes_of c).rows) (place_others : (p : Place) → is_place p ≡ false → seen_of e p ≡ seen_of d p) where
  loads_same : loads_of e ≡ loads_of a
  loads_same = third.loads ∙ (second.loads ∙ first.loads)

  words_same : words_of e ≡ words_of a
  words_same = ap found loads_same

  start : (p : Place) → seen_of a p ≡ words_of a p
  start = seen_start c a i n h.gathered

  call : loads_of a ≡ begun c.base c.claim c.count h.gathered.gathers.more
  call = ap loads h.gathered.gathers.call

  pub lists_stored : HasStored c e o q marks live buckets count
  lists_stored = record {
    stores = at;
    all = subst (HasAll (sizes_of c)) (sym loads_same) h.gathered.all;
    base_loaded = ap (value_at Base) (loads_same ∙ call);
    claim_loaded = ap (value_at Claim) (loads_same ∙ call);
    reached = subst (λ (w : Place → ℕ). MarksReached w (sizes_of c).rows marks) (sym words_same) h.reached;
    rows = h.chains.rows;
    leads = λ x l. subst (λ (y : ℕ). LeadsTo (λ r. seen_of e (Next r)) y (h.chains.rows x)) (sym (place_others (Bucket x) refl ∙ head_is x l))
        (leads_same (λ r. get_or nexts r 0) (λ r. seen_of e (Next r)) (get_or heads x 0) (h.chains.rows x)
        (each_map (Belongs (words_of a) marks buckets (sizes_of c).rows x) (λ r. get_or nexts r 0 ≡ seen_of e (Next r)) (h.chains.rows x)
        (λ r t. sym (place_others (Next r) refl ∙ (head_others (Next r) refl ∙ next_is r t.below t.marked))) (h.chains.belong x l)) (h.chains.leads x l));
    belong = λ x l. subst (λ (w : Place → ℕ). Each (Belongs w marks buckets (sizes_of c).rows x) (h.chains.rows x)) (sym words_same) (h.chains.belong x l);
    chained = λ r y. h.chains.all r (let s = inside_marks marks r y in let t = h.reached.size in omega arith) y;
    beyond = λ x past less. place_others (Bucket x) refl ∙ (head_others (Bucket x) (le-ltb x buckets past) ∙ (next_others (Bucket x) refl ∙ (start (Bucket x)
        ∙ no_head_beyond c a i n h.gathered x (let t = h.more in omega arith) less)));
    placed = placed;
    seen_places = has;
    few = few;
    others = λ p is. place_others p (not_place p is) ∙ (head_others p (not_head buckets p is) ∙ (next_others p (not_next p is) ∙ (start p ∙ ap (λ (w : Place → ℕ). w p) (sym words_same))));
    live_is = h.live_is;
    buckets_are = h.buckets_are ∙ ap (λ (w : Place → ℕ). grown_use (sizes_of c) (w InUse) live) (sym words_same);
    use_is = ap (λ (w : Place → ℕ). w InUse) words_same ∙ (h.use_is ∙ sym (ap (λ (v : NodeView). v.store.in_use) third.stays.only ∙ (ap (λ (v : NodeView). v.store.in_use) second.stays.only ∙ ap (λ (v : NodeView). v.store.in_use) first.stays.only)));
    used = h.used;
    within = h.within;
  }

-- and stay so while the numbers are
module _ (c : Sweep) (a : Seat (Unit {0}) NodeView) (i n : ℕ) (marks : List Bool) (live buckets count : ℕ) (h : HasStored c a i n marks live buckets count)
    (b : Seat (Unit {0}) NodeView) (j m : ℕ) (more : StoresMore a i n b j m) (at : Stores c b j m) (others : (p : Place) → is_number p ≡ false → seen_of b p ≡ seen_of a p) where
  same_words : words_of b ≡ words_of a
  same_words = ap found more.loads

  pub stored_on : HasStored c b j m marks live buckets count
  stored_on = record {
    stores = at;
    all = subst (HasAll (sizes_of c)) (sym more.loads) h.all;
    base_loaded = ap (value_at Base) more.loads ∙ h.base_loaded;
    claim_loaded = ap (value_at Claim) more.loads ∙ h.claim_loaded;
    reached = subst (λ (w : Place → ℕ). MarksReached w (sizes_of c).rows marks) (sym same_words) h.reached;
    rows = h.rows;
    leads = λ x l. subst (λ (y : ℕ). LeadsTo (λ r. seen_of b (Next r)) y (h.rows x)) (sym (others (Bucket x) refl))
        (leads_same (λ r. seen_of a (Next r)) (λ r. seen_of b (Next r)) (seen_of a (Bucket x)) (h.rows x) (each_map (Belongs (words_of a) marks buckets (sizes_of c).rows x) (λ r. seen_of a (Next r) ≡ seen_of b (Next r)) (h.rows x) (λ r t. sym (others (Next r) refl)) (h.belong x l)) (h.leads x l));
    belong = λ x l. subst (λ (w : Place → ℕ). Each (Belongs w marks buckets (sizes_of c).rows x) (h.rows x)) (sym same_words) (h.belong x l);
    chained = h.chained;
    beyond = λ x past less. others (Bucket x) refl ∙ h.beyond x past less;
    placed = placed_like (λ x. seen_of a (FreePlace x)) (λ x. seen_of b (FreePlace x)) marks (sizes_of c) (order_for (sizes_of c) live) (sizes_of c).rows count (λ x l. others (FreePlace x) refl) h.placed;
    seen_places = λ x l. more.seen (FreePlace x) (h.seen_places x l);
    few = h.few;
    others = λ p is. others p (not_number p is) ∙ (h.others p is ∙ ap (λ (w : Place → ℕ). w p) (sym same_words));
    live_is = h.live_is;
    buckets_are = h.buckets_are ∙ ap (λ (w : Place → ℕ). grown_use (sizes_of c) (w InUse) live) (sym same_words);
    use_is = ap (λ (w : Place → ℕ). w InUse) same_words ∙ (h.use_is ∙ sym (ap (λ (v : NodeView). v.store.in_use) more.stays.only));
    used = h.used;
    within = h.within;
  }

pred_more : (n : ℕ) → pred (n + 1) ≡ n
pred_more n = let e : n + 1 ≡ suc n = omega arith in ap pred e

-- the last store notes the collection
module _ (c : Sweep) (a : Seat (Unit {0}) NodeView) (i n : ℕ) (marks : List Bool) (live buckets : ℕ) (h : HasSwept c a i n marks live buckets)
    (b : Seat (Unit {0}) NodeView) (j m : ℕ) (same : IsSame a b) (number : j ≡ i) (seats : m ≡ n) (view : b.me.0 ≡ swept a.me.0 (ended_by (sizes_of c) a.me.0.store) b.me.0.crowd) (known : Known (sizes_of c) b.me.0.store) (crowd : IsKept (kept_in b.me.0.store.entries) b.me.0.store.knows b.me.0.crowd)
    (ascends : IsAscending (kept_in b.me.0.store.entries)) where
  place : ℕ → ℕ
  place k = seen_of a (FreePlace k)

  placed : ArePlaced (λ k. seen_of a (FreePlace k)) marks (sizes_of c) (order_for (sizes_of c) live) (sizes_of c).rows (seen_of a FreeCount)
  placed = subst (λ (k : ℕ). ArePlaced (λ x. seen_of a (FreePlace x)) marks (sizes_of c) (order_for (sizes_of c) live) (sizes_of c).rows k) (sym h.count_is) h.stored.placed

  pub swept_ends : Ends c a i n b j m marks live buckets
  swept_ends = record {
    same = same;
    number = number;
    seats = seats;
    kept = names_left (sizes_of c) (seen_of a);
    live_is = h.stored.live_is ∙ sym (count_left (λ k. seen_of a (FreePlace k)) marks (sizes_of c) (order_for (sizes_of c) live) (seen_of a FreeCount) placed h.stored.reached.size);
    buckets_are = h.stored.buckets_are ∙ ap (λ (k : ℕ). grown_use (sizes_of c) k live) h.stored.use_is;
    view = view ∙ (ap (λ (k : ℕ). swept a.me.0 (collected a.me.0.store k (pred k) (seen_of a InUse) (names_left (sizes_of c) (seen_of a))) b.me.0.crowd) h.base
        ∙ (ap (λ (k : ℕ). swept a.me.0 (collected a.me.0.store (c.base + c.claim + 1) k (seen_of a InUse) (names_left (sizes_of c) (seen_of a))) b.me.0.crowd) (pred_more (c.base + c.claim))
        ∙ ap (λ (k : ℕ). swept a.me.0 (collected a.me.0.store (c.base + c.claim + 1) (c.base + c.claim) k (names_left (sizes_of c) (seen_of a))) b.me.0.crowd) h.in_use));
    crowd = crowd;
    ascends = ascends;
    marked = λ r. left_marked (λ k. seen_of a (FreePlace k)) marks (sizes_of c) (order_for (sizes_of c) live) (seen_of a FreeCount) placed h.stored.reached.size (λ q y. let s = inside_marks marks q y in let t = h.stored.reached.size in omega arith) r;
    size = h.stored.reached.size;
    known = known;
  }

-- what came before the end changed the call alone
pub ends_after : (c : Sweep) (a : Seat (Unit {0}) NodeView) (i n : ℕ) (b : Seat (Unit {0}) NodeView) (j m : ℕ) (d : Seat (Unit {0}) NodeView) (k l : ℕ) (marks : List Bool) (live buckets : ℕ) → StaysSeat a i n b j m → Ends c b j m d k l marks live buckets → Ends c a i n d k l marks live buckets
ends_after c a i n b j m d k l marks live buckets e f = record {
  same = record { table = f.same.table ∙ e.same.table; id = f.same.id ∙ e.same.id; slots = f.same.slots ∙ e.same.slots };
  number = f.number ∙ e.number;
  seats = f.seats ∙ e.seats;
  kept = f.kept;
  live_is = f.live_is;
  buckets_are = f.buckets_are ∙ ap (λ (v : NodeView). grown_use (sizes_of c) v.store.in_use live) e.only;
  view = f.view ∙ ap (λ (v : NodeView). swept v (collected v.store (c.base + c.claim + 1) (c.base + c.claim) buckets f.kept) d.me.0.crowd) e.only;
  crowd = f.crowd;
  ascends = f.ascends;
  marked = f.marked;
  size = f.size;
  known = f.known;
}
