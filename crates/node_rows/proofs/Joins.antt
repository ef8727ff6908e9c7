-- A seat is joined into another; and what a seat then knows of all that were joined into it.
use Rattle.std.proofs.Common.{◌≡◌, ◌≢◌, ◌⊎◌, ℕ, zero, suc, ◌+◌, ◌<◌, ◌≤◌, eqb, true, false, ◌||◌, Some, None, List, [], ◌∷◌, ◌++◌, length, map, get_or, set, refl, sym, ap, ◌∙◌, subst, inl, inr, ⊎_elim, arith, ne_eqb, zero-add}
use mathlib.Core.Logic.{dite}
use mathlib.Core.List.{map-append}
use mathlib.Core.Option.{some}
use native.Mathlib.Decide.{ℕ_discrete}
use lib.ListN.{get_elem?}
use lib.Seq.{map-set}
use Rattle.std.specs.List.{IsDistinct, list_any}
use Rattle.std.proofs.lemmas.List.{length-map, set-get_or}
use Rattle.std.proofs.lemmas.Map.Steps.{length-le_from_distinct_below}
use Rattle.atomic_table.specs.Table.{State, Me, Joins, Allows, keeps}
use Rattle.atomic_table.proofs.Lists.{at_map, set_else, set_again}
use Rattle.term_model.specs.Tree.{Tree}
use Rattle.history_core.specs.declared.entry.Entry.{Entry}
use Rattle.history_core.specs.Chronicle.{KeysRise, entries_of}
use Rattle.history_core.proofs.Own.{own_order_stays}
use Rattle.history_core.proofs.Places.{rising_never_falls}
use Rattle.lock_core.specs.declared.parts.Phase.TheVariants.{Out, Holder}
use Rattle.busy_forbidden.specs.declared.view.LockView.{LockView}
use Rattle.busy_forbidden.specs.Shown as lock
use Rattle.busy_forbidden.specs.Shown.{nobody, view_at, SameLock}
use Rattle.busy_forbidden.specs.Rules.{ShowsLock}
use Rattle.busy_forbidden.specs.Views.{at_view}
use Rattle.busy_forbidden.proofs.Framing.{same_view}
use Rattle.busy_forbidden.proofs.Goes.{same_place}
use Rattle.store_model.specs.declared.view.Sizes.{Sizes}
use Rattle.store_model.specs.declared.view.View.{View}
use Rattle.store_model.specs.Machine.{Each, In}
use Rattle.store_model.specs.Invariant.{listed}
use Rattle.store_model.specs.Recalls.{EntriesRecalled, Recalls}
use Rattle.store_model.specs.StoreHolds.{StoreHolds}
use Rattle.store_model.specs.Shown.{shown}
use Rattle.store_model.proofs.Basics.{choose, eqb_is, eqb_not, each_map, each_both}
use Rattle.store_model.proofs.Histories.{listed_at}
use Rattle.node_rows.specs.declared.store.Pass.{Pass}
use Rattle.node_rows.specs.Told.{HasEntries, KeepsOrder, HasRisingKeys, TellsTrees, view_of}
use Rattle.node_rows.specs.Crowding.{IsCrowd, Crowds, crowd_at}
use Rattle.node_rows.specs.CrowdsKept.{crowd_here, crowd_same}
use Rattle.node_rows.specs.Told.{HasEntries, TellsCrowd, view_of}
use Rattle.node_rows.specs.declared.view.JoinedSeat.{JoinedSeat}
use Rattle.node_rows.specs.declared.view.NodeView.{NodeView}
use Rattle.node_rows.specs.Shown.{lock_of, store_at, Shows}
use Rattle.node_rows.specs.Joining.{spent_view, number_in, known_seat, both_views, seats_in, AreApart, with_views, ShowsJoined, gathered, all_views, entries_at, lists_in, HasBase, AllTold, TellsAll}
use Rattle.node_rows.specs.Gathering.{not_spent, known_at, apart_else, join_gathers}
use Rattle.node_rows.specs.Locking.{store_here, store_set, put_again, inside, below, sized_set, some_set, count_set}

module _ (z : Sizes) (s : State (Unit {0}) NodeView) (i : ℕ) (v : NodeView) (at : get_elem? s.views i ≡ some v) (w : NodeView) where
  -- the seats know the same of the store
  same_stores : Shows z s → w.store ≡ v.store → store_at z (set s.views i w) ≡ store_at z s.views
  same_stores rule store = store_set z s.views i w (inside z s i v rule at) ∙ put_again (store_at z s.views) i w.store (store_here z s.views i v at ∙ sym store)

  module _ (same_lock : w.lock ≡ v.lock) where
    locks_kept : map lock_of (set s.views i w) ≡ map lock_of s.views
    locks_kept = map-set lock_of s.views i w ∙ (ap (set (map lock_of s.views) i) same_lock ∙ set_again (map lock_of s.views) i v.lock (at_map lock_of s.views i v at))

    lock_again : ShowsLock lock_of z.seats s → ShowsLock lock_of z.seats (with_views s (set s.views i w))
    lock_again l = record { state = l.state; shows = subst (λ (ls : List LockView). lock.Shows z.seats s.words ls l.state) (sym locks_kept) l.shows; sound = l.sound }

    -- another view of a seat, which knows the same of lock and store
    pub shows_again : Shows z s → w.made ≡ v.made → w.sizes ≡ v.sizes → w.store ≡ v.store → Shows z (with_views s (set s.views i w))
    unfolding lock_again
    shows_again rule made sizes store =
        let same = same_stores rule store in
        record {
          lock = lock_again rule.lock;
          wide = rule.wide;
          holds = subst (λ (f : ℕ → View). StoreHolds z (record { lock = rule.lock.state; words = shown z s.words; view = f })) (sym same) rule.holds;
          sized = sized_set z s i v rule at w sizes made;
          some_made = some_set z s i v rule at w sizes made;
          count = count_set z s i v rule at w sizes made;
        }

-- and has the same crowd
crowds_again : (z : Sizes) (s : State (Unit {0}) NodeView) (i : ℕ) (v : NodeView) → get_elem? s.views i ≡ some v → (w : NodeView) → Shows z s → w.store ≡ v.store → w.crowd ≡ v.crowd
    → Crowds z (store_at z s.views) (crowd_at s.views) → Crowds z (store_at z (set s.views i w)) (crowd_at (set s.views i w))
crowds_again z s i v at w rule store crowd was =
    let l = inside z s i v rule at in
    let same : store_at z (set s.views i w) ≡ store_at z s.views = store_set z s.views i w l ∙ put_again (store_at z s.views) i w.store (store_here z s.views i v at ∙ sym store) in
    subst (λ (p : (ℕ → View) × (ℕ → List Tree)). Crowds z p.0 p.1) (λ q. (sym same q, sym (crowd_same s.views i v w at l crowd) q)) was

-- the seat `other`, which is out, says nothing of the lock any more
lock_spent : (z : Sizes) (s : State (Unit {0}) NodeView) (other : ℕ) (w : NodeView) → get_elem? s.views other ≡ some w → w.lock.phase ≡ Out → ShowsLock lock_of z.seats s → ShowsLock lock_of z.seats (with_views s (set s.views other spent_view))
lock_spent z s other w at out l =
    let there = at_view (map lock_of s.views) other w.lock (at_map lock_of s.views other w at) in
    let phase : (view_at (map lock_of s.views) other).phase ≡ Out = ap (λ (u : LockView). u.phase) there.0 ∙ out in
    let same : SameLock other (view_at (map lock_of s.views) other) nobody = record {
      phase = sym phase;
      standings = λ q. sym (l.shows.idle other (λ h. let no : Out ≡ Holder = sym phase ∙ h in grind arith) q);
      number = λ q e. let no : None ≡ Some q = e in grind arith;
    } in
    record {
      state = l.state;
      shows = subst (λ (ls : List LockView). lock.Shows z.seats s.words ls l.state) (sym (map-set lock_of s.views other spent_view)) (same_view z.seats s.words (map lock_of s.views) l.state other nobody l.shows there.1 same);
      sound = l.sound;
    }

pub joins_seat : (z : Sizes) (id : ℕ) (v : NodeView) (i : ℕ) → v.lock.number ≡ Some i → (other : ℕ) (w : NodeView) (k : ℕ) → w.lock.number ≡ Some k → w.lock.phase ≡ Out → Joins (ShowsJoined z) id v other w (both_views v w) spent_view
joins_seat z id v i is other w k is_w out s rule at ne at_set =
    let both : NodeView = both_views v w in
    let at_w : get_elem? s.views other ≡ some w = sym (set_else s.views id other both ne) ∙ at_set in
    let known = known_at rule.known s.views rule.joins id v at (not_spent v i is) in
    let known_w = known_at rule.known s.views rule.joins other w at_w (not_spent w k is_w) in
    let whole : State (Unit {0}) NodeView = with_views s rule.known in
    let number : number_in w.lock.number ≡ other = ap number_in is_w ∙ same_place whole other k w rule.shows.lock known_w is_w in
    record {
      known = set rule.known id both;
      joins = join_gathers rule.known s.views rule.joins id v at (not_spent v i is) other w at_w (not_spent w k is_w) number (λ e. ne (sym e));
      lock = lock_spent z (with_views s (set s.views id both)) other w at_set out (lock_again z s id v at both refl rule.lock);
      shows = shows_again z whole id v known both refl rule.shows refl refl refl;
      recalls = subst (Recalls z) (sym (same_stores z whole id v known both rule.shows refl)) rule.recalls;
      crowds = crowds_again z whole id v known both rule.shows refl refl rule.crowds;
    }

-- What a seat knows of another one.
abbrev Knows : List NodeView → JoinedSeat → Type 0
Knows known x = (u : NodeView) × (get_elem? known x.seat ≡ some u) × (u.store ≡ x.store) × (u.crowd ≡ x.crowd)

each_itself : (xs : List ℕ) → Each (λ q. In q xs) xs
each_itself [] = tt
each_itself (x ∷ xs) = (inl refl, each_map _ _ xs (λ q m. inr m) (each_itself xs))

in_or_not : (j : ℕ) (xs : List ℕ) → In j xs ⊎ Each (λ y. j ≢ y) xs
in_or_not j [] = inr tt
in_or_not j (x ∷ xs) = dite (ℕ_discrete j x) (λ e. inl (inl e)) (λ ne. ⊎_elim (λ m. inl (inr m)) (λ not. inr (ne, not)) (in_or_not j xs))

distinct : (xs : List ℕ) → AreApart xs → IsDistinct eqb xs
unfolding IsDistinct
distinct [] h = tt
distinct (x ∷ xs) h = (each_map _ _ xs (λ y ne. ne_eqb x y ne) h.0, distinct xs h.1)

any_below : (n q : ℕ) (xs : List ℕ) → Each (λ y. y < n) xs → list_any (eqb q) xs ≡ true → q < n
any_below n q [] h e = absurd (let no : false ≡ true = e in grind arith)
any_below n q (x ∷ xs) h e = dite (ℕ_discrete q x)
    (λ same. subst (λ (r : ℕ). r < n) (sym same) h.0)
    (λ ne. any_below n q xs h.1 (sym (ap (λ b. b || list_any (eqb q) xs) (ne_eqb q x ne)) ∙ e))

-- n different numbers below n are all of them
covers : (n : ℕ) (xs : List ℕ) → AreApart xs → Each (λ y. y < n) xs → n ≤ length xs → (j : ℕ) → j < n → In j xs
covers n xs apart small long j l = ⊎_elim (λ m. m)
    (λ not. let most = length-le_from_distinct_below (j ∷ xs) n (distinct (j ∷ xs) (not, apart)) (λ q e. any_below n q (j ∷ xs) (l, small) e) in absurd (omega arith))
    (in_or_not j xs)

listed_below : {A : Type 0} (n : ℕ) (f g : ℕ → A) → ((j : ℕ) → j < n → f j ≡ g j) → listed n f ≡ listed n g
listed_below zero f g h = refl
listed_below (suc n) f g h = ap (λ (x : _). x ∷ listed n (λ j. f (suc j))) (h 0 (omega arith)) ∙ ap (λ (xs : List _). g 0 ∷ xs) (listed_below n (λ j. f (suc j)) (λ j. g (suc j)) (λ j l. h (suc j) (omega arith)))

module _ (z : Sizes) (known : List NodeView) where
  -- the entries of a seat that is found are its own
  found : (xs : List JoinedSeat) → Each (Knows known) xs → (j : ℕ) → In j (seats_in xs) → entries_at j xs ≡ (store_at z known j).entries
  found [] h j m = absurd m
  found (x ∷ xs) h j m = choose (λ (es : List Entry). es ≡ (store_at z known j).entries) (eqb x.seat j) x.store.entries (entries_at j xs)
      (λ t. let same : x.seat ≡ j = eqb_is x.seat j t in
      ap (λ (u : View). u.entries) (sym h.0.2) ∙ (ap (λ (u : View). u.entries) (sym (store_here z known x.seat h.0.0 h.0.1)) ∙ ap (λ (q : ℕ). (store_at z known q).entries) same))
      (λ f. ⊎_elim (λ e. absurd (eqb_not x.seat j f (sym e))) (found xs h.1 j) m)

  each_own : (all : List JoinedSeat) → Each (Knows known) all → (xs : List JoinedSeat) → Each (Knows known) xs → Each (λ q. In q (seats_in all)) (seats_in xs) → Each (λ x. entries_at x.seat all ≡ x.store.entries) xs
  each_own all h [] k m = tt
  each_own all h (x ∷ xs) k m = (
    found all h x.seat m.0 ∙ (ap (λ (u : View). u.entries) (store_here z known x.seat k.0.0 k.0.1) ∙ ap (λ (u : View). u.entries) k.0.2),
    each_own all h xs k.1 m.1,
  )

each_seat : (P : ℕ → Type 0) (xs : List JoinedSeat) → Each (λ x. P x.seat) xs → Each P (seats_in xs)
each_seat P [] h = tt
each_seat P (x ∷ xs) h = (h.0, each_seat P xs h.1)

pub tells_all : (z : Sizes) (s : State (Unit {0}) NodeView) (id : ℕ) (v : NodeView) (i : ℕ) → ShowsJoined z s → get_elem? s.views id ≡ some v → v.lock.number ≡ Some i → TellsAll z v
tells_all z s id v i rule at is =
    let lives = not_spent v i is in
    let here = known_at rule.known s.views rule.joins id v at lives in
    let whole : State (Unit {0}) NodeView = with_views s rule.known in
    let number : number_in v.lock.number ≡ id = ap number_in is ∙ same_place whole id i v rule.shows.lock here is in
    let held = rule.joins.held id v at in
    let all : Each (Knows rule.known) (gathered v) = (
      (v, subst (λ (q : ℕ). get_elem? rule.known q ≡ some v) (sym number) here, refl, refl),
      each_map _ _ v.joined (λ x t. (t.view, t.knew, t.store, t.crowd)) held,
    ) in
    let small : Each (λ (x : JoinedSeat). x.seat < z.seats) (gathered v) = each_map _ _ (gathered v) (λ x t. below z whole x.seat t.0 rule.shows t.1) all in
    let apart : AreApart (seats_in (gathered v)) = (
      subst (λ (q : ℕ). Each (λ y. q ≢ y) (seats_in v.joined)) (sym number) (apart_else rule.known s.views rule.joins id v at lives v.joined held),
      rule.joins.apart id v at,
    ) in
    record {
      own = each_own z rule.known (gathered v) all (gathered v) all (each_itself (seats_in (gathered v)));
      below = small;
      whole = λ count.
          let long : z.seats ≤ length (seats_in (gathered v)) = let e = length-map v.joined (λ (x : JoinedSeat). x.seat) in omega arith in
          let view : ℕ → View = store_at z rule.known in
          let same : lists_in z.seats v ≡ listed z.seats (λ j. (view j).entries) =
          listed_below z.seats _ _ (λ j l. found z rule.known (gathered v) all j (covers z.seats (seats_in (gathered v)) apart (each_seat (λ q. q < z.seats) (gathered v) small) long j l)) in
          let bases = rule.shows.holds.strengthened.bases in
          subst (λ (ls : List (List Entry)). AllTold z ls (gathered v)) (sym same) record {
            legal = rule.shows.holds.history.legal;
            numbers = bases.numbers;
            rises = each_map _ _ (gathered v) (λ x t.
                let store : view x.seat ≡ x.store = store_here z rule.known x.seat t.0 t.1 ∙ t.2 in
                subst (λ (u : View). KeysRise u.entries) store (rule.shows.holds.history.rises x.seat)) all;
            trees = each_both _ _ _ (gathered v) (λ x l t.
                let store : view x.seat ≡ x.store = store_here z rule.known x.seat t.0 t.1 ∙ t.2 in
                subst (λ (u : View). EntriesRecalled (listed z.seats (λ j. (view j).entries)) x.seat u.entries) store (rule.recalls x.seat l).entries) small all;
            bases = each_map _ _ (gathered v) (λ x t.
                let store : view x.seat ≡ x.store = store_here z rule.known x.seat t.0 t.1 ∙ t.2 in
                subst (λ (b : ℕ). HasBase z (listed z.seats (λ j. (view j).entries)) b) (ap (λ (u : View). u.base) store) (bases.seats x.seat)) all;
            crowds = each_map _ _ (gathered v) (λ x t.
                let store : view x.seat ≡ x.store = store_here z rule.known x.seat t.0 t.1 ∙ t.2 in
                let crowd : crowd_at rule.known x.seat ≡ x.crowd = crowd_here rule.known x.seat t.0 t.1 ∙ t.3 in
                subst (λ (p : View × List Tree). IsCrowd (listed z.seats (λ j. (view j).entries)) x.seat p.0.entries p.1) (λ q. (store q, crowd q))
                (rule.crowds.each x.seat (below z whole x.seat t.0 rule.shows t.1))) all;
          };
    }

-- A look at a word leaves the table as it is.
pub looks_at : (z : Sizes) (slots id : ℕ) (me : Me (Unit {0}) NodeView) (i k : ℕ) → me.0.lock.number ≡ Some i → me.0.sizes ≡ z → Allows (ShowsJoined z) slots id me k (λ n. n) (λ n me'. (me' ≡ me) × TellsAll me.0.sizes me.0)
looks_at z slots id me i k is sizes s rule homes at small =
    let same : s ≡ record { words = set s.words k (get_or s.words k 0); homes = s.homes; views = set s.views id me.0 } = λ q. record {
      words = sym (set-get_or s.words k 0) q;
      homes = s.homes;
      views = sym (set_again s.views id me.0 at) q;
    } in
    (me.0, keeps, tt, subst (ShowsJoined z) same rule, (refl, subst (λ (y : Sizes). TellsAll y me.0) (sym sizes) (tells_all z s id me.0 i rule at is)))

-- what holds of a seat that has others joined into it, and of those, holds of each of them
each_joined : (P : JoinedSeat → Type 0) (ws : List NodeView) (v : NodeView) → Each P (gathered (all_views v ws)) → P (known_seat v) × Each (λ w. P (known_seat w)) ws
each_joined P [] v h = (h.0, tt)
each_joined P (w ∷ ws) v h = let r = each_joined P ws v (h.0, h.1.1) in (r.0, (h.1.0, r.1))

all_count : (ws : List NodeView) (v : NodeView) → length (all_views v ws).joined ≡ length ws + length v.joined
all_count [] v = sym (zero-add (length v.joined))
all_count (w ∷ ws) v = let e = all_count ws v in omega arith

pub joined_count : (ws : List NodeView) (v V : NodeView) → V ≡ all_views v ws → length ws ≤ length V.joined
joined_count ws v V is = let e = all_count ws v in let j = ap (λ (u : NodeView). length u.joined) is in omega arith

all_snoc : (v : NodeView) (ws : List NodeView) (w : NodeView) → all_views v (ws ++ w ∷ []) ≡ all_views (both_views v w) ws
all_snoc v [] w = refl
all_snoc v (x ∷ ws) w = ap (λ (u : NodeView). both_views u x) (all_snoc v ws w)

-- the last pass of a list is joined
pub all_next : (v : NodeView) (xs ys : List Pass) (p : Pass) → xs ≡ ys ++ p ∷ [] → all_views (both_views v (view_of p)) (map view_of ys) ≡ all_views v (map view_of xs)
all_next v xs ys p is = sym (ap (λ ps. all_views v (map view_of ps)) is ∙ (ap (all_views v) (map-append view_of ys (p ∷ [])) ∙ all_snoc v (map view_of ys) (view_of p)))

each_of_map : {A B : Type 0} (P : B → Type 0) (f : A → B) (xs : List A) → Each P (map f xs) → Each (λ x. P (f x)) xs
each_of_map P f [] h = tt
each_of_map P f (x ∷ xs) h = (h.0, each_of_map P f xs h.1)

pub lists_are : (z : Sizes) (V W : NodeView) (lists : List (List Entry)) → lists ≡ lists_in W.sizes.seats W → W ≡ V → V.sizes ≡ z → lists ≡ lists_in z.seats V
lists_are z V W lists is same sizes = is ∙ (ap (λ (u : NodeView). lists_in u.sizes.seats u) same ∙ ap (λ (y : Sizes). lists_in y.seats V) sizes)

-- each seat of those that were joined finds its entries under its number
module _ (z : Sizes) (V : NodeView) (tells : TellsAll z V) (lists : List (List Entry)) (is : lists ≡ lists_in z.seats V) where
  abbrev Finds : JoinedSeat → Type 0
  Finds x = get_or lists x.seat [] ≡ x.store.entries

  each_finds : Each Finds (gathered V)
  each_finds = each_both _ _ _ (gathered V)
      (λ x small own. ap (λ (ls : List (List Entry)). get_or ls x.seat []) is ∙ (listed_at z.seats (λ j. entries_at j (gathered V)) x.seat [] small ∙ own))
      tells.below tells.own

  of_pass : (p : Pass) → Finds (known_seat (view_of p)) → HasEntries lists p
  of_pass p h = ap (λ (k : ℕ). get_or lists k []) (sym (ap number_in p.seat.fits.number)) ∙ h

  pub finds : (first : Pass) (rest : List Pass) → V ≡ all_views (view_of first) (map view_of rest) → HasEntries lists first × Each (HasEntries lists) rest
  finds first rest e =
      let h = each_joined Finds (map view_of rest) (view_of first) (subst (λ (u : NodeView). Each Finds (gathered u)) e each_finds) in
      (of_pass first h.0, each_map _ _ rest (λ p k. of_pass p k) (each_of_map (λ w. Finds (known_seat w)) view_of rest h.1))

-- and has its crowd
pub crowds : (V : NodeView) (lists : List (List Entry)) → Each (λ x. IsCrowd lists x.seat x.store.entries x.crowd) (gathered V) → (first : Pass) (rest : List Pass) → V ≡ all_views (view_of first) (map view_of rest)
    → TellsCrowd lists first × Each (TellsCrowd lists) rest
crowds V lists h first rest e =
    let P : JoinedSeat → Type 0 = λ x. IsCrowd lists x.seat x.store.entries x.crowd in
    let t = each_joined P (map view_of rest) (view_of first) (subst (λ (u : NodeView). Each P (gathered u)) e h) in
    let of : (p : Pass) → P (known_seat (view_of p)) → TellsCrowd lists p = (λ p k. subst (λ (n : ℕ). IsCrowd lists n (view_of p).store.entries (view_of p).crowd) (ap number_in p.seat.fits.number) k) in
    (of first t.0, each_map _ _ rest of (each_of_map (λ w. P (known_seat w)) view_of rest t.1))

-- and its base is known
pub bases : (z : Sizes) (V : NodeView) (lists : List (List Entry)) → Each (λ x. HasBase z lists x.store.base) (gathered V) → (first : Pass) (rest : List Pass) → V ≡ all_views (view_of first) (map view_of rest)
    → HasBase z lists (view_of first).store.base × Each (λ p. HasBase z lists (view_of p).store.base) rest
bases z V lists h first rest e =
    let P : JoinedSeat → Type 0 = λ x. HasBase z lists x.store.base in
    let t = each_joined P (map view_of rest) (view_of first) (subst (λ (u : NodeView). Each P (gathered u)) e h) in
    (t.0, each_of_map (λ w. P (known_seat w)) view_of rest t.1)

-- and the trees that its entries name are those that they tell
pub trees : (V : NodeView) (lists : List (List Entry)) → Each (λ x. EntriesRecalled lists x.seat x.store.entries) (gathered V) → (first : Pass) (rest : List Pass) → V ≡ all_views (view_of first) (map view_of rest)
    → TellsTrees lists first × Each (TellsTrees lists) rest
trees V lists h first rest e =
    let P : JoinedSeat → Type 0 = λ x. EntriesRecalled lists x.seat x.store.entries in
    let t = each_joined P (map view_of rest) (view_of first) (subst (λ (u : NodeView). Each P (gathered u)) e h) in
    let of_seat : (p : Pass) → P (known_seat (view_of p)) → TellsTrees lists p = (λ p k. subst (λ (n : ℕ). EntriesRecalled lists n (view_of p).store.entries) (ap number_in p.seat.fits.number) k) in
    (of_seat first t.0, each_map _ _ rest of_seat (each_of_map (λ w. P (known_seat w)) view_of rest t.1))

-- and the keys of its entries rise
pub rises : (V : NodeView) (lists : List (List Entry)) → Each (λ x. KeysRise x.store.entries) (gathered V) → (first : Pass) (rest : List Pass) → V ≡ all_views (view_of first) (map view_of rest)
    → HasEntries lists first × Each (HasEntries lists) rest → HasRisingKeys lists first × Each (HasRisingKeys lists) rest
rises V lists h first rest e own =
    let P : JoinedSeat → Type 0 = λ x. KeysRise x.store.entries in
    let t = each_joined P (map view_of rest) (view_of first) (subst (λ (u : NodeView). Each P (gathered u)) e h) in
    let of : (p : Pass) → P (known_seat (view_of p)) → HasEntries lists p → HasRisingKeys lists p = (λ p k has. subst KeysRise (sym has) k) in
    (of first t.0 own.0, each_both _ _ _ rest of (each_of_map (λ w. P (known_seat w)) view_of rest t.1) own.1)

-- so they stand in the chronicle in its own order
pub orders : (lists : List (List Entry)) (first : Pass) (rest : List Pass) → HasRisingKeys lists first × Each (HasRisingKeys lists) rest
    → HasEntries lists first × Each (HasEntries lists) rest → KeepsOrder lists first × Each (KeepsOrder lists) rest
orders lists first rest rising own =
    let of : (p : Pass) → HasRisingKeys lists p → HasEntries lists p → KeepsOrder lists p =
    (λ p k has. own_order_stays lists p.seat.number (rising_never_falls (entries_of lists p.seat.number) k) ∙ has) in
    (of first rising.0 own.0, each_both _ _ _ rest of rising.1 own.1)
