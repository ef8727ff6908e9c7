-- An own step that the store permits keeps the rule.
use Rattle.std.proofs.Common.{◌≡◌, ◌≢◌, false, ℕ, zero, suc, ◌<◌, ◌≤◌, Bool, true, cond, Option, Some, None, List, [], ◌∷◌, length, get_or, set, take, refl, sym, ap, ◌∙◌, subst, arith, length-set}
use mathlib.Core.Option.{some}
use lib.ListN.{get_elem?}
use Rattle.atomic_table.specs.Table.{State, Me, keeps, stepped, Allows}
use Rattle.atomic_table.proofs.Lists.{set_here}
use Rattle.term_model.specs.Tree.{Tree}
use Rattle.busy_forbidden.proofs.Framing.{lock_left}
use Rattle.busy_forbidden.proofs.Goes.{same_place}
use Rattle.store_model.specs.declared.view.Sizes.{Sizes}
use Rattle.store_model.specs.declared.view.View.{View}
use Rattle.store_model.specs.declared.view.Place.{Place}
use Rattle.store_model.specs.declared.view.Place.TheVariants.{InUse, RootCount, Root}
use Rattle.store_model.specs.declared.view.Call.{Call}
use Rattle.store_model.specs.declared.view.Content.{Content}
use Rattle.store_model.specs.declared.view.Call.TheVariants.{Idle, Comparing, Passing, Finding, Ended, Counting, Drawing, Placing, Filling, Numbering, Linking, Publishing, Loading, Storing}
use Rattle.store_model.specs.declared.view.Stay.TheVariants.{Away, Ready}
use Rattle.store_model.specs.Words.{write, put}
use Rattle.store_model.specs.Machine as core
use Rattle.store_model.specs.Machine.{Action, acted, with_call, IsCreation, LoadBase, LoadInUse, Begin, Go, LoadRoot, StoreRoot, StoreCount, ReadWord, ReadArgument, StoreClaim, Each}
use Rattle.store_model.specs.Seats.{looked, index, drawn, index_in, wanted, IsWalk, Walked, IsKnown, SeatHolds}
use Rattle.store_model.specs.Invariant.{Holds, listed, names_of}
use Rattle.store_model.specs.Reads.{IsUndisturbed}
use Rattle.history_core.specs.declared.entry.Entry.{Entry}
use Rattle.history_core.specs.TermSet.{Names, Lacks, tree_over}
use Rattle.history_core.specs.Chronicle.{chronicle, set_of}
use Rattle.store_model.specs.Runs.{Inductive}
use Rattle.store_model.specs.Recalls.{Recalls}
use Rattle.store_model.specs.StoreHolds.{StoreHolds}
use Rattle.store_model.specs.Steps.{InPlace, Permits, after, is_collecting, head_read, IsAtRest}
use Rattle.store_model.specs.Laws.{held_by}
use Rattle.store_model.specs.Shown.{shown, in_table, index_of}
use Rattle.store_model.proofs.Basics.{where_map, where_at, each_map}
use Rattle.store_model.proofs.Shown.{shown_written, past_lock, place_inside}
use Rattle.store_model.proofs.Locks.{is_in}
use Rattle.store_model.proofs.Wrapped.{quiet, creation_calm, creation_busy}
use Rattle.store_model.proofs.Eight.{inductive}
use Rattle.store_model.specs.Words.{row_at, RowWords}
use Rattle.store_model.specs.Calls.{bucket}
use Rattle.store_model.proofs.Short.{chain_few, walks_few, walked_few}
use Rattle.node_rows.specs.declared.view.NodeView.{NodeView}
use Rattle.node_rows.specs.Shown.{lock_of, store_at, state_of, Shows}
use Rattle.node_rows.specs.Recalling.{step_recalls}
use Rattle.node_rows.specs.Collecting.{HasStore}
use Rattle.node_rows.specs.Crowding.{kept_in, IsSwept, pairs_of, IsCrowd, Crowds, crowd_at, swept, HasCrowd}
use Rattle.node_rows.specs.CrowdsKept.{IsNoEnd, crowds_stay, crowd_here, crowd_set, crowd_again}
use Rattle.node_rows.specs.Joining.{with_views, ShowsJoined}
use Rattle.node_rows.specs.Gathering.{not_spent, known_at, step_gathers}
use Rattle.node_rows.specs.Locking.{keeps_store, store_here, store_set, inside, below, sized_set, some_set, count_set}
use Rattle.node_rows.specs.Knowing.{held_alone, IsAbsent, EndsAbsent}
use Rattle.node_rows.proofs.Knowing.{word_stands, word_once, head_word, tree_once, names_lack}
use Rattle.node_rows.specs.Steps.{with_store, place_of, written_by, moved_by, act, Acts, Stands, Few, Known}

pub acts : (z : Sizes) (s : core.State) (i : ℕ) (x : core.Step) → Acts x → after z s i x ≡ acted s.words s.view i s.lock (act i x (s.view i))
acts z s i LoadBase h = refl
acts z s i LoadInUse h = refl
acts z s i (Begin c) h = refl
acts z s i Go h = refl
acts z s i (LoadRoot k) h = refl
acts z s i (StoreRoot k r) h = refl
acts z s i (StoreCount n) h = refl
acts z s i (ReadWord r k) h = refl
acts z s i (ReadArgument r k) h = refl
acts z s i x h = absurd h

acts_no_end : (x : core.Step) → Acts x → IsNoEnd x
acts_no_end StoreClaim h = absurd h
acts_no_end x h = tt

-- the drawn row has the drawn index
index_drawn : (x : Call) (d : ℕ × ℕ) → drawn x ≡ Some d → index x ≡ Some d.0
index_drawn (Comparing c o from old at k) d e = ap index_in e
index_drawn (Passing c o from old at dif) d e = ap index_in e
index_drawn (Finding c o r) d e = ap index_in e
index_drawn (Filling c from i r k) d e = ap index_in e
index_drawn (Numbering c from i r) d e = ap index_in e
index_drawn (Linking c from i r) d e = ap index_in e
index_drawn (Publishing c from i r) d e = ap index_in e
index_drawn Idle d e = ap index_in e
index_drawn (Ended c from) d e = ap index_in e
index_drawn (Counting c from n) d e = ap index_in e
index_drawn (Drawing c from n) d e = ap index_in e
index_drawn (Placing c from i) d e = absurd (let no : None ≡ Some d = e in grind arith)
index_drawn (Loading ls) d e = ap index_in e
index_drawn (Storing ls ss) d e = ap index_in e

-- a walk stands at a row
stands : (w : Place → ℕ) (chain : ℕ → List ℕ) (u t : ℕ) (x : Call) → IsWalk (row_at w) chain u t x → Stands x
stands w chain u t (Comparing c d from old at k) h = let e = h.at_is in omega arith
stands w chain u t (Passing c d from old at dif) h = let e = h.at_is in omega arith
stands w chain u t Idle h = tt
stands w chain u t (Finding c o r) h = tt
stands w chain u t (Ended c from) h = tt
stands w chain u t (Counting c from n) h = tt
stands w chain u t (Drawing c from n) h = tt
stands w chain u t (Placing c from i) h = tt
stands w chain u t (Filling c from i r k) h = tt
stands w chain u t (Numbering c from i r) h = tt
stands w chain u t (Linking c from i r) h = tt
stands w chain u t (Publishing c from i r) h = tt
stands w chain u t (Loading ls) h = tt
stands w chain u t (Storing ls ss) h = tt

few : (row : ℕ → RowWords) (chain : ℕ → List ℕ) (u N t : ℕ) → ((b : ℕ) → length (chain b) ≤ N) → (x : Call) → IsWalk row chain u t x → Few N t x
few row chain u N t short Idle h = tt
few row chain u N t short (Comparing c d from old at k) h = let a = walks_few row (chain (bucket c u)) c from old at t h in let b = short (bucket c u) in omega arith
few row chain u N t short (Passing c d from old at dif) h = let a = walks_few row (chain (bucket c u)) c from old at t h in let b = short (bucket c u) in omega arith
few row chain u N t short (Finding c d r) h = tt
few row chain u N t short (Ended c from) h = let a = walked_few row (chain (bucket c u)) c from t h in let b = short (bucket c u) in omega arith
few row chain u N t short (Counting c from n) h = let a = walked_few row (chain (bucket c u)) c from t h in let b = short (bucket c u) in omega arith
few row chain u N t short (Drawing c from n) h = let a = walked_few row (chain (bucket c u)) c from t h in let b = short (bucket c u) in omega arith
few row chain u N t short (Placing c from i) h = let a = walked_few row (chain (bucket c u)) c from t h in let b = short (bucket c u) in omega arith
few row chain u N t short (Filling c from i r k) h = let a = walked_few row (chain (bucket c u)) c from t h in let b = short (bucket c u) in omega arith
few row chain u N t short (Numbering c from i r) h = let a = walked_few row (chain (bucket c u)) c from t h in let b = short (bucket c u) in omega arith
few row chain u N t short (Linking c from i r) h = let a = walked_few row (chain (bucket c u)) c from t h in let b = short (bucket c u) in omega arith
few row chain u N t short (Publishing c from i r) h = let a = walked_few row (chain (bucket c u)) c from t h in let b = short (bucket c u) in omega arith
few row chain u N t short (Loading ls) h = tt
few row chain u N t short (Storing ls ss) h = tt

each_taken : (P : ℕ → Type 0) (xs : List ℕ) (n : ℕ) → ((k : ℕ) → k < n → P (get_or xs k 0)) → n ≤ length xs → Each P (take n xs)
each_taken P xs zero h l = tt
each_taken P [] (suc n) h l = tt
each_taken P (x ∷ xs) (suc n) h l = (h 0 (omega arith), each_taken P xs n (λ k b. h (suc k) (omega arith)) (omega arith))

-- protected rows are below the number of rows
protected_below : (N : ℕ) (w : Place → ℕ) (i d : ℕ) (rs : List ℕ) (n : ℕ) → ((k : ℕ) → k < n → w (Root i k) < N) → ((k : ℕ) → k < d → w (Root i k) ≡ get_or rs k 0) → n ≤ d → n ≤ length rs → Each (λ r. r < N) (take n rs)
protected_below N w i d rs n below is few wide = each_taken (λ r. r < N) rs n (λ k l. subst (λ (r : ℕ). r < N) (is k (omega arith)) (below k l)) wide

-- the words of a seat in an access, with nothing under way of a collection
module _ (z : Sizes) (s : core.State) (i : ℕ) (store : Inductive z s) where
  pub quiet_in : (s.view i).stay ≢ Away → is_collecting (s.view i).call ≡ false → Holds z s store.core.meaning
  quiet_in stays calm = quiet z s store.core i (is_in s.lock i (s.view i).stay (store.core.holds.lock.access i) stays) calm

  pub rest_stays : IsAtRest (s.view i) → (s.view i).stay ≢ Away
  rest_stays rest e = let no : Ready ≡ Away = sym rest.stay ∙ e in grind arith

  pub knows : (rest : IsAtRest (s.view i)) → Each (IsKnown s.words store.core.meaning) (s.view i).knows
  knows rest = let q = quiet_in (rest_stays rest) (ap is_collecting rest.call) in (q.seats i).protects.knows ((q.seats i).numbers.base (rest_stays rest))

  -- the only seat has read a chain to its end: no name has the tree
  absent_at : i < z.seats → z.seats ≡ 1 → (x : Call) → (s.view i).call ≡ x → IsCreation x → (c : Content) (from : ℕ) → wanted x ≡ Some c → head_read x ≡ Some (c, from)
      → ((row : ℕ → RowWords) (chain : ℕ → List ℕ) (u n : ℕ) → IsWalk row chain u n x → Walked row (chain (bucket c u)) c from n) → IsAbsent (s.view i).entries c
  absent_at there one x e is c from wants head walks =
      let v = s.view i in
      let stays : v.stay ≢ Away = (λ f. let stay = (store.core.holds.seats i).numbers.calls (subst (λ (y : Call). y ≢ Idle) (sym e) (creation_busy x is)) in let no : Away ≡ Ready = sym f ∙ stay in grind arith) in
      let q = quiet_in stays (ap is_collecting e ∙ creation_calm x is) in
      let m = store.core.meaning in
      let seat : SeatHolds s.words m i (with_call v x) = subst (λ (y : Call). SeatHolds s.words m i (with_call v y)) e (q.seats i) in
      let now : IsUndisturbed s.words (with_call v x) = subst (λ (y : Call). IsUndisturbed s.words (with_call v y)) e (store.remembers.sole one i there) in
      let live = each_map _ _ c.arguments (λ r t. t.live) (where_at (wanted x) _ c wants seat.protects.wants).arguments in
      let lists : listed z.seats (λ j. (s.view j).entries) ≡ v.entries ∷ [] = ap (λ (n : ℕ). listed n (λ j. (s.view j).entries)) one ∙ ap (λ (j : ℕ). (s.view j).entries ∷ []) (let zero_is : 0 ≡ i = omega arith in zero_is) in
      let names : held_alone v.entries ≡ names_of m = ap (λ (ls : List (List Entry)). (set_of (chronicle ls)).held) (sym lists) ∙ q.history.pairs in
      subst (λ (h : Names). Lacks h (tree_over h c.head c.arguments)) (sym names)
      (names_lack z s.words m q.chains c live from v.passed (walks (row_at s.words) m.chain (s.words InUse) v.passed seat.walks.walk) (where_at (head_read x) _ (c, from) head now.head))

  ends_absent : i < z.seats → z.seats ≡ 1 → (x : Call) → (s.view i).call ≡ x → EndsAbsent (s.view i).entries x
  ends_absent there one (Ended c from) e = absent_at there one (Ended c from) e tt c from refl refl (λ row chain u n h. h)
  ends_absent there one (Counting c from n) e = absent_at there one (Counting c from n) e tt c from refl refl (λ row chain u n h. h)
  ends_absent there one (Drawing c from n) e = absent_at there one (Drawing c from n) e tt c from refl refl (λ row chain u n h. h)
  ends_absent there one Idle e = tt
  ends_absent there one (Comparing c d from old at k) e = tt
  ends_absent there one (Passing c d from old at dif) e = tt
  ends_absent there one (Finding c d r) e = tt
  ends_absent there one (Placing c from a) e = tt
  ends_absent there one (Filling c from a r k) e = tt
  ends_absent there one (Numbering c from a r) e = tt
  ends_absent there one (Linking c from a r) e = tt
  ends_absent there one (Publishing c from a r) e = tt
  ends_absent there one (Loading ls) e = tt
  ends_absent there one (Storing ls ss) e = tt

known_of : (z : Sizes) (s : core.State) (i : ℕ) → i < z.seats → Inductive z s → Known z (s.view i)
known_of z s i there store =
    let k = store.core in
    let h = k.holds in
    let seat = h.seats i in
    let x : Call = (s.view i).call in
    let own = store.remembers.own i in
    record {
      calls = seat.numbers.calls;
      used = λ e. subst (λ (n : ℕ). 0 < n) (sym (seat.numbers.in_use e)) h.chains.used;
      within = λ e. subst (λ (n : ℕ). n ≤ z.buckets) (sym (seat.numbers.in_use e)) h.chains.within;
      room = λ ne. let e = seat.numbers.base ne in let r = h.numbers.room in omega arith;
      looked = where_map (looked x) _ _ (λ r e l. h.chains.below r l.live) seat.walks.look;
      stands = stands k.kept k.meaning.chain (k.kept InUse) (s.view i).passed x seat.walks.walk;
      few = few (row_at k.kept) k.meaning.chain (k.kept InUse) z.rows (s.view i).passed (chain_few z k.kept k.meaning h.chains) x seat.walks.walk;
      index = where_map (index x) _ _ (λ a e d. let c = d.counted in let f = h.rows.few in omega arith) seat.drawn.index;
      later = where_map (index x) _ _ (λ a e d. let l = d.later in let stay = seat.numbers.calls (λ f. let no : None ≡ Some a = sym (ap index f) ∙ e in grind arith) in let b = seat.numbers.base (λ f. let no : Away ≡ Ready = sym f ∙ stay in grind arith) in omega arith) seat.drawn.index;
      drawn = where_map (drawn x) _ _ (λ d e r. let c = (where_at (index x) _ d.0 (index_drawn x d e) seat.drawn.index).counted in let t = h.rows.there d.0 c in let p = r.place in omega arith) seat.drawn.row;
      roots = own.wide;
      root_count = own.few;
      got = λ ne. each_map _ _ (s.view i).got (λ r t. h.chains.below r t.live) (seat.protects.got (seat.numbers.base ne));
      protects = λ rest.
          let inside = is_in s.lock i (s.view i).stay (h.lock.access i) (λ e. let no : Ready ≡ Away = sym rest.stay ∙ e in grind arith) in
          let q = quiet z s k i inside (ap is_collecting rest.call) in
          let c : s.words (RootCount i) ≡ (s.view i).root_count = own.count in
          let few : (s.view i).root_count ≤ z.depth = own.few in
          let wide : length (s.view i).roots ≡ z.depth = own.wide in
          protected_below z.rows s.words i z.depth (s.view i).roots (s.view i).root_count
          (λ j l. q.chains.below (s.words (Root i j)) ((q.seats i).protects.roots j (omega arith)).live)
          own.root few (omega arith);
      words = λ rest. word_once z s.words k.meaning (quiet_in z s i store (rest_stays z s i store rest) (ap is_collecting rest.call)).chains (s.view i).knows (knows z s i store rest);
      counts = λ rest r n e. let stands = word_stands s.words k.meaning r 1 n (s.view i).knows (knows z s i store rest) e in let value = stands.value_is in let few = store.remembers.counts r in omega arith;
      heads = λ rest. head_word z s.words k.meaning (quiet_in z s i store (rest_stays z s i store rest) (ap is_collecting rest.call)).chains (s.view i).knows (knows z s i store rest);
      trees = λ rest. tree_once z s.words k.meaning (quiet_in z s i store (rest_stays z s i store rest) (ap is_collecting rest.call)).chains (s.view i).knows (knows z s i store rest);
      absent = λ one. ends_absent z s i store there one x refl;
    }

pub known : (z : Sizes) (s : State (Unit {0}) NodeView) (i : ℕ) (v : NodeView) → Shows z s → get_elem? s.views i ≡ some v → Known z v.store
known z s i v rule at = subst (Known z) (store_here z s.views i v at) (known_of z (state_of z s.words s.views rule.lock.state) i (below z s i v rule at) (inductive z (state_of z s.words s.views rule.lock.state) rule.holds))

some_one : {i j : ℕ} → ◌≡◌ {A = Option ℕ} (Some i) (Some j) → i ≡ j
some_one e = grind arith

-- a word of the table is shown
pub shown_at : (z : Sizes) (words : List ℕ) (p : Place) → in_table z p ≡ true → shown z words p ≡ get_or words (index_of z p) 0
shown_at z words p e = ap (λ (b : Bool). cond b (get_or words (index_of z p) 0) 0) e

-- A step x of seat i is this action by the own view, where the lock is l.
abbrev pub IsAction : Sizes → core.State → ℕ → core.Step → (View → Action) → Type 0
IsAction z t i x a = after z t i x ≡ acted t.words t.view i t.lock (a (t.view i))

module _ (z : Sizes) (s : State (Unit {0}) NodeView) (i : ℕ) (v : NodeView) (rule : Shows z s) (at : get_elem? s.views i ≡ some v) (x : core.Step) (a : View → Action) (is : IsAction z (state_of z s.words s.views rule.lock.state) i x a) (there : in_table z (a v.store).place ≡ true) (crowd : List Tree) where
  abbrev p : Place
  p = (a v.store).place

  abbrev k : ℕ
  k = index_of z p

  -- the word that is found
  abbrev n : ℕ
  n = get_or s.words k 0

  abbrev w : NodeView
  w = swept v ((a v.store).moved n) crowd

  abbrev t : core.State
  t = state_of z s.words s.views rule.lock.state

  -- the table shows the store after the step
  pub action_after : (y : ℕ) → y ≡ (a v.store).written n → state_of z (set s.words k y) (set s.views i w) rule.lock.state ≡ after z t i x
  action_after y is_y =
      let inside_k : k < length s.words = (let q = place_inside z p there in let r = rule.wide in omega arith) in
      let seen : shown z (set s.words k y) ≡ write (shown z s.words) p ((a v.store).written n) = shown_written z s.words p y there inside_k ∙ ap (write (shown z s.words) p) is_y in
      let views : store_at z (set s.views i w) ≡ put (store_at z s.views) i w.store = store_set z s.views i w (inside z s i v rule at) in
      let done : ℕ → core.State = λ m. record { lock = rule.lock.state; words = write (shown z s.words) p ((a v.store).written m); view = put (store_at z s.views) i ((a v.store).moved m) } in
      let shows : state_of z (set s.words k y) (set s.views i w) rule.lock.state ≡ done n = λ q. record { lock = rule.lock.state; words = seen q; view = views q } in
      let acted_is : after z t i x ≡ done (shown z s.words p) = is ∙ ap (λ (u : View). acted t.words t.view i t.lock (a u)) (store_here z s.views i v at) in
      shows ∙ (sym (ap done (shown_at z s.words p there)) ∙ sym acted_is)

  pub action_keeps : Permits z t i x → (y : ℕ) → y ≡ (a v.store).written n → Shows z (record { words = set s.words k y; homes = s.homes; views = set s.views i w })
  unfolding lock_left
  action_keeps ok y is_y =
      record {
        lock = lock_left lock_of z.seats s i k y v w rule.lock at refl (past_lock z p);
        wide = let e = length-set s.words k y in let r = rule.wide in omega arith;
        holds = subst (StoreHolds z) (sym (action_after y is_y)) (keeps_store z t i x rule.holds record { present = below z s i v rule at; permitted = ok });
        sized = sized_set z s i v rule at w refl refl;
        some_made = some_set z s i v rule at w refl refl;
        count = count_set z s i v rule at w refl refl;
      }

  -- and what the entries tell is so after it
  pub action_recalls : Permits z t i x → (y : ℕ) → y ≡ (a v.store).written n → Recalls z (store_at z s.views) → Recalls z (store_at z (set s.views i w))
  action_recalls ok y is_y all =
      step_recalls z s.words s.views rule.lock.state i x (set s.words k y) (set s.views i w) rule.lock.state rule.holds
      record { in_place = record { present = below z s i v rule at; permitted = ok }; after = action_after y is_y } all

-- What a caller owes for a step of the store on the word k, which is this action: that it is in
-- place by the own view, whatever the words are, and that what it writes is what the step writes.
pub record OwesAction (z : Sizes) (v : NodeView) (i : ℕ) (x : core.Step) (a : View → Action) (k : ℕ) (f : ℕ → ℕ) : Type 0 where
  pub acts : (s : State (Unit {0}) NodeView) (rule : Shows z s) → get_elem? s.views i ≡ some v → IsAction z (state_of z s.words s.views rule.lock.state) i x a
  pub there : in_table z (a v.store).place ≡ true
  pub word : k ≡ index_of z (a v.store).place
  pub permitted : (s : State (Unit {0}) NodeView) (rule : Shows z s) → get_elem? s.views i ≡ some v → Permits z (state_of z s.words s.views rule.lock.state) i x
  pub writes : (s : State (Unit {0}) NodeView) → Shows z s → get_elem? s.views i ≡ some v → f (get_or s.words (index_of z (a v.store).place) 0) ≡ (a v.store).written (get_or s.words (index_of z (a v.store).place) 0)

-- the seat's crowd after a step, in each store; with it the crowds are kept
pub record OwesCrowd (z : Sizes) (v : NodeView) (i : ℕ) (x : core.Step) (crowd : core.State → List Tree) : Type 0 where
  pub kept : (t : core.State) → StoreHolds z t → InPlace z t i x → (crowds : ℕ → List Tree) → crowds i ≡ v.crowd → Crowds z t.view crowds → Crowds z (after z t i x).view (put crowds i (crowd t))

-- a step that isn't the last store of a collection leaves the crowd
pub crowd_stays : (z : Sizes) (v : NodeView) (i : ℕ) (x : core.Step) → IsNoEnd x → OwesCrowd z v i x (λ _. v.crowd)
crowd_stays z v i x is = record {
  kept = λ t holds ok crowds own was. subst (Crowds z (after z t i x).view) (sym (crowd_again crowds i v.crowd own)) (crowds_stay z t i (inductive z t holds) ok.present crowds was x is ok);
}

-- What such a step tells: the new view with some crowd, and that there is a store in which the seat
-- has this view and this crowd.
abbrev pub TellsCrowd : (View → Action) → Me (Unit {0}) NodeView → ℕ → Me (Unit {0}) NodeView → Type 0
TellsCrowd a me n me' = (me' ≡ (swept me.0 ((a me.0.store).moved n) me'.0.crowd, me.1)) × Known me.0.sizes me'.0.store × ((j : ℕ) → me.0.lock.number ≡ Some j → HasCrowd me.0.sizes j me'.0)

-- or the new view with the same crowd, and that there is a store in which the seat has it
abbrev pub TellsAction : (View → Action) → Me (Unit {0}) NodeView → ℕ → Me (Unit {0}) NodeView → Type 0
TellsAction a me n me' = (me' ≡ (with_store me.0 ((a me.0.store).moved n), me.1)) × Known me.0.sizes me'.0.store × ((j : ℕ) → me.0.lock.number ≡ Some j → HasStore me.0.sizes j me'.0.store)

pub store_stands : (z : Sizes) (i : ℕ) (v : NodeView) → HasCrowd z i v → HasStore z i v.store
store_stands z i v h = record { store = h.store; holds = h.holds; own = h.own }

-- by the rule a seat has its crowd
abbrev pub crowd_stands : (z : Sizes) (s : State (Unit {0}) NodeView) (i : ℕ) (v : NodeView) (rule : Shows z s) → get_elem? s.views i ≡ some v → Crowds z (store_at z s.views) (crowd_at s.views) → HasCrowd z i v
crowd_stands z s i v rule at crowds =
    let l = below z s i v rule at in
    let here = store_here z s.views i v at in
    let mine = crowd_here s.views i v at in
    record {
      store = state_of z s.words s.views rule.lock.state;
      holds = rule.holds;
      own = here;
      crowd = subst (λ (p : View × List Tree). IsCrowd (listed z.seats (λ j. (store_at z s.views j).entries)) i p.0.entries p.1) (λ q. (here q, mine q)) (crowds.each i l);
      held = subst (λ (p : View × List Tree). IsSwept p.0 → held_by z (store_at z s.views) ≡ pairs_of (kept_in p.0.entries) p.1) (λ q. (here q, mine q)) (crowds.held i l);
    }

-- the crowds after a step
crowds_after : (z : Sizes) (s : State (Unit {0}) NodeView) (i : ℕ) (v : NodeView) (rule : Shows z s) → get_elem? s.views i ≡ some v → Crowds z (store_at z s.views) (crowd_at s.views) → (x : core.Step) (w : NodeView) (words : List ℕ)
    → state_of z words (set s.views i w) rule.lock.state ≡ after z (state_of z s.words s.views rule.lock.state) i x → Permits z (state_of z s.words s.views rule.lock.state) i x
    → (crowd : core.State → List Tree) → w.crowd ≡ crowd (state_of z s.words s.views rule.lock.state) → OwesCrowd z v i x crowd → Crowds z (store_at z (set s.views i w)) (crowd_at (set s.views i w))
crowds_after z s i v rule at crowds x w words is ok crowd own owes =
    let t = state_of z s.words s.views rule.lock.state in
    let new = owes.kept t rule.holds record { present = below z s i v rule at; permitted = ok } (crowd_at s.views) (crowd_here s.views i v at) crowds in
    subst (λ (p : (ℕ → View) × (ℕ → List Tree)). Crowds z p.0 p.1) (λ q. (
      sym (ap (λ (u : core.State). u.view) is) q,
      sym (crowd_set s.views i w (inside z s i v rule at) ∙ ap (put (crowd_at s.views) i) own) q,
    )) new

pub crowd_allows : (z : Sizes) (slots id : ℕ) (me : Me (Unit {0}) NodeView) (i : ℕ) (x : core.Step) (a : View → Action) (k : ℕ) (f : ℕ → ℕ) → me.0.lock.number ≡ Some i → OwesAction z me.0 i x a k f
    → (crowd : core.State → List Tree) → OwesCrowd z me.0 i x crowd → (tells : ℕ → Me (Unit {0}) NodeView → Type 0)
    → ((n : ℕ) (t : core.State) → TellsCrowd a me n (swept me.0 ((a me.0.store).moved n) (crowd t), me.1) → tells n (swept me.0 ((a me.0.store).moved n) (crowd t), me.1))
    → Allows (ShowsJoined z) slots id me k f tells
unfolding lock_left
crowd_allows z slots id me i x a k f is o crowd owes tells tell = subst (λ (q : ℕ). Allows (ShowsJoined z) slots id me q f tells) (sym o.word)
    (λ s rule _ at0 _.
    let lives = not_spent me.0 i is in
    let t : State (Unit {0}) NodeView = with_views s rule.known in
    let known_here : get_elem? t.views id ≡ some me.0 = known_at rule.known s.views rule.joins id me.0 at0 lives in
    let same : i ≡ id = same_place t id i me.0 rule.shows.lock known_here is in
    let at : get_elem? t.views i ≡ some me.0 = subst (λ (q : ℕ). get_elem? t.views q ≡ some me.0) (sym same) known_here in
    let was : core.State = state_of z t.words t.views rule.shows.lock.state in
    let c : List Tree = crowd was in
    let q : ℕ = index_of z (a me.0.store).place in
    let n : ℕ = get_or s.words q 0 in
    let w : NodeView = swept me.0 ((a me.0.store).moved n) c in
    let acts = o.acts t rule.shows at in
    let ok = o.permitted t rule.shows at in
    let writes = o.writes t rule.shows at in
    let new : Shows z (stepped t q (f n) i me.1 w keeps) = action_keeps z t i me.0 rule.shows at x a acts o.there c ok (f n) writes in
    let there : Shows z (stepped t q (f n) id me.1 w keeps) = subst (λ (j : ℕ). Shows z (stepped t q (f n) j me.1 w keeps)) same new in
    let here : get_elem? (set t.views i w) i ≡ some w = set_here t.views i w (inside z t i me.0 rule.shows at) in
    let crowds : Crowds z (store_at z (set t.views i w)) (crowd_at (set t.views i w)) =
    crowds_after z t i me.0 rule.shows at rule.crowds x w (set t.words q (f n)) (action_after z t i me.0 rule.shows at x a acts o.there c (f n) writes) ok crowd refl owes in
    let stands : HasCrowd z i w = crowd_stands z (stepped t q (f n) i me.1 w keeps) i w new here crowds in
    let whole : ShowsJoined z (stepped s q (f n) id me.1 w keeps) = record {
      known = set rule.known id w;
      joins = step_gathers rule.known s.views rule.joins id me.0 at0 lives w refl;
      lock = lock_left lock_of z.seats s id q (f n) me.0 w rule.lock at0 refl (past_lock z (a me.0.store).place);
      shows = there;
      recalls = subst (λ (j : ℕ). Recalls z (store_at z (set rule.known j w))) same (action_recalls z t i me.0 rule.shows at x a acts o.there c ok (f n) writes rule.recalls);
      crowds = subst (λ (j : ℕ). Crowds z (store_at z (set t.views j w)) (crowd_at (set t.views j w))) same crowds;
    } in
    let sizes : z ≡ me.0.sizes = sym (rule.shows.sized i me.0 at) in (
      w,
      keeps,
      tt,
      whole,
      tell n was (
        refl,
        subst (λ (y : Sizes). Known y w.store) sizes (known z (stepped t q (f n) i me.1 w keeps) i w new here),
        (λ j e. subst (λ (y : Sizes × ℕ). HasCrowd y.0 y.1 w) (λ c. (sizes c, some_one (sym is ∙ e) c)) stands),
      ),
    ))

-- a step that isn't the last store of a collection
pub action_allows : (z : Sizes) (slots id : ℕ) (me : Me (Unit {0}) NodeView) (i : ℕ) (x : core.Step) (a : View → Action) (k : ℕ) (f : ℕ → ℕ) → me.0.lock.number ≡ Some i → OwesAction z me.0 i x a k f → IsNoEnd x
    → Allows (ShowsJoined z) slots id me k f (TellsAction a me)
action_allows z slots id me i x a k f is o no_end = crowd_allows z slots id me i x a k f is o (λ _. me.0.crowd) (crowd_stays z me.0 i x no_end) (TellsAction a me)
    (λ n t tells. (tells.0, tells.1, λ j e. store_stands me.0.sizes j (with_store me.0 ((a me.0.store).moved n)) (tells.2 j e)))

-- What a caller owes for a step on the word k: that it is in place by the own view, whatever the
-- words are, and that what it writes is what the step writes.
pub record Owes (z : Sizes) (v : NodeView) (i : ℕ) (x : core.Step) (k : ℕ) (f : ℕ → ℕ) : Type 0 where
  pub is : Acts x
  pub there : in_table z (place_of i x v.store) ≡ true
  pub word : k ≡ index_of z (place_of i x v.store)
  pub permitted : (s : State (Unit {0}) NodeView) (rule : Shows z s) → get_elem? s.views i ≡ some v → Permits z (state_of z s.words s.views rule.lock.state) i x
  pub writes : (s : State (Unit {0}) NodeView) → Shows z s → get_elem? s.views i ≡ some v → f (get_or s.words (index_of z (place_of i x v.store)) 0) ≡ written_by x v.store (get_or s.words (index_of z (place_of i x v.store)) 0)

-- what a step of the store tells
abbrev pub Tells : core.Step → Me (Unit {0}) NodeView → ℕ → Me (Unit {0}) NodeView → Type 0
Tells x me n me' = (me' ≡ (with_store me.0 (moved_by x me.0.store n), me.1)) × Known me.0.sizes me'.0.store

pub own_allows : (z : Sizes) (slots id : ℕ) (me : Me (Unit {0}) NodeView) (i : ℕ) (x : core.Step) (k : ℕ) (f : ℕ → ℕ) → me.0.lock.number ≡ Some i → Owes z me.0 i x k f
    → Allows (ShowsJoined z) slots id me k f (Tells x me)
own_allows z slots id me i x k f is o s rule homes at small =
    let t = action_allows z slots id me i x (act i x) k f is record {
      acts = λ u shows _. acts z (state_of z u.words u.views shows.lock.state) i x o.is;
      there = o.there;
      word = o.word;
      permitted = o.permitted;
      writes = o.writes;
    } (acts_no_end x o.is) s rule homes at small in
    (t.0, t.1, t.2, t.3, (t.4.0, t.4.1))
