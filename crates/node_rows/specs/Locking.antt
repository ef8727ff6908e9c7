-- Each step of the lock keeps the rule.
use Rattle.std.proofs.Common.{◌≡◌, ◌≢◌, ◌⊎◌, inl, inr, ℕ, zero, suc, ◌+◌, ◌*◌, ◌<◌, eqb, Bool, true, false, cond, List, [], ◌∷◌, length, map, get_or, set, refl, sym, ap, ◌∙◌, subst, ⊎_elim, arith, length-set, ne_eqb, true≢false}
use mathlib.Core.Logic.{dite}
use mathlib.Core.Path.{fun_ext}
use mathlib.Core.Option.{some, some-injective, some-ne-none}
use native.Mathlib.Decide.{ℕ_discrete}
use lib.ListN.{get_elem?}
use Rattle.std.proofs.lemmas.List.{length-map}
use Rattle.atomic_table.specs.Table.{State}
use Rattle.atomic_table.proofs.Lists.{at_set, at_map}
use Rattle.term_model.specs.Tree.{Tree}
use Rattle.lock_core.specs.declared.parts.Phase.TheVariants.{Shared, Blocked, Holder}
use Rattle.lock_core.specs.declared.parts.Standing.TheVariants.{Free, Seen, Held}
use Rattle.lock_core.specs.declared.parts.LockStep.{LockStep}
use Rattle.lock_core.specs.declared.parts.LockStep.TheVariants.{Raise, Look, Lower, Take, Ask, Peek, Unask, Give}
use Rattle.lock_core.specs.Lock as lock
use Rattle.lock_core.specs.Lock.{seat_of}
use Rattle.busy_forbidden.specs.declared.view.LockView.{LockView}
use Rattle.busy_forbidden.specs.Shown.{standing, put, view_at}
use Rattle.busy_forbidden.specs.Moves.{word_of, written, moved, MayStep}
use Rattle.busy_forbidden.specs.Rules.{seen, Keeps, ShowsLock, IsNext, after_step}
use Rattle.busy_forbidden.specs.Calls.{LeavesMore}
use Rattle.busy_forbidden.specs.Views.{at_view, put_same, put_other}
use Rattle.busy_forbidden.specs.OnlyKeeps.{lock_kept}
use Rattle.busy_forbidden.specs.Simulation.{in_place}
use Rattle.store_model.specs.declared.view.Sizes.{Sizes}
use Rattle.store_model.specs.declared.view.View.{View}
use Rattle.store_model.specs.declared.view.Call.TheVariants.{Idle}
use Rattle.store_model.specs.declared.view.Stay.{Stay}
use Rattle.store_model.specs.declared.view.Stay.TheVariants.{Away, Based, Ready, Leaving}
use Rattle.store_model.specs.Words as words
use Rattle.store_model.specs.Machine as core
use Rattle.store_model.specs.Machine.{UnaskSeat, GiveGranted, left, leaving, protected_in}
use Rattle.store_model.specs.Shown.{shown}
use Rattle.store_model.specs.Recalls.{Recalls}
use Rattle.store_model.specs.StoreHolds.{StoreHolds}
use Rattle.store_model.specs.Steps.{InPlace, Permits, IsAtRest, MayLeave}
use Rattle.store_model.specs.Steps as steps
use Rattle.store_model.specs.StoreSteps.{lock_meant}
use Rattle.store_model.proofs.Basics.{choose, eqb_is, eqb_not}
use Rattle.store_model.proofs.Shown.{shown_apart}
use Rattle.store_model.proofs.Eight.{eight, inductive}
use Rattle.store_model.proofs.Runs.{step_kept}
use Rattle.node_rows.specs.declared.view.NodeView.{NodeView}
use Rattle.node_rows.specs.Shown.{lock_of, seats_of, store_at, state_of, Shows, IsStoreStep, IsAway, IsEnding, IsClosed, node_can, ended, freed, store_next, node_next, rest_of, is_out}
use Rattle.node_rows.specs.Crowding.{Crowds, crowd_at}
use Rattle.node_rows.specs.CrowdsKept.{crowds_stay, lock_no_end, crowd_same}
use Rattle.node_rows.specs.Joining.{with_views, ShowsJoined}
use Rattle.node_rows.specs.Gathering.{not_spent, known_at, step_gathers}
use Rattle.node_rows.specs.Recalling.{step_recalls}

pub node_moves : (v : NodeView) (x : LockStep) (n : ℕ)
    → lock_of (node_next x n v) ≡ moved (lock_of v) x n
node_moves v x n = refl

pub node_shows : (z : Sizes) (s : State (Unit {0}) NodeView) → ShowsJoined z s
    → ShowsLock lock_of (seats_of z) s
node_shows z s h = h.lock

-- where one more seat is freed, each still stands as held or free
freed_closed : (v : LockView) (j : ℕ) → IsClosed v → (k : ℕ)
    → (get_or (put v.standings j Free) k Free ≡ Free)
    ⊎ (get_or (put v.standings j Free) k Free ≡ Held)
freed_closed v j c k = dite (ℕ_discrete k j)
    (λ e. inl (subst (λ (k : ℕ). get_or (put v.standings j Free) k Free ≡ Free) (sym e)
    (put_same v.standings j Free)))
    (λ ne. ⊎_elim (λ f. inl (put_other v.standings j k Free ne ∙ f))
    (λ h. inr (put_other v.standings j k Free ne ∙ h)) (c k))

-- what a step of the lock leaves of a seat that is away
pub ended_off : (a : Stay) (v : View) → a ≡ Away → ended a v ≡ v
ended_off Away v e = refl
ended_off Based v e = absurd (let no : Based ≡ Away = e in grind arith)
ended_off Ready v e = absurd (let no : Ready ≡ Away = e in grind arith)
ended_off Leaving v e = absurd (let no : Leaving ≡ Away = e in grind arith)

pub freed_off : (a : Stay) (v : View) → a ≡ Away → freed a v ≡ v
freed_off Away v e = refl
freed_off Based v e = absurd (let no : Based ≡ Away = e in grind arith)
freed_off Ready v e = absurd (let no : Ready ≡ Away = e in grind arith)
freed_off Leaving v e = absurd (let no : Leaving ≡ Away = e in grind arith)

-- and of one that is in an access
pub ended_on : (a : Stay) (v : View) → a ≢ Away → ended a v ≡ left v (protected_in v)
ended_on Away v ne = absurd (ne refl)
ended_on Based v ne = refl
ended_on Ready v ne = refl
ended_on Leaving v ne = refl

pub freed_on : (a : Stay) (v : View) → a ≢ Away → freed a v ≡ leaving v
freed_on Away v ne = absurd (ne refl)
freed_on Based v ne = refl
freed_on Ready v ne = refl
freed_on Leaving v ne = refl

pub at_rest_in : (v : View) → IsAtRest v → v.stay ≢ Away
at_rest_in v t e = let no : Ready ≡ Away = sym t.stay ∙ e in grind arith

pub ending_in : (v : View) → IsEnding v → v.stay ≢ Away
ending_in v t e = ⊎_elim (λ r. let no : Ready ≡ Away = sym r ∙ e in grind arith)
    (λ l. let no : Leaving ≡ Away = sym l ∙ e in grind arith) t.stay

ends_away : (a : Stay) (v : View) → v.stay ≡ a → v.call ≡ Idle → IsAway (ended a v)
ends_away Away v e idle = record { stay = e; call = idle }
ends_away Based v e idle = record { stay = refl; call = idle }
ends_away Ready v e idle = record { stay = refl; call = idle }
ends_away Leaving v e idle = record { stay = refl; call = idle }

frees_away : (v : View) → IsAway v → IsAway (freed v.stay v)
frees_away v t = subst IsAway (sym (freed_off v.stay v t.stay)) t

frees_ending : (v : View) → IsEnding v → IsEnding (freed v.stay v)
frees_ending v t = subst IsEnding (sym (freed_on v.stay v (ending_in v t)))
    record { stay = inr refl; call = t.call }

pub node_follows : (n i : ℕ) (v : NodeView) (x : LockStep) (f : ℕ) (y : LockStep)
    → MayStep n i (lock_of v) x → node_can x v → IsNext (lock_of v) x (seen x f) y
    → node_can y (node_next x (seen x f) v)
node_follows n i v Raise f Raise ok may h = absurd h
node_follows n i v Raise f Look ok may h = may
node_follows n i v Raise f Lower ok may h = absurd h
node_follows n i v Raise f Take ok may h = absurd h
node_follows n i v Raise f (Ask k) ok may h = absurd h
node_follows n i v Raise f (Peek k) ok may h = absurd h
node_follows n i v Raise f (Unask k) ok may h = absurd h
node_follows n i v Raise f Give ok may h = absurd h
node_follows n i v Look f Raise ok may h = absurd h
node_follows n i v Look f Look ok may h = absurd h
node_follows n i v Look f Lower ok may h = inl (may, ap (λ b. cond b Shared Blocked) (ne_eqb f 0 h))
node_follows n i v Look f Take ok may h = absurd h
node_follows n i v Look f (Ask k) ok may h = absurd h
node_follows n i v Look f (Peek k) ok may h = absurd h
node_follows n i v Look f (Unask k) ok may h = absurd h
node_follows n i v Look f Give ok may h = absurd h
node_follows n i v Lower f Raise ok may h = absurd h
node_follows n i v Lower f Look ok may h = absurd h
node_follows n i v Lower f Lower ok may h = absurd h
node_follows n i v Lower f Take ok may h =
    ends_away v.store.stay v.store refl (⊎_elim (λ t. t.0.call) (λ t. t.0.call) may)
node_follows n i v Lower f (Ask k) ok may h = absurd h
node_follows n i v Lower f (Peek k) ok may h = absurd h
node_follows n i v Lower f (Unask k) ok may h = absurd h
node_follows n i v Lower f Give ok may h = absurd h
node_follows n i v Take f Raise ok may h = absurd h
node_follows n i v Take f Look ok may h = absurd h
node_follows n i v Take f Lower ok may h = absurd h
node_follows n i v Take f Take ok may h = may
node_follows n i v Take f (Ask k) ok may h = may
node_follows n i v Take f (Peek k) ok may h = absurd h
node_follows n i v Take f (Unask k) ok may h = absurd h
node_follows n i v Take f Give ok may h = inl may
node_follows n i v (Ask j) f Raise ok may h = absurd h
node_follows n i v (Ask j) f Look ok may h = absurd h
node_follows n i v (Ask j) f Lower ok may h = absurd h
node_follows n i v (Ask j) f Take ok may h = absurd h
node_follows n i v (Ask j) f (Ask k) ok may h = absurd h
node_follows n i v (Ask j) f (Peek k) ok may h = may
node_follows n i v (Ask j) f (Unask k) ok may h = absurd h
node_follows n i v (Ask j) f Give ok may h = absurd h
node_follows n i v (Peek j) f Raise ok may h = absurd h
node_follows n i v (Peek j) f Look ok may h = absurd h
node_follows n i v (Peek j) f Lower ok may h = absurd h
node_follows n i v (Peek j) f Take ok may h = absurd h
node_follows n i v (Peek j) f (Ask k) ok may h = may
node_follows n i v (Peek j) f (Peek k) ok may h = absurd h
node_follows n i v (Peek j) f (Unask k) ok may h = inl may
node_follows n i v (Peek j) f Give ok may h = absurd h
node_follows n i v (Unask j) f Raise ok may h = absurd h
node_follows n i v (Unask j) f Look ok may h = absurd h
node_follows n i v (Unask j) f Lower ok may h = absurd h
node_follows n i v (Unask j) f Take ok may h = absurd h
node_follows n i v (Unask j) f (Ask k) ok may h = ⊎_elim (λ t. frees_away v.store t)
    (λ t. absurd (⊎_elim (λ e. let no : Seen ≡ Free = sym h ∙ e in grind arith)
    (λ e. let no : Seen ≡ Held = sym h ∙ e in grind arith) (t.1 j))) may
node_follows n i v (Unask j) f (Peek k) ok may h = absurd h
node_follows n i v (Unask j) f (Unask k) ok may h = ⊎_elim (λ t. inl (frees_away v.store t))
    (λ t. inr (frees_ending v.store t.0, freed_closed v.lock j t.1)) may
node_follows n i v (Unask j) f Give ok may h =
    ⊎_elim (λ t. inl (frees_away v.store t)) (λ t. inr (frees_ending v.store t.0)) may
node_follows n i v Give f Raise ok may h =
    ends_away v.store.stay v.store refl (⊎_elim (λ t. t.call) (λ t. t.call) may)
node_follows n i v Give f Look ok may h = absurd h
node_follows n i v Give f Lower ok may h = absurd h
node_follows n i v Give f Take ok may h = absurd h
node_follows n i v Give f (Ask k) ok may h = absurd h
node_follows n i v Give f (Peek k) ok may h = absurd h
node_follows n i v Give f (Unask k) ok may h = absurd h
node_follows n i v Give f Give ok may h = absurd h

-- a step that is in place is on a word of the lock
word_inside : (n i : ℕ) (v : LockView) (x : LockStep) → i < n → MayStep n i v x
    → word_of i x < 1 + 2 * n
word_inside n i v Raise l ok = omega arith
word_inside n i v Look l ok = omega arith
word_inside n i v Lower l ok = omega arith
word_inside n i v Take l ok = omega arith
word_inside n i v (Ask j) l ok = let b = ok.1 in omega arith
word_inside n i v (Peek j) l ok = let b = ok.1 in omega arith
word_inside n i v (Unask j) l ok = let b = ok.1 in omega arith
word_inside n i v Give l ok = omega arith

-- no step of the lock changes what is known of the store by a seat that is away
next_off : (x : LockStep) (v : View) → v.stay ≡ Away → store_next x v ≡ v
next_off Raise v e = refl
next_off Look v e = refl
next_off Lower v e = ended_off v.stay v e
next_off Take v e = refl
next_off (Ask j) v e = refl
next_off (Peek j) v e = refl
next_off (Unask j) v e = freed_off v.stay v e
next_off Give v e = ended_off v.stay v e

pub store_here : (z : Sizes) (vs : List NodeView) (i : ℕ) (v : NodeView) → get_elem? vs i ≡ some v
    → store_at z vs i ≡ v.store
store_here z [] i v e = absurd (some-ne-none v (sym e))
store_here z (x ∷ xs) zero v e = ap (λ (u : NodeView). u.store) (some-injective x v e)
store_here z (x ∷ xs) (suc i) v e = store_here z xs i v e

set_same : (z : Sizes) (vs : List NodeView) (i : ℕ) (w : NodeView) → i < length vs
    → store_at z (set vs i w) i ≡ w.store
set_same z [] i w l = absurd (omega arith)
set_same z (x ∷ xs) zero w l = refl
set_same z (x ∷ xs) (suc i) w l = set_same z xs i w (omega arith)

set_other : (z : Sizes) (vs : List NodeView) (i : ℕ) (w : NodeView) (j : ℕ) → j ≢ i
    → store_at z (set vs i w) j ≡ store_at z vs j
set_other z [] i w j ne = refl
set_other z (x ∷ xs) zero w zero ne = absurd (ne refl)
set_other z (x ∷ xs) zero w (suc j) ne = refl
set_other z (x ∷ xs) (suc i) w zero ne = refl
set_other z (x ∷ xs) (suc i) w (suc j) ne = set_other z xs i w j (λ e. ne (ap suc e))

-- what the views show after an own step
pub store_set : (z : Sizes) (vs : List NodeView) (i : ℕ) (w : NodeView) → i < length vs
    → store_at z (set vs i w) ≡ words.put (store_at z vs) i w.store
store_set z vs i w l =
    fun_ext (λ j. choose (λ u. store_at z (set vs i w) j ≡ u) (eqb j i) w.store (store_at z vs j)
    (λ e. subst (λ (k : ℕ). store_at z (set vs i w) k ≡ w.store) (sym (eqb_is j i e))
    (set_same z vs i w l))
    (λ e. set_other z vs i w j (eqb_not j i e)))

pub put_again : (f : ℕ → View) (i : ℕ) (x : View) → f i ≡ x → words.put f i x ≡ f
put_again f i x e = fun_ext (λ j. choose (λ u. u ≡ f j) (eqb j i) x (f j)
    (λ h. sym (ap f (eqb_is j i h) ∙ e))
    (λ h. refl))

abbrev is_lower : LockStep → Bool
is_lower Lower = true
is_lower x = false

not_lower : (x : LockStep) → is_lower x ≡ false → x ≡ Lower → ⊥
not_lower x h e = true≢false (sym (ap is_lower e) ∙ h)

module _ (z : Sizes) (s : State (Unit {0}) NodeView) (i : ℕ) (v : NodeView) (rule : Shows z s) (at : get_elem? s.views i ≡ some v) where
  there : (view_at (map lock_of s.views) i ≡ v.lock) × (i < length (map lock_of s.views))
  there = at_view (map lock_of s.views) i v.lock (at_map lock_of s.views i v at)

  pub inside : i < length s.views
  inside = let h = there.1 in let m = length-map s.views lock_of in omega arith

  pub below : i < z.seats
  below = let h = there.1 in let f = rule.lock.shows.few in omega arith

  pub phase_is : (seat_of rule.lock.state i).phase ≡ v.lock.phase
  phase_is = rule.lock.shows.phase i ∙ ap (λ (u : LockView). u.phase) there.0

  pub stands_is : v.lock.phase ≡ Holder → (j : ℕ) → (seat_of rule.lock.state j).standing
      ≡ standing v.lock j
  stands_is p j = rule.lock.shows.stands i j (ap (λ (u : LockView). u.phase) there.0 ∙ p)
      ∙ ap (λ (u : LockView). standing u j) there.0

  placed : (x : LockStep) → MayStep z.seats i v.lock x → lock.InPlace rule.lock.state i x
  placed x ok = in_place z.seats s.words (map lock_of s.views) rule.lock.state rule.lock.shows
      rule.lock.sound i there.1 x (subst (λ u. MayStep z.seats i u x) (sym there.0) ok)

  pub here : store_at z s.views i ≡ v.store
  here = store_here z s.views i v at

  abbrev pub shown_state : core.State
  shown_state = state_of z s.words s.views rule.lock.state

  -- the store with this own view, after a step of the lock
  abbrev pub left_by : LockStep → View → core.State
  left_by x u = record {
    lock = lock.after rule.lock.state i x;
    words = shown z s.words;
    view = words.put (store_at z s.views) i u;
  }

  -- a fact of the own view, as the store has it
  shown_too : (P : View → Type 0) → P v.store → P (store_at z s.views i)
  shown_too P h = subst P (sym here) h

  -- the step of the lock is this one of the store
  record IsMeant (x : LockStep) (y : core.Step) : Type 0 where
    permitted : Permits z shown_state i y
    after : left_by x (store_next x v.store) ≡ steps.after z shown_state i y

  alone : (x : LockStep) → MayStep z.seats i v.lock x → (x ≡ Lower → v.lock.phase ≡ Blocked)
      → IsAway v.store → IsMeant x (lock_meant v.store.stay x)
  alone x ok blocked away =
      subst (λ (a : Stay). IsMeant x (lock_meant a x)) (sym away.stay) record {
        permitted = (
          λ e. phase_is ∙ blocked e,
          placed x ok,
          ap (λ (u : View). u.stay) here
              ∙ away.stay,
        );
        after =
            let same : words.put (store_at z s.views) i (store_next x v.store) ≡ store_at z s.views =
            put_again (store_at z s.views) i (store_next x v.store)
            (here ∙ sym (next_off x v.store away.stay)) in
            ap (λ f. record {
              lock = lock.after rule.lock.state i x;
              words = shown z s.words;
              view = f;
            }) same;
      }

  -- the own view where an access has ended
  leaves : (x : LockStep) → left_by x (left v.store (protected_in v.store))
      ≡ left_by x (left (store_at z s.views i) (protected_in (store_at z s.views i)))
  leaves x = ap (λ (u : View). left_by x (left u (protected_in u))) (sym here)

  lowers : MayStep z.seats i v.lock Lower → node_can Lower v
      → IsMeant Lower (lock_meant v.store.stay Lower)
  lowers ok may = ⊎_elim
      (λ t. alone Lower ok (λ _. t.1) t.0)
      (λ t. subst (λ (a : Stay). IsMeant Lower (lock_meant a Lower)) (sym t.0.stay) record {
        permitted = (phase_is ∙ t.1, placed Lower ok, shown_too IsAtRest t.0);
        after = ap (left_by Lower) (ended_on v.store.stay v.store (at_rest_in v.store t.0))
            ∙ leaves Lower;
      })
      may

  -- a seat at the end of its exclusive access, by how far that has come
  by_stay : (P : Stay → Type 0) → IsEnding v.store → P Ready → P Leaving → P v.store.stay
  by_stay P t a b = ⊎_elim (λ e. subst P (sym e) a) (λ e. subst P (sym e) b) t.stay

  gives : MayStep z.seats i v.lock Give → node_can Give v
      → IsMeant Give (lock_meant v.store.stay Give)
  gives ok may = ⊎_elim
      (λ t. alone Give ok (λ h. absurd (not_lower Give refl h)) t)
      (λ t.
      let meant : IsMeant Give GiveGranted = record {
        permitted = (
          placed Give ok,
          ap (λ (u : View). u.call) here
              ∙ t.call,
          shown_too MayLeave t.stay,
        );
        after = ap (left_by Give) (ended_on v.store.stay v.store (ending_in v.store t))
            ∙ leaves Give;
      } in
      by_stay (λ a. IsMeant Give (lock_meant a Give)) t meant meant)
      may

  unasks : (j : ℕ) → MayStep z.seats i v.lock (Unask j) → node_can (Unask j) v
      → IsMeant (Unask j) (lock_meant v.store.stay (Unask j))
  unasks j ok may = ⊎_elim
      (λ t. alone (Unask j) ok (λ h. absurd (not_lower (Unask j) refl h)) t)
      (λ t.
      let meant : IsMeant (Unask j) (UnaskSeat j) = record {
        permitted = (
          placed (Unask j) ok,
          ap (λ (u : View). u.call) here
              ∙ t.0.call,
          shown_too MayLeave t.0.stay,
        );
        after = ap (left_by (Unask j)) (freed_on v.store.stay v.store (ending_in v.store t.0))
            ∙ ap (λ (u : View). left_by (Unask j) (leaving u)) (sym here);
      } in
      by_stay (λ a. IsMeant (Unask j) (lock_meant a (Unask j))) t.0 meant meant)
      may

  meant : (x : LockStep) → MayStep z.seats i v.lock x → node_can x v
      → IsMeant x (lock_meant v.store.stay x)
  meant Raise ok may = alone Raise ok (λ h. absurd (not_lower Raise refl h)) may
  meant Look ok may = alone Look ok (λ h. absurd (not_lower Look refl h)) may
  meant Lower ok may = lowers ok may
  meant Take ok may = alone Take ok (λ h. absurd (not_lower Take refl h)) may
  meant (Ask j) ok may = alone (Ask j) ok (λ h. absurd (not_lower (Ask j) refl h)) may
  meant (Peek j) ok may = alone (Peek j) ok (λ h. absurd (not_lower (Peek j) refl h)) may
  meant (Unask j) ok may = unasks j ok may
  meant Give ok may = gives ok may

  -- each step of the lock is the store's
  pub lock_step_is : (x : LockStep) → MayStep z.seats i v.lock x → node_can x v → (n y : ℕ)
      → IsStoreStep z s.words s.views rule.lock.state i (lock_meant v.store.stay x)
      (set s.words (word_of i x) y) (set s.views i (node_next x n v))
      (lock.after rule.lock.state i x)
  lock_step_is x ok may n y =
      let m = meant x ok may in
      let l : word_of i x < 1 + 2 * z.seats = word_inside z.seats i v.lock x below ok in
      let shows : state_of z (set s.words (word_of i x) y) (set s.views i (node_next x n v))
      (lock.after rule.lock.state i x) ≡ left_by x (store_next x v.store) = λ q. record {
        lock = lock.after rule.lock.state i x;
        words = shown_apart z s.words (word_of i x) y l q;
        view = store_set z s.views i (node_next x n v) inside q;
      } in
      record {
        in_place = record { present = below; permitted = m.permitted };
        after = shows ∙ m.after;
      }

  -- what each seat knows besides, after an own step
  module _ (w : NodeView) (sizes : w.sizes ≡ v.sizes) (made : w.made ≡ v.made) where
    pub sized_set : (j : ℕ) (u : NodeView) → get_elem? (set s.views i w) j ≡ some u → u.sizes ≡ z
    sized_set j u e = ⊎_elim
        (λ (t : (j ≡ i) × (w ≡ u)). ap (λ (a : NodeView). a.sizes) (sym t.1)
        ∙ (sizes ∙ rule.sized i v at))
        (λ (t : (j ≢ i) × (get_elem? s.views j ≡ some u)). rule.sized j u t.1)
        (at_set s.views i j w u e)

    pub some_set : 0 < length (set s.views i w)
    some_set = subst (λ (k : ℕ). 0 < k) (sym (length-set s.views i w)) rule.some_made

    pub count_set : (u : NodeView) → get_elem? (set s.views i w) 0 ≡ some u
        → u.made ≡ length (set s.views i w)
    count_set u e = ⊎_elim
        (λ (t : (0 ≡ i) × (w ≡ u)). ap (λ (a : NodeView). a.made) (sym t.1)
        ∙ (made ∙ (rule.count v (subst (λ (k : ℕ). get_elem? s.views k ≡ some v) (sym t.0) at)
        ∙ sym (length-set s.views i w))))
        (λ (t : (0 ≢ i) × (get_elem? s.views 0 ≡ some u)). rule.count u t.1
        ∙ sym (length-set s.views i w))
        (at_set s.views i 0 w u e)

-- a step of the machine keeps the facts of the store
pub keeps_store : (z : Sizes) (t : core.State) (i : ℕ) (y : core.Step) → StoreHolds z t
    → InPlace z t i y → StoreHolds z (steps.after z t i y)
keeps_store z t i y h ok = eight z (steps.after z t i y) (step_kept y z t i (inductive z t h) ok)

-- a step of the lock keeps what the entries tell
lock_recalls : (z : Sizes) (s : State (Unit {0}) NodeView) (i : ℕ) (v : NodeView) (x : LockStep)
    → (rule : Shows z s) → get_elem? s.views i ≡ some v → MayStep z.seats i v.lock x
    → node_can x v → (n : ℕ)
    → Recalls z (store_at z s.views) → Recalls z (store_at z (set s.views i (node_next x n v)))
lock_recalls z s i v x rule at ok may n all =
    step_recalls z s.words s.views rule.lock.state i (lock_meant v.store.stay x)
    (set s.words (word_of i x) 0) (set s.views i (node_next x n v)) (lock.after rule.lock.state i x)
    rule.holds (lock_step_is z s i v rule at x ok may n 0) all

-- and so does a step of the lock
lock_keeps : (z : Sizes) (s : State (Unit {0}) NodeView) (i : ℕ) (v : NodeView) (x : LockStep)
    → Shows z s → get_elem? s.views i ≡ some v → MayStep z.seats i v.lock x → node_can x v
    → Shows z (after_step node_next s i v x)
unfolding lock_kept
lock_keeps z s i v x rule at ok may =
    let k : ℕ = word_of i x in
    let f : ℕ = get_or s.words k 0 in
    let y : ℕ = written i x f in
    let w : NodeView = node_next x (seen x f) v in
    let step = lock_step_is z s i v rule at x ok may (seen x f) y in
    record {
      lock = lock_kept lock_of node_next node_moves z.seats s i v x rule.lock at ok;
      wide = let e = length-set s.words k y in let r = rule.wide in omega arith;
      holds = subst (StoreHolds z) (sym step.after)
          (keeps_store z (state_of z s.words s.views rule.lock.state) i (lock_meant v.store.stay x)
          rule.holds step.in_place);
      sized = sized_set z s i v rule at w refl refl;
      some_made = some_set z s i v rule at w refl refl;
      count = count_set z s i v rule at w refl refl;
    }

-- and the crowds
lock_crowds : (z : Sizes) (s : State (Unit {0}) NodeView) (i : ℕ) (v : NodeView) (rule : Shows z s)
    → get_elem? s.views i ≡ some v → Crowds z (store_at z s.views) (crowd_at s.views)
    → (x : LockStep) → MayStep z.seats i v.lock x → node_can x v → (n y : ℕ)
    → Crowds z (store_at z (set s.views i (node_next x n v)))
    (crowd_at (set s.views i (node_next x n v)))
lock_crowds z s i v rule at crowds x ok may n y =
    let w : NodeView = node_next x n v in
    let t = state_of z s.words s.views rule.lock.state in
    let step = lock_step_is z s i v rule at x ok may n y in
    let l = inside z s i v rule at in
    subst (λ (p : (ℕ → View) × (ℕ → List Tree)). Crowds z p.0 p.1)
    (λ q. (
      sym (ap (λ (u : core.State). u.view) step.after) q,
      sym
          (crowd_same s.views i v w at l refl) q,
    ))
    (crowds_stay z t i (inductive z t rule.holds) (below z s i v rule at) (crowd_at s.views) crowds
    (lock_meant v.store.stay x) (lock_no_end v.store.stay x) step.in_place)

pub node_keeps : (z : Sizes) → Keeps (ShowsJoined z) lock_of (seats_of z) node_can node_next
node_keeps z = record {
  step_keeps = λ s i v x rule at number ok may.
      let w : NodeView = node_next x (seen x (get_or s.words (word_of i x) 0)) v in
      let known = known_at rule.known s.views rule.joins i v at (not_spent v i number) in
      let t = with_views s rule.known in
      record {
        known = set rule.known i w;
        joins = step_gathers rule.known s.views rule.joins i v at (not_spent v i number) w refl;
        lock = lock_kept lock_of node_next node_moves z.seats s i v x rule.lock at ok;
        shows = lock_keeps z t i v x rule.shows known ok may;
        recalls = lock_recalls z t i v x rule.shows known ok may
            (seen x (get_or s.words (word_of i x) 0)) rule.recalls;
        crowds = lock_crowds z t i v rule.shows known rule.crowds x ok may
            (seen x (get_or s.words (word_of i x) 0))
            (written i x (get_or s.words (word_of i x) 0));
      };
}

-- a step of the lock leaves what the rule adds to the view of a seat that is away
pub node_leaves : (v : NodeView) (x : LockStep) (n : ℕ)
    → LeavesMore rest_of is_out v (node_next x n v)
node_leaves v x n away =
    let same = next_off x v.store away.stay in
    (subst IsAway (sym same) away, λ t. (v.sizes, same t, v.crowd))
