-- What the table asks of each step.
use Rattle.std.proofs.Common.{◌≡◌, inl, inr, ℕ, zero, suc, ◌+◌, ◌%◌, ◌^◌, ◌<◌, ◌≤◌, eqb, Bool, true, false, cond, Some, List, get_or, refl, sym, ap, ◌∙◌, subst, ⊎_elim, arith}
use mathlib.Core.Option.{some}
use prog.Atomic.{either}
use lib.ListN.{get_elem?}
use Rattle.atomic_table.specs.Table.{State, Me, Allows}
use Rattle.atomic_table.specs.Seated.{TableId}
use Rattle.atomic_table.specs.declared.shared.Seat.{Seat}
use Rattle.lock_core.specs.Exclusion.{IsExclusive}
use Rattle.busy_forbidden.specs.Exclusive.{IsGranted}
use Rattle.term_model.specs.declared.Head.{Head}
use Rattle.store_model.specs.declared.view.Sizes.{Sizes}
use Rattle.store_model.specs.declared.view.View.{View}
use Rattle.store_model.specs.declared.view.Place.{Place}
use Rattle.store_model.specs.declared.view.Place.TheVariants.{Base, Claim, InUse, Root}
use Rattle.store_model.specs.declared.view.Call.{Call}
use Rattle.store_model.specs.declared.view.Call.TheVariants.{Idle, Comparing, Passing, Finding, Ended, Counting, Drawing, Placing, Filling, Numbering, Linking, Publishing, Loading, Storing}
use Rattle.store_model.specs.declared.view.Stay.TheVariants.{Away, Based, Ready}
use Rattle.store_model.specs.Machine as core
use Rattle.store_model.specs.Machine.{IsCreation, action, InAccess, LoadBase, LoadInUse, Begin, Go, LoadRoot, StoreRoot, StoreCount, ReadWord, ReadArgument}
use Rattle.store_model.specs.ByView as by_view
use Rattle.store_model.specs.ByView.{LockGrants}
use Rattle.store_model.specs.Seats.{RootsKnown}
use Rattle.store_model.specs.Runs.{Inductive}
use Rattle.store_model.proofs.Eight.{inductive}
use Rattle.store_model.proofs.Showing.{view_shows}
use Rattle.store_model.specs.Invariant.{one_if, tally, is_at}
use Rattle.store_model.specs.Steps.{Permits, MayCreate, is_collecting}
use Rattle.store_model.specs.Shown.{shown, in_table, index_of}
use Rattle.store_model.proofs.Shown.{place_inside}
use Rattle.store_model.proofs.Locks.{is_in}
use Rattle.store_model.proofs.Wrapped.{quiet, creation_calm, creation_busy}
use Rattle.node_rows.specs.declared.view.NodeView.{NodeView}
use Rattle.node_rows.specs.Shown.{state_of, Shows, IsAway}
use Rattle.node_rows.specs.Joining.{with_views, ShowsJoined}
use Rattle.node_rows.specs.Gathering.{not_spent, known_at}
use Rattle.node_rows.specs.Locking.{store_here, below, phase_is, stands_is}
use Rattle.node_rows.specs.Steps.{with_store, written_by, moved_by, Acts, IsOwnRead, MayCreateBy, IsOf, Goes, Reads, Writes, IsDraw, Exchanges, MayLoad, MayMake, MayStepOn, over}
use Rattle.busy_forbidden.proofs.Goes.{same_place}
use Rattle.node_rows.proofs.Own.{Owes, Tells, own_allows, shown_at}

pub word_fits : (t : TableId) (z : Sizes) (seat : Seat (Unit {0}) NodeView) (k : ℕ) (p : Place) → IsOf t z seat → k ≡ index_of z p → in_table z p ≡ true → k < t.words
word_fits t z seat k p of e h = let a = place_inside z p h in let w = of.wide in omega arith

draws_is : (v : View) (x : Call) → IsDraw x → ((action v x).place ≡ Claim) × ((n : ℕ) → (action v x).written n ≡ suc n)
draws_is v Idle h = absurd h
draws_is v (Comparing c d from old at k) h = absurd h
draws_is v (Passing c d from old at dif) h = absurd h
draws_is v (Finding c d r) h = absurd h
draws_is v (Ended c from) h = absurd h
draws_is v (Counting c from n) h = absurd h
draws_is v (Drawing c from n) h = (refl, λ n. refl)
draws_is v (Placing c from i) h = absurd h
draws_is v (Filling c from i r k) h = absurd h
draws_is v (Numbering c from i r) h = absurd h
draws_is v (Linking c from i r) h = absurd h
draws_is v (Publishing c from i r) h = absurd h
draws_is v (Loading ls) h = absurd h
draws_is v (Storing ls ss) h = absurd h

one_small : (b : Bool) → one_if b ≤ 1
one_small true = omega arith
one_small false = omega arith

tally_small : (f : ℕ → Bool) (n : ℕ) → tally f n ≤ n
tally_small f zero = omega arith
tally_small f (suc n) = let a = one_small (f n) in let b = tally_small f n in omega arith

own_reads_act : (x : core.Step) → IsOwnRead x → Acts x
own_reads_act (LoadRoot k) h = tt
own_reads_act (StoreRoot k r) h = tt
own_reads_act (StoreCount n) h = tt
own_reads_act (ReadWord r k) h = tt
own_reads_act (ReadArgument r k) h = tt
own_reads_act x h = absurd h

pub own_reads_granted : (t : core.State) (i : ℕ) (x : core.Step) → IsOwnRead x → LockGrants t i x
own_reads_granted t i (LoadRoot k) h = tt
own_reads_granted t i (StoreRoot k r) h = tt
own_reads_granted t i (StoreCount n) h = tt
own_reads_granted t i (ReadWord r k) h = tt
own_reads_granted t i (ReadArgument r k) h = tt
own_reads_granted t i x h = absurd h

module _ (z : Sizes) (s : State (Unit {0}) NodeView) (i : ℕ) (v : NodeView) (rule : Shows z s) (at : get_elem? s.views i ≡ some v) where
  abbrev t : core.State
  t = state_of z s.words s.views rule.lock.state

  core_holds : Inductive z t
  core_holds = inductive z t rule.holds

  here : t.view i ≡ v.store
  here = store_here z s.views i v at

  pub permits_go : IsCreation v.store.call → Permits z t i Go
  permits_go is = subst (λ (u : View). IsCreation u.call) (sym here) is

  claim_small : IsCreation v.store.call → shown z s.words Claim < 2 ^ 62
  claim_small is =
      let x : Call = (t.view i).call in
      let is' : IsCreation x = permits_go is in
      let stay = (core_holds.core.holds.seats i).numbers.calls (creation_busy x is') in
      let inside = is_in t.lock i (t.view i).stay (core_holds.core.holds.lock.access i) (λ e. let no : Away ≡ Ready = sym e ∙ stay in grind arith) in
      let q = quiet z t core_holds.core i inside (creation_calm x is') in
      let d = q.numbers.drawn in
      let c = tally_small (λ j. is_at (t.view j).overdraw (t.words Base)) z.seats in
      let f = q.rows.few in
      let r = q.numbers.room in
      omega arith

  pub exclusive : IsGranted v.lock i z.seats → IsExclusive rule.lock.state i
  exclusive g = record {
    present = let b = below z s i v rule at in let c = rule.lock.shows.count in omega arith;
    holder = phase_is z s i v rule at ∙ g.holder;
    others = λ j l ne. stands_is z s i v rule at g.holder j ∙ g.held j (let c = rule.lock.shows.count in omega arith) ne;
  }

  in_access : MayLoad v.lock i z.seats → InAccess rule.lock.state i
  in_access may = ⊎_elim (λ p. inl (phase_is z s i v rule at ∙ p)) (λ g. inr (exclusive g)) may

  pub permits_base : MayLoad v.lock i z.seats → IsAway v.store → Permits z t i LoadBase
  permits_base may away = (in_access may, ap (λ (u : View). u.call) here ∙ away.call, ap (λ (u : View). u.stay) here ∙ away.stay)

  -- the base is at least the own one
  base_rises : MayLoad v.lock i z.seats → IsAway v.store → v.store.base ≤ t.words Base
  base_rises may away =
      let q = quiet z t core_holds.core i (inl (in_access may)) (ap is_collecting (ap (λ (u : View). u.call) here ∙ away.call)) in
      subst (λ (u : View). u.base ≤ t.words Base) here (q.seats i).numbers.own

  pub permits_in_use : v.store.call ≡ Idle → v.store.stay ≡ Based → Permits z t i LoadInUse
  permits_in_use idle stay = (ap (λ (u : View). u.call) here ∙ idle, ap (λ (u : View). u.stay) here ∙ stay)

  -- what the own view shows is permitted
  pub permits_shown : (x : core.Step) → by_view.Shows z v.store x → LockGrants t i x → Permits z t i x
  permits_shown x shown granted = view_shows z t i x rule.holds (subst (λ (u : View). by_view.Shows z u x) (sym here) shown) granted

  may_create : MayCreateBy v → MayCreate t i
  may_create may = ⊎_elim (λ p. inl (phase_is z s i v rule at ∙ p)) (λ f. inr (ap (λ (u : View). u.fresh) here ∙ f)) may

  pub permits_begin : (f : Head) (rs : List ℕ) (k : ℕ) → MayMake z v f rs k → Permits z t i (Begin (over f rs))
  permits_begin f rs k may = permits_shown (Begin (over f rs)) may.shown (may_create may.access)

goes_owes : (z : Sizes) (v : NodeView) (i k : ℕ) (f : ℕ → ℕ) → Goes z v.store k
    → ((s : State (Unit {0}) NodeView) → Shows z s → get_elem? s.views i ≡ some v → f (get_or s.words (index_of z (action v.store v.store.call).place) 0) ≡ (action v.store v.store.call).written (get_or s.words (index_of z (action v.store v.store.call).place) 0))
    → Owes z v i Go k f
goes_owes z v i k f g writes = record {
  is = tt;
  there = g.there;
  word = g.word;
  permitted = λ s rule at. permits_go z s i v rule at g.creation;
  writes = writes;
}

pub loads : (z : Sizes) (slots id : ℕ) (me : Me (Unit {0}) NodeView) (i k : ℕ) → me.0.lock.number ≡ Some i → Goes z me.0.store k → Reads me.0.store → Allows (ShowsJoined z) slots id me k (λ n. n) (Tells Go me)
loads z slots id me i k is g r = own_allows z slots id me i Go k (λ n. n) is (goes_owes z me.0 i k (λ n. n) g (λ s _ _. sym (r _)))

pub stores : (z : Sizes) (slots id : ℕ) (me : Me (Unit {0}) NodeView) (i k y : ℕ) → me.0.lock.number ≡ Some i → Goes z me.0.store k → Writes me.0.store y → Allows (ShowsJoined z) slots id me k (λ _. y) (λ _. Tells Go me y)
stores z slots id me i k y is g w s rule homes at small =
    let t = own_allows z slots id me i Go k (λ _. y) is (goes_owes z me.0 i k (λ _. y) g (λ s _ _. sym (w.written _))) s rule homes at small in
    (t.0, t.1, t.2, t.3, (t.4.0 ∙ ap (λ (q : View). (with_store me.0 q, me.1)) (w.moved (get_or s.words k 0) y), t.4.1))

pub draws : (z : Sizes) (slots id : ℕ) (me : Me (Unit {0}) NodeView) (i k : ℕ) → me.0.lock.number ≡ Some i → Goes z me.0.store k → IsDraw me.0.store.call → Allows (ShowsJoined z) slots id me k (λ n. (n + 1) % 2 ^ 64) (Tells Go me)
draws z slots id me i k is g d = own_allows z slots id me i Go k (λ n. (n + 1) % 2 ^ 64) is (goes_owes z me.0 i k (λ n. (n + 1) % 2 ^ 64) g (λ s rule at.
    let a = draws_is me.0.store me.0.store.call d in
    let n : ℕ = get_or s.words (index_of z (action me.0.store me.0.store.call).place) 0 in
    let same : shown z s.words Claim ≡ n = ap (shown z s.words) (sym a.0) ∙ shown_at z s.words (action me.0.store me.0.store.call).place g.there in
    let c = claim_small z s i me.0 rule at g.creation in
    let e : (n + 1) % 2 ^ 64 ≡ suc n = omega arith in
    e ∙ sym (a.1 n)))

either_is : (b : Bool) (x y : ℕ) → either b x y ≡ cond b x y
either_is true x y = refl
either_is false x y = refl

pub exchanges : (z : Sizes) (slots id : ℕ) (me : Me (Unit {0}) NodeView) (i k old new : ℕ) → me.0.lock.number ≡ Some i → Goes z me.0.store k → Exchanges me.0.store old new
    → Allows (ShowsJoined z) slots id me k (λ n. either (eqb n old) new n) (Tells Go me)
exchanges z slots id me i k old new is g x = own_allows z slots id me i Go k (λ n. either (eqb n old) new n) is (goes_owes z me.0 i k (λ n. either (eqb n old) new n) g (λ s _ _. let n : ℕ = get_or s.words (index_of z (action me.0.store me.0.store.call).place) 0 in either_is (eqb n old) new n ∙ sym (x n)))

pub bases : (z : Sizes) (slots id : ℕ) (me : Me (Unit {0}) NodeView) (i k : ℕ) → me.0.lock.number ≡ Some i → k ≡ index_of z Base → IsAway me.0.store → MayLoad me.0.lock i z.seats
    → Allows (ShowsJoined z) slots id me k (λ n. n) (λ n me'. Tells LoadBase me n me' × (me.0.store.base ≤ n))
bases z slots id me i k is word away may s rule homes at small =
    let t = own_allows z slots id me i LoadBase k (λ n. n) is record {
      is = tt;
      there = refl;
      word = word;
      permitted = λ s rule at. permits_base z s i me.0 rule at may away;
      writes = λ s _ _. refl;
    } s rule homes at small in
    let whole = with_views s rule.known in
    let here : get_elem? whole.views id ≡ some me.0 = known_at rule.known s.views rule.joins id me.0 at (not_spent me.0 i is) in
    let same : i ≡ id = same_place whole id i me.0 rule.shows.lock here is in
    let rises = base_rises z whole i me.0 rule.shows (subst (λ (q : ℕ). get_elem? whole.views q ≡ some me.0) (sym same) here) may away in
    (t.0, t.1, t.2, t.3, (t.4, subst (λ (n : ℕ). me.0.store.base ≤ n) (shown_at z s.words Base refl ∙ ap (λ (q : ℕ). get_or s.words q 0) (sym word)) rises))

pub in_uses : (z : Sizes) (slots id : ℕ) (me : Me (Unit {0}) NodeView) (i k : ℕ) → me.0.lock.number ≡ Some i → k ≡ index_of z InUse → me.0.store.call ≡ Idle → me.0.store.stay ≡ Based → Allows (ShowsJoined z) slots id me k (λ n. n) (Tells LoadInUse me)
in_uses z slots id me i k is word idle stay = own_allows z slots id me i LoadInUse k (λ n. n) is record {
  is = tt;
  there = refl;
  word = word;
  permitted = λ s rule at. permits_in_use z s i me.0 rule at idle stay;
  writes = λ s _ _. refl;
}

pub begins_with : (z : Sizes) (slots id : ℕ) (me : Me (Unit {0}) NodeView) (i k : ℕ) (f : Head) (rs : List ℕ) → me.0.lock.number ≡ Some i → MayMake z me.0 f rs k → Allows (ShowsJoined z) slots id me k (λ n. n) (Tells (Begin (over f rs)) me)
begins_with z slots id me i k f rs is may = own_allows z slots id me i (Begin (over f rs)) k (λ n. n) is record {
  is = tt;
  there = may.there;
  word = may.word;
  permitted = λ s rule at. permits_begin z s i me.0 rule at f rs k may;
  writes = λ s _ _. refl;
}

-- a step on protected rows, or a read of a row
pub own_reads : (z : Sizes) (slots id : ℕ) (me : Me (Unit {0}) NodeView) (i k : ℕ) (x : core.Step) (f : ℕ → ℕ) → me.0.lock.number ≡ Some i → MayStepOn z i me.0 x k → ((n : ℕ) → f n ≡ written_by x me.0.store n) → Allows (ShowsJoined z) slots id me k f (Tells x me)
own_reads z slots id me i k x f is may writes = own_allows z slots id me i x k f is record {
  is = own_reads_act x may.acts;
  there = may.there;
  word = may.word;
  permitted = λ s rule at. permits_shown z s i me.0 rule at x may.shown (own_reads_granted (state_of z s.words s.views rule.lock.state) i x may.acts);
  writes = λ s _ _. writes _;
}

-- the load of a protected row
pub own_roots : (z : Sizes) (slots id : ℕ) (me : Me (Unit {0}) NodeView) (i k j : ℕ) → me.0.lock.number ≡ Some i → MayStepOn z i me.0 (LoadRoot j) k
    → Allows (ShowsJoined z) slots id me k (λ n. n) (λ n me'. Tells (LoadRoot j) me n me' × (n ≡ get_or me.0.store.roots j 0))
own_roots z slots id me i k j is may s rule homes at small =
    let t = own_reads z slots id me i k (LoadRoot j) (λ n. n) is may (λ n. refl) s rule homes at small in
    let whole = with_views s rule.known in
    let seated : get_elem? whole.views id ≡ some me.0 = known_at rule.known s.views rule.joins id me.0 at (not_spent me.0 i is) in
    let same : i ≡ id = same_place whole id i me.0 rule.shows.lock seated is in
    let here = store_here z whole.views i me.0 (subst (λ (q : ℕ). get_elem? whole.views q ≡ some me.0) (sym same) seated) in
    let own : RootsKnown z (shown z s.words) i me.0.store = subst (RootsKnown z (shown z s.words) i) here (rule.shows.holds.strengthened.remembers.own i) in
    let below : j < z.depth = (let a = may.shown.1 in let b = own.few in omega arith) in
    (t.0, t.1, t.2, t.3, (t.4, ap (λ (q : ℕ). get_or s.words q 0) may.word ∙ (sym (shown_at z s.words (Root i j) may.there) ∙ own.root j below)))

pub own_stores : (z : Sizes) (slots id : ℕ) (me : Me (Unit {0}) NodeView) (i k : ℕ) (x : core.Step) (y : ℕ) → me.0.lock.number ≡ Some i → MayStepOn z i me.0 x k → ((n : ℕ) → written_by x me.0.store n ≡ y)
    → ((m n : ℕ) → moved_by x me.0.store m ≡ moved_by x me.0.store n) → Allows (ShowsJoined z) slots id me k (λ _. y) (λ _. Tells x me y)
own_stores z slots id me i k x y is may writes moves s rule homes at small =
    let t = own_reads z slots id me i k x (λ _. y) is may (λ n. sym (writes n)) s rule homes at small in
    (t.0, t.1, t.2, t.3, (t.4.0 ∙ ap (λ (q : View). (with_store me.0 q, me.1)) (moves (get_or s.words k 0) y), t.4.1))
