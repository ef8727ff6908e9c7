-- Each step keeps what holds of the store.
use Rattle.store_model.proofs.Bases.{notes_none, action_notes, action_base}
use Rattle.std.proofs.Common.{◌≡◌, ◌≢◌, ℕ, None, refl, inl, sym, ap, ◌∙◌, subst, ◌<◌, true, false, true≢false, inr, ⊎_elim, cond, Bool, eq-eqb, ◌+◌, Some, arith, List, suc}
use Rattle.store_model.specs.Calls.{Content, Call, Idle, Comparing, Passing, Finding, Ended, Counting, Drawing, Placing, Filling, Numbering, Linking, Publishing, Loading, Storing, Away, Based, Ready, View, bucket, Leaving}
use Rattle.store_model.specs.Machine.{Sizes, State, LoadBase, LoadInUse, Begin, Go, LockAlone, LowerShared, UnaskSeat, GiveGranted, LoadRoot, StoreRoot, StoreCount, with_got, acted, action, begins, based, ready, leaving, left, Granted, roots_of, IsCreation, with_call, gained, arrived, ReadWord, ReadArgument, protected_in, rooted, root_counted, knowing}
use Rattle.store_model.specs.Words.{RowWord, Base, InUse, RootCount, Root, write, put, FreePlace, Bucket, Place, FreeCount, Claim}
use Rattle.store_model.specs.Steps.{ReadNow, is_collecting, CoreHolds, IsFresh, head_read, IsAtRest, MayLeave, IsFirst}
use Rattle.store_model.specs.Runs.{StepKeeps}
use Rattle.history_core.specs.declared.entry.Entry.TheVariants.{Make}
use Rattle.store_model.specs.Seats.{SeatHolds, Where, index}
use Rattle.store_model.proofs.Basics.{put_same, write_same}
use Rattle.store_model.proofs.Fresh.{fresh_goes, fresh_begun}
use Rattle.store_model.proofs.Wrapped.{wrapped, quiet, creation_calm, creation_busy, action_calm, arrived_calm, quiet_fresh, action_fresh}
use Rattle.store_model.proofs.Locks.{IsIn, alone_kept, is_in}
use Rattle.lock_core.specs.Lock as lock
use Rattle.lock_core.specs.declared.parts.LockStep.TheVariants.{Lower, Unask, Give}
use Rattle.store_model.specs.Meaning.{Meaning}
use Rattle.store_model.specs.Invariant.{Holds, IsStoreSound}
use Rattle.store_model.proofs.LoadsKept.{kept_comparing, kept_passing, kept_finding, kept_ended, kept_counting, kept_placing, kept_begin, kept_load_base, kept_load_in_use, seat_at}
use Rattle.lock_core.specs.declared.parts.LockStep.{LockStep}
use Rattle.store_model.proofs.LocksKept.{lock_moved, kept_leave, kept_unask}
use Rattle.store_model.proofs.RootsKept.{kept_load_root, kept_read_word, kept_read_argument, kept_store_root, kept_store_count}
use Rattle.store_model.specs.Reads.{Remembers}
use Rattle.store_model.proofs.Own.{protected_are}
use Rattle.store_model.proofs.Draws.{kept_drawing}
use Rattle.store_model.proofs.Fills.{kept_filling, kept_numbering, kept_linking}
use Rattle.store_model.proofs.Publishes.{kept_publishing}

-- a seat that collects is in
collects_in : (v : View) → (v.call ≢ Idle → v.stay ≡ Ready) → v.stay ≡ Away → is_collecting v.call ≡ true → ⊥
collects_in v calls away c = let stay = calls (λ e. true≢false (sym c ∙ ap is_collecting e)) in let a : Away ≡ Ready = sym away ∙ stay in absurd (cc)

module _ (z : Sizes) (s : State) (m : Meaning) (h : Holds z s m) (i : ℕ) (there : i < z.seats) where
  goes : (x : Call) → (s.view i).call ≡ x → IsCreation x → IsStoreSound z m.live (acted s.words s.view i s.lock (action (s.view i) x))
  goes Idle e ne = absurd ne
  goes (Loading ls) e ne = absurd ne
  goes (Storing ls ss) e ne = absurd ne
  goes (Comparing c d from old at k) e ne = kept_comparing z s m h i c d from old at k e
  goes (Passing c d from old at dif) e ne = kept_passing z s m h i c d from old at dif e
  goes (Finding c d r) e ne = kept_finding z s m h i there c d r e
  goes (Ended c from) e ne = kept_ended z s m h i c from e
  goes (Counting c from n) e ne = kept_counting z s m h i c from n e
  goes (Drawing c from n) e ne = kept_drawing z s m h i there c from n e
  goes (Placing c from k) e ne = kept_placing z s m h i c from k e
  goes (Filling c from a r k) e ne = kept_filling z s m h i c from a r k e
  goes (Numbering c from a r) e ne = kept_numbering z s m h i c from a r e
  goes (Linking c from a r) e ne = kept_linking z s m h i c from a r e
  goes (Publishing c from a r) e ne = kept_publishing z s m h i there c from a r e

-- after an exchange that won the row is live
published : (z : Sizes) (s : State) (m : Meaning) → Holds z s m → (i : ℕ) (c : Content) (from a r : ℕ) → (s.view i).call ≡ Publishing c from a r
    → (h : IsStoreSound z m.live (acted s.words s.view i s.lock (action (s.view i) (s.view i).call))) → IsFresh s.lock s.words m.live i (s.view i) → h.meaning.live (s.words (FreePlace a)) ≡ true
published z s m q i c from a r e h fresh =
    let v = s.view i in
    let w = s.words in
    let act = λ (x : Call). action v x in
    let u : Call → Place → ℕ = (λ x. write w (act x).place ((act x).written (w (act x).place))) in
    let new : Call → View = (λ x. (act x).moved (w (act x).place)) in
    let seat : SeatHolds (u v.call) h.meaning i (new v.call) = subst (SeatHolds (u v.call) h.meaning i) (put_same s.view i (new v.call)) (h.holds.seats i) in
    let seat_there : SeatHolds (u (Publishing c from a r)) h.meaning i (new (Publishing c from a r)) = subst (λ (x : Call). SeatHolds (u x) h.meaning i (new x)) e seat in
    let old = seat_at z s m q i (Publishing c from a r) e in
    let stay = old.numbers.calls (λ f. absurd (cc)) in
    let head : w (Bucket (bucket c (w InUse))) ≡ from = (subst (λ (x : Call). IsFresh s.lock w m.live i (with_call v x)) e fresh).head in
    let here : w (Bucket (bucket c v.in_use)) ≡ from = ap (λ (b : ℕ). w (Bucket (bucket c b))) (old.numbers.in_use stay) ∙ head in
    let won : new (Publishing c from a r) ≡ gained v c r (v.base + a) (Make (v.base + a) c.head c.arguments r) =
    ap (λ (b : Bool). cond b (gained v c r (v.base + a) (Make (v.base + a) c.head c.arguments r)) (with_call v (arrived c (Some (a, r)) (w (Bucket (bucket c v.in_use))) from (w (Bucket (bucket c v.in_use)))))) (eq-eqb _ from here) in
    let gain : SeatHolds (u (Publishing c from a r)) h.meaning i (gained v c r (v.base + a) (Make (v.base + a) c.head c.arguments r)) = subst (SeatHolds (u (Publishing c from a r)) h.meaning i) won seat_there in
    let got = gain.protects.got (old.numbers.base (λ f. let g : Away ≡ Ready = sym f ∙ stay in absurd (cc))) in
    subst (λ (k : ℕ). h.meaning.live k ≡ true) old.drawn.row.place got.0.live

pub go_kept : StepKeeps Go
go_kept z s i rem k ok =
    let is = ok.permitted in
    let x : Call = (s.view i).call in
    let stay = (k.holds.seats i).numbers.calls (creation_busy x is) in
    let inside = is_in s.lock i (s.view i).stay (k.holds.lock.access i) (λ e. let a : Away ≡ Ready = sym e ∙ stay in absurd (cc)) in
    let calm = creation_calm x is in
    let a = action (s.view i) x in
    let h = goes z s k.meaning (quiet z s k i inside calm) i ok.present x refl is in
    wrapped z s k i inside calm s.lock (write s.words a.place (a.written (s.words a.place))) (a.moved (s.words a.place)) (action_calm (s.view i) x (s.words a.place) is) h
    (λ f. let fresh = quiet_fresh z s k i inside calm (sym (action_fresh (s.view i) x (s.words a.place)) ∙ f) in
    let q = quiet z s k i inside calm in
    fresh_goes s.lock s.words k.meaning.live h.meaning.live h.grows i (s.view i) x is fresh ((q.seats i).numbers.in_use stay) (q.seats i).numbers.read
    (λ b _ c from r e. published z s k.meaning q i c from b r e h fresh))
    ok.present (action_notes (s.words Base) (s.view i) x (s.words a.place)) (action_base s.words (s.view i) x is)

pub idle_calm : (x : Call) → x ≡ Idle → is_collecting x ≡ false
idle_calm x e = ap is_collecting e

pub begin_kept : (c : Content) → StepKeeps (Begin c)
begin_kept c z s i rem k ok =
    let rest = ok.permitted.0 in
    let may = ok.permitted.2 in
    let inside = is_in s.lock i (s.view i).stay (k.holds.lock.access i) (λ e. let a : Away ≡ Ready = sym e ∙ rest.stay in absurd (cc)) in
    let calm = idle_calm (s.view i).call rest.call in
    let a = begins (s.view i) c in
    let h = kept_begin z s k.meaning (quiet z s k i inside calm) i c rest.call rest.stay may in
    wrapped z s k i inside calm s.lock (write s.words a.place (a.written (s.words a.place))) (a.moved (s.words a.place)) (arrived_calm c None (s.words a.place) 0 (s.words a.place))
    h (λ f. fresh_begun s.lock s.words k.meaning.live h.meaning.live h.grows i (s.view i) c (subst (λ (x : Call). IsFresh s.lock s.words k.meaning.live i (with_call (s.view i) x)) rest.call (quiet_fresh z s k i inside calm f)) (((quiet z s k i inside calm).seats i).numbers.in_use rest.stay)) ok.present (notes_none (s.words Base) (s.view i) _ refl refl) refl

pub load_base_kept : StepKeeps LoadBase
load_base_kept z s i rem k ok =
    let p = ok.permitted in
    let calm = idle_calm (s.view i).call p.1 in
    wrapped z s k i (inl p.0) calm s.lock (write s.words Base (s.words Base)) (based (s.view i) (s.words Base)) calm (kept_load_base z s k.meaning (quiet z s k i (inl p.0) calm) i p.1 p.0) (λ f. absurd (true≢false (sym f))) ok.present (record { entries = inl refl; base = inr refl }) refl

pub load_in_use_kept : StepKeeps LoadInUse
load_in_use_kept z s i rem k ok =
    let p = ok.permitted in
    let calm = idle_calm (s.view i).call p.0 in
    let inside = is_in s.lock i (s.view i).stay (k.holds.lock.access i) (λ e. let a : Away ≡ Based = sym e ∙ p.1 in absurd (cc)) in
    wrapped z s k i inside calm s.lock (write s.words InUse (s.words InUse)) (ready (s.view i) (s.words InUse)) calm (kept_load_in_use z s k.meaning (quiet z s k i inside calm) i p.0 p.1) (λ f. absurd (let b = quiet_fresh z s k i inside calm f in let e : Based ≡ Ready = sym p.1 ∙ b.stays in cc)) ok.present (notes_none (s.words Base) (s.view i) _ refl refl) refl

leave_kept : (z : Sizes) (s : State) (i : ℕ) (x : LockStep) → Remembers z s → CoreHolds z s → i < z.seats → (s.view i).call ≡ Idle → (s.view i).stay ≢ Away → lock.InPlace s.lock i x
    → CoreHolds z (record { lock = lock.after s.lock i x; words = s.words; view = put s.view i (left (s.view i) (protected_in (s.view i))) })
leave_kept z s i x rem k there e ne ok =
    let calm = idle_calm (s.view i).call e in
    let inside = is_in s.lock i (s.view i).stay (k.holds.lock.access i) ne in
    let rows = protected_are z s.words i (s.view i) (rem.own i) in
    subst (λ (rs : List ℕ). CoreHolds z (record { lock = lock.after s.lock i x; words = s.words; view = put s.view i (left (s.view i) rs) })) (sym rows)
    (wrapped z s k i inside calm (lock.after s.lock i x) s.words (left (s.view i) (roots_of s.words i (s.words (RootCount i)))) calm (kept_leave z s k.meaning (quiet z s k i inside calm) i there x e ne ok) (λ f. absurd (true≢false (sym f))) there (record { entries = inr (_, refl, refl); base = inl refl }) refl)

pub ready_inside : (v : View) → v.stay ≡ Ready → v.stay ≢ Away
ready_inside v e f = let a : Away ≡ Ready = sym f ∙ e in absurd (cc)

pub leaves_inside : (v : View) → MayLeave v → v.stay ≢ Away
leaves_inside v m = ⊎_elim (ready_inside v) (λ e f. let a : Away ≡ Leaving = sym f ∙ e in absurd (cc)) m

pub lower_kept : StepKeeps LowerShared
lower_kept z s i rem k ok = let p = ok.permitted in leave_kept z s i Lower rem k ok.present p.2.call (ready_inside (s.view i) p.2.stay) p.1

pub give_kept : StepKeeps GiveGranted
give_kept z s i rem k ok = let p = ok.permitted in leave_kept z s i Give rem k ok.present p.1 (leaves_inside (s.view i) p.2) p.0

pub unask_kept : (q : ℕ) → StepKeeps (UnaskSeat q)
unask_kept q z s i rem k ok =
    let p = ok.permitted in
    let calm = idle_calm (s.view i).call p.1 in
    let away = leaves_inside (s.view i) p.2 in
    let inside = is_in s.lock i (s.view i).stay (k.holds.lock.access i) away in
    wrapped z s k i inside calm (lock.after s.lock i (Unask q)) s.words (leaving (s.view i)) calm (kept_unask z s k.meaning (quiet z s k i inside calm) i ok.present q p.1 away p.0) (λ f. absurd (true≢false (sym f))) ok.present (notes_none (s.words Base) (s.view i) _ refl refl) refl

-- a step of the lock leaves a collection of another seat as it is
pub lock_kept : (x : LockStep) → StepKeeps (LockAlone x)
lock_kept x z s i rem k ok = let p = ok.permitted in record {
  meaning = k.meaning;
  kept = k.kept;
  bases = k.bases;
  holds = lock_moved z (record { lock = s.lock; words = k.kept; view = s.view }) k.meaning k.holds i x (subst (Granted (lock.after s.lock i x) i) (sym p.2) tt) p.1;
  fresh = λ j f. let a = k.fresh j f in record {
    alone = alone_kept s.lock i j x k.holds.lock.sound p.1 (λ e. let b : Away ≡ Ready = sym p.2 ∙ (ap (λ (q : ℕ). (s.view q).stay) (sym e) ∙ a.stays) in absurd (cc)) a.alone;
    stays = a.stays;
    full = a.full;
    head = a.head;
    first = a.first;
    read = a.read;
  };
  under = record {
    calm = k.under.calm;
    alone = λ j c. alone_kept s.lock i j x k.holds.lock.sound p.1 (λ e. collects_in (s.view i) (k.holds.seats i).numbers.calls p.2 (ap (λ (q : ℕ). is_collecting (s.view q).call) (sym e) ∙ c)) (k.under.alone j c);
    loaded = k.under.loaded;
    rooted = k.under.rooted;
    whole = k.under.whole;
    stored = k.under.stored;
    present = k.under.present;
  };
}

roots_in : (z : Sizes) (s : State) (k : CoreHolds z s) (i : ℕ) → (s.view i).stay ≡ Ready → IsIn s.lock i
roots_in z s k i stay = is_in s.lock i (s.view i).stay (k.holds.lock.access i) (λ e. let a : Away ≡ Ready = sym e ∙ stay in absurd (cc))

fresh_rooted : (z : Sizes) (s : State) (i : ℕ) (u : Place → ℕ) (v : View) (live next : ℕ → Bool) → ((r : ℕ) → live r ≡ true → next r ≡ true) → ((k : ℕ) → u (FreePlace k) ≡ s.words (FreePlace k)) → u Claim ≡ s.words Claim → u FreeCount ≡ s.words FreeCount
    → (s.view i).call ≡ Idle → v.call ≡ (s.view i).call → v.stay ≡ (s.view i).stay → IsFresh s.lock s.words live i (s.view i) → IsFresh s.lock u next i v
fresh_rooted z s i u v live next grows place claim count e call stay a = record {
  alone = a.alone;
  stays = stay ∙ a.stays;
  full = λ q b c. ⊎_elim (λ f. inl (subst (λ (r : ℕ). next r ≡ true) (sym (place q)) (grows (s.words (FreePlace q)) f))) (λ f. inr (ap index call ∙ f)) (a.full q (omega arith) (omega arith));
  head = subst (λ (x : Call). Where (head_read x) (λ h. u (Bucket (bucket h.0 (u InUse))) ≡ h.1)) (sym (call ∙ e)) tt;
  first = subst IsFirst (sym (call ∙ e)) tt;
  read = subst (ReadNow (u Claim)) (sym (call ∙ e)) tt;
}

module _ (z : Sizes) (s : State) (i : ℕ) (k : CoreHolds z s) (there : i < z.seats) (rest : IsAtRest (s.view i)) where
  calm_rest : is_collecting (s.view i).call ≡ false
  calm_rest = idle_calm (s.view i).call rest.call

  in_rest : IsIn s.lock i
  in_rest = roots_in z s k i rest.stay

  quiet_rest : Holds z s k.meaning
  quiet_rest = quiet z s k i in_rest calm_rest

  -- a load at rest
  load_rest : (p : Place) (v : View) → v.call ≡ (s.view i).call → v.stay ≡ (s.view i).stay → v.fresh ≡ (s.view i).fresh → v.entries ≡ (s.view i).entries → v.base ≡ (s.view i).base
      → IsStoreSound z k.meaning.live (record { lock = s.lock; words = write s.words p (s.words p); view = put s.view i v }) → CoreHolds z (record { lock = s.lock; words = write s.words p (s.words p); view = put s.view i v })
  load_rest p v call stay fresh entries base h =
      wrapped z s k i in_rest calm_rest s.lock (write s.words p (s.words p)) v (ap is_collecting call ∙ calm_rest) h
      (λ f. subst (λ (t : Place → ℕ). IsFresh s.lock t h.meaning.live i v) (sym (write_same s.words p)) (fresh_rooted z s i s.words v k.meaning.live h.meaning.live h.grows (λ _. refl) refl refl rest.call call stay (quiet_fresh z s k i in_rest calm_rest (sym fresh ∙ f))))
      there (notes_none (s.words Base) (s.view i) v entries base) (ap (λ (w : Place → ℕ). w Base) (write_same s.words p))

pub load_root_kept : (k : ℕ) → StepKeeps (LoadRoot k)
load_root_kept r z s i rem k ok = let p = ok.permitted in let known = rem.own i in
    load_rest z s i k ok.present p.0 (Root i r) (with_got (s.view i) (s.words (Root i r))) refl refl refl refl refl (kept_load_root z s k.meaning (quiet_rest z s i k ok.present p.0) i p.0.call p.0.stay r (let a = known.count in let b = p.1 in omega arith))

pub read_word_kept : (r q : ℕ) → StepKeeps (ReadWord r q)
read_word_kept r q z s i rem k ok = let p = ok.permitted in
    load_rest z s i k ok.present p.0 (RowWord r q) (knowing (s.view i) r q (s.words (RowWord r q))) refl refl refl refl refl (kept_read_word z s k.meaning (quiet_rest z s i k ok.present p.0) i p.0.call p.0.stay r q p.2)

pub read_argument_kept : (r j : ℕ) → StepKeeps (ReadArgument r j)
read_argument_kept r j z s i rem k ok = let p = ok.permitted in let n : ℕ = s.words (RowWord r (suc (suc j))) in
    load_rest z s i k ok.present p.0 (RowWord r (suc (suc j))) (with_got (knowing (s.view i) r (suc (suc j)) n) n) refl refl refl refl refl (kept_read_argument z s k.meaning (quiet_rest z s i k ok.present p.0) i p.0.call p.0.stay r j p.2 p.1)

pub store_root_kept : (k r : ℕ) → StepKeeps (StoreRoot k r)
store_root_kept n r z s i rem k ok = let p = ok.permitted in let calm = calm_rest z s i k ok.present p.0 in let inside = in_rest z s i k ok.present p.0 in
    let h = kept_store_root z s k.meaning (quiet z s k i inside calm) i p.0.call p.0.stay (rem.own i) n r p.2 in
    wrapped z s k i inside calm s.lock (write s.words (Root i n) r) (rooted (s.view i) n r) calm h (λ f. fresh_rooted z s i (write s.words (Root i n) r) (rooted (s.view i) n r) k.meaning.live h.meaning.live h.grows (λ _. refl) refl refl p.0.call refl refl (quiet_fresh z s k i inside calm f)) ok.present (notes_none (s.words Base) (s.view i) _ refl refl) refl

pub store_count_kept : (n : ℕ) → StepKeeps (StoreCount n)
store_count_kept n z s i rem k ok = let p = ok.permitted in let calm = calm_rest z s i k ok.present p.0 in let inside = in_rest z s i k ok.present p.0 in
    let h = kept_store_count z s k.meaning (quiet z s k i inside calm) i p.0.call p.0.stay (rem.own i) n ok.present p.1 p.2 in
    wrapped z s k i inside calm s.lock (write s.words (RootCount i) n) (root_counted (s.view i) n) calm h (λ f. fresh_rooted z s i (write s.words (RootCount i) n) (root_counted (s.view i) n) k.meaning.live h.meaning.live h.grows (λ _. refl) refl refl p.0.call refl refl (quiet_fresh z s k i inside calm f)) ok.present (notes_none (s.words Base) (s.view i) _ refl refl) refl
