-- With one seat nobody else steps: what its call has read is still there.
use Rattle.std.proofs.Common.{◌≡◌, ◌≢◌, ◌⊎◌, ℕ, suc, ◌+◌, ◌<◌, Bool, true, false, cond, None, Some, List, [], ◌∷◌, ◌++◌, refl, sym, ap, ◌∙◌, subst, ⊎_elim, inl, inr, arith, eq-eqb, true≢false}
use Rattle.std.proofs.lemmas.Bool.Decides.{nat_tests}
use Rattle.std.specs.Prelude.{nat_lt}
use Rattle.term_model.specs.declared.Head.{Head}
use Rattle.history_core.specs.declared.entry.Entry.{Entry}
use Rattle.history_core.specs.declared.entry.Entry.TheVariants.{Make}
use Rattle.history_core.specs.Entry.{is_collect}
use Rattle.lock_core.specs.declared.parts.Phase.TheVariants as phase
use Rattle.lock_core.specs.Lock.{Lock, idle}
use Rattle.lock_core.specs.Exclusion.{IsExclusive}
use Rattle.store_model.specs.Words.{Place, Base, FreeCount, Claim, InUse, FreePlace, Bucket, write, put}
use Rattle.store_model.specs.Calls.{Content, bucket, Call, Idle, Publishing, Loading, Away, Ready, View}
use Rattle.store_model.specs.Machine.{Sizes, State, Step, LockAlone, LowerShared, UnaskSeat, GiveGranted, LoadBase, LoadInUse, Begin, Go, LoadRoot, StoreRoot, StoreCount, ReadWord, ReadArgument, LoadAny, StoreAny, StoreClaim, IsCreation, action, with_call, gained, arrived}
use Rattle.store_model.specs.Seats.{Where, index, HasRead, RowDrawn}
use Rattle.store_model.specs.Steps.{loads, worn_by, is_storing, is_collecting, IsLoading, head_read, IsFirst, ReadNow, IsFresh, InPlace, after, CoreHolds}
use Rattle.store_model.specs.Reads.{is_make, is_made, IsUndisturbed}
use Rattle.store_model.proofs.Basics.{choose, put_same, write_same}
use Rattle.store_model.proofs.Locks.{is_in}
use Rattle.store_model.proofs.Bases.{action_notes, action_base}
use Rattle.store_model.proofs.Wrapped.{words_kept, stores_collects, creation_calm, creation_busy}
use Rattle.store_model.proofs.Fresh.{fresh_begun, fresh_goes}

-- a lock of one seat, which holds it
abbrev lone : Lock
lone = record { mutex = Some 0; seats = record idle { phase = phase.Holder } ∷ [] }

lone_alone : IsExclusive lone 0
lone_alone = record { present = omega arith; holder = refl; others = λ j l ne. absurd (ne (omega arith)) }

-- one more entry leaves what was made
made_more : (base : ℕ) (es xs : List Entry) (r : ℕ) → is_made base es r ≡ true → is_made base (es ++ xs) r ≡ true
made_more base [] xs r h = absurd (true≢false (sym h))
made_more base (e ∷ es) xs r h = choose (λ (b : Bool). b ≡ true) (is_make base e r) true (is_made base (es ++ xs) r) (λ _. refl)
    (λ not. made_more base es xs r (sym (ap (λ (b : Bool). cond b true (is_made base es r)) not) ∙ h))

-- and is among what was made
made_last : (base : ℕ) (es : List Entry) (e : Entry) (r : ℕ) → is_make base e r ≡ true → is_made base (es ++ e ∷ []) r ≡ true
made_last base [] e r h = ap (λ (b : Bool). cond b true false) h
made_last base (d ∷ es) e r h = choose (λ (b : Bool). b ≡ true) (is_make base d r) true (is_made base (es ++ e ∷ []) r) (λ _. refl) (λ _. made_last base es e r h)

is_less : (a b : ℕ) → a < b → nat_lt a b ≡ true
is_less a b l = grind (arith, nat_tests)

make_here : (base a r q : ℕ) (f : Head) (rs : List ℕ) → r ≡ q → is_make base (Make (base + a) f rs r) q ≡ true
make_here base a r q f rs e = ap (λ (b : Bool). cond b (nat_lt base (suc (base + a))) false) (eq-eqb r q e) ∙ is_less base (suc (base + a)) (omega arith)

-- a row is made, for an undisturbed seat
abbrev makes : (Place → ℕ) → View → ℕ → Bool
makes w v = is_made (w Base) v.entries

to_fresh : (w : Place → ℕ) (v : View) → v.stay ≡ Ready → is_storing v.call ≡ false → IsUndisturbed w v → IsFresh lone w (makes w v) 0 v
to_fresh w v stay calm h = record { alone = lone_alone; stays = stay; full = h.made calm; head = h.head; first = h.first; read = h.read }

from_fresh : (w : Place → ℕ) (v : View) → IsFresh lone w (makes w v) 0 v → IsUndisturbed w v
from_fresh w v h = record { head = h.head; first = h.first; read = h.read; made = λ _. h.full }

pub at_rest : (w : Place → ℕ) (v : View) → v.call ≡ Idle → ((k : ℕ) → k < w Claim → k < w FreeCount → (makes w v (w (FreePlace k)) ≡ true) ⊎ (index v.call ≡ Some k)) → IsUndisturbed w v
at_rest w v e made = record {
  head = subst (λ (x : Call). Where (head_read x) (λ h. w (Bucket (bucket h.0 (w InUse))) ≡ h.1)) (sym e) tt;
  first = subst IsFirst (sym e) tt;
  read = subst (ReadNow (w Claim)) (sym e) tt;
  made = λ _. made;
}

no_index : (x : Call) → IsLoading x → index x ≡ None
no_index x h = ⊎_elim (λ e. ap index e) (λ (t : (ls : List (Place × ℕ)) × (x ≡ Loading ls)). ap index t.1) h

loads_calm : (x : Call) → IsLoading x → is_storing x ≡ false
loads_calm x h = ⊎_elim (λ e. ap is_storing e) (λ (t : (ls : List (Place × ℕ)) × (x ≡ Loading ls)). ap is_storing t.1) h

-- an exchange that was won has made its row
published : (base : ℕ) (v : View) (w : Place → ℕ) (c : Content) (from a r : ℕ) → v.base ≡ base → r ≡ w (FreePlace a) → w (Bucket (bucket c v.in_use)) ≡ from → (x : Call) → x ≡ Publishing c from a r
    → is_made base ((action v x).moved (w (action v x).place)).entries (w (FreePlace a)) ≡ true
published base v w c from a r based drawn here x f =
    let n : ℕ = w (Bucket (bucket c v.in_use)) in
    let e : Entry = Make (v.base + a) c.head c.arguments r in
    subst (λ (y : Call). is_made base ((action v y).moved (w (action v y).place)).entries (w (FreePlace a)) ≡ true) (sym f)
    (subst (λ (b : Bool). is_made base (cond b (gained v c r (v.base + a) e) (with_call v (arrived c (Some (a, r)) n from n))).entries (w (FreePlace a)) ≡ true) (sym (eq-eqb n from here))
    (made_last base v.entries e (w (FreePlace a)) (subst (λ (b : ℕ). is_make b e (w (FreePlace a)) ≡ true) based (make_here v.base a r (w (FreePlace a)) c.head c.arguments drawn))))

module _ (z : Sizes) (s : State) (i : ℕ) (k : CoreHolds z s) (one : z.seats ≡ 1) (h : (j : ℕ) → j < z.seats → IsUndisturbed s.words (s.view j)) where
  -- the own view alone
  mine : (u : Place → ℕ) (v : View) → IsUndisturbed u v → i < z.seats → (j : ℕ) → j < z.seats → IsUndisturbed u (put s.view i v j)
  mine u v d there j l = let e : i ≡ j = omega arith in subst (λ (q : ℕ). IsUndisturbed u (put s.view i v q)) e (subst (IsUndisturbed u) (sym (put_same s.view i v)) d)

  -- what was made while the seat has nothing under way
  still : i < z.seats → (s.view i).call ≡ Idle → (q : ℕ) → q < s.words Claim → q < s.words FreeCount → (makes s.words (s.view i) (s.words (FreePlace q)) ≡ true) ⊎ (index (s.view i).call ≡ Some q)
  still there idle = (h i there).made (ap is_storing idle)

  -- and when an access has ended
  still_left : i < z.seats → (s.view i).call ≡ Idle → (e : Entry) → (q : ℕ) → q < s.words Claim → q < s.words FreeCount → (is_made (s.words Base) ((s.view i).entries ++ e ∷ []) (s.words (FreePlace q)) ≡ true) ⊎ (index (s.view i).call ≡ Some q)
  still_left there idle e q a b = ⊎_elim (λ m. inl (made_more (s.words Base) (s.view i).entries (e ∷ []) (s.words (FreePlace q)) m)) inr (still there idle q a b)

  goes : (x : Call) → (s.view i).call ≡ x → IsCreation x → i < z.seats → IsUndisturbed (write s.words (action (s.view i) x).place ((action (s.view i) x).written (s.words (action (s.view i) x).place))) ((action (s.view i) x).moved (s.words (action (s.view i) x).place))
  goes x e is there =
      let v = s.view i in
      let w = s.words in
      let n : ℕ = w (action v x).place in
      let new : View = (action v x).moved n in
      let seat = k.holds.seats i in
      let stay = seat.numbers.calls (λ f. creation_busy x is (sym e ∙ f)) in
      let inside = is_in s.lock i v.stay (k.holds.lock.access i) (λ f. let a : Away ≡ Ready = sym f ∙ stay in absurd (cc)) in
      let calm = ap is_collecting e ∙ creation_calm x is in
      let words : w ≡ k.kept = words_kept z s k i inside calm in
      let uses : v.in_use ≡ w InUse = seat.numbers.in_use stay ∙ ap (λ (u : Place → ℕ). u InUse) (sym words) in
      let based : v.base ≡ w Base = seat.numbers.base (λ f. let a : Away ≡ Ready = sym f ∙ stay in absurd (cc)) ∙ ap (λ (u : Place → ℕ). u Base) (sym words) in
      let read : HasRead (w Base) (w FreeCount) (w Claim) v.overdraw x =
      subst (λ (u : Place → ℕ). HasRead (u Base) (u FreeCount) (u Claim) v.overdraw x) (sym words) (subst (HasRead (k.kept Base) (k.kept FreeCount) (k.kept Claim) v.overdraw) e seat.numbers.read) in
      let before : IsUndisturbed w (with_call v x) = subst (λ (y : Call). IsUndisturbed w (with_call v y)) e (h i there) in
      let notes = (action_notes (w Base) v x n).entries in
      let grows : (r : ℕ) → makes w v r ≡ true → makes w new r ≡ true = (λ r m. ⊎_elim
      (λ same. subst (λ (es : List Entry). is_made (w Base) es r ≡ true) (sym same) m)
      (λ (t : (e : Entry) × (is_collect e ≡ false) × (new.entries ≡ v.entries ++ e ∷ [])). subst (λ (es : List Entry). is_made (w Base) es r ≡ true) (sym t.2) (made_more (w Base) v.entries (t.0 ∷ []) r m)) notes) in
      let won : (a : ℕ) → index x ≡ Some a → (c : Content) (from r : ℕ) → x ≡ Publishing c from a r → makes w new (w (FreePlace a)) ≡ true = (λ a _ c from r f.
      let drawn : r ≡ w (FreePlace a) = (subst (λ (y : Call). RowDrawn k.kept k.meaning (with_call v y)) (e ∙ f) seat.drawn).row.place ∙ ap (λ (u : Place → ℕ). u (FreePlace a)) (sym words) in
      let head : w (Bucket (bucket c (w InUse))) ≡ from = (subst (λ (y : Call). IsUndisturbed w (with_call v y)) f before).head in
      published (w Base) v w c from a r based drawn (ap (λ (u : ℕ). w (Bucket (bucket c u))) uses ∙ head) x f) in
      let after_words : write w (action v x).place ((action v x).written n) Base ≡ w Base = action_base w v x is in
      from_fresh _ _ (subst (λ (b : ℕ). IsFresh lone (write w (action v x).place ((action v x).written n)) (is_made b new.entries) 0 new) (sym after_words)
      (fresh_goes lone w (makes w v) (makes w new) grows 0 v x is (to_fresh w (with_call v x) stay (stores_collects x (creation_calm x is)) before) uses read won))

  pub sole_kept : (x : Step) → InPlace z s i x → (j : ℕ) → j < z.seats → IsUndisturbed (after z s i x).words ((after z s i x).view j)
  sole_kept (LockAlone x) ok = h
  sole_kept LowerShared ok = mine _ _ (at_rest _ _ ok.permitted.2.call (still_left ok.present ok.permitted.2.call _)) ok.present
  sole_kept (UnaskSeat q) ok = mine _ _ (at_rest _ _ ok.permitted.1 (still ok.present ok.permitted.1)) ok.present
  sole_kept GiveGranted ok = mine _ _ (at_rest _ _ ok.permitted.1 (still_left ok.present ok.permitted.1 _)) ok.present
  sole_kept LoadBase ok = mine _ _ (at_rest _ _ ok.permitted.1 (still ok.present ok.permitted.1)) ok.present
  sole_kept LoadInUse ok = mine _ _ (at_rest _ _ ok.permitted.0 (still ok.present ok.permitted.0)) ok.present
  sole_kept (Begin c) ok =
      let rest = ok.permitted.0 in
      let v = s.view i in
      let seat = k.holds.seats i in
      let inside = is_in s.lock i v.stay (k.holds.lock.access i) (λ f. let a : Away ≡ Ready = sym f ∙ rest.stay in absurd (cc)) in
      let words : s.words ≡ k.kept = words_kept z s k i inside (ap is_collecting rest.call) in
      let uses : v.in_use ≡ s.words InUse = seat.numbers.in_use rest.stay ∙ ap (λ (w : Place → ℕ). w InUse) (sym words) in
      let idle : IsUndisturbed s.words (with_call v Idle) = subst (λ (y : Call). IsUndisturbed s.words (with_call v y)) rest.call (h i ok.present) in
      mine _ _ (from_fresh _ _ (fresh_begun lone s.words (makes s.words v) (makes s.words v) (λ _ l. l) 0 v c (to_fresh s.words (with_call v Idle) rest.stay refl idle) uses)) ok.present
  sole_kept Go ok = mine _ _ (goes (s.view i).call refl ok.permitted ok.present) ok.present
  sole_kept (LoadRoot q) ok = mine _ _ (at_rest _ _ ok.permitted.0.call (still ok.present ok.permitted.0.call)) ok.present
  sole_kept (StoreRoot q r) ok = mine _ _ (at_rest _ _ ok.permitted.0.call (still ok.present ok.permitted.0.call)) ok.present
  sole_kept (StoreCount n) ok = mine _ _ (at_rest _ _ ok.permitted.0.call (still ok.present ok.permitted.0.call)) ok.present
  sole_kept (ReadWord r q) ok = mine _ _ (at_rest _ _ ok.permitted.0.call (still ok.present ok.permitted.0.call)) ok.present
  sole_kept (ReadArgument r q) ok = mine _ _ (at_rest _ _ ok.permitted.0.call (still ok.present ok.permitted.0.call)) ok.present
  sole_kept (LoadAny p) ok =
      let v = s.view i in
      let ls : List (Place × ℕ) = loads v.call ++ (p, s.words p) ∷ [] in
      let was = (h i ok.present).made (loads_calm v.call ok.permitted.0) in
      let made : (q : ℕ) → q < s.words Claim → q < s.words FreeCount → makes s.words v (s.words (FreePlace q)) ≡ true =
      (λ q a b. ⊎_elim (λ m. m) (λ f. absurd (let g : None ≡ Some q = sym (no_index v.call ok.permitted.0) ∙ f in cc)) (was q a b)) in
      mine _ _ (subst (λ (u : Place → ℕ). IsUndisturbed u (with_call v (cond (worn_by z ls) Idle (Loading ls)))) (sym (write_same s.words p))
      (choose (λ (y : Call). IsUndisturbed s.words (with_call v y)) (worn_by z ls) Idle (Loading ls)
      (λ _. record { head = tt; first = tt; read = tt; made = λ _ q a b. inl (made q a b) })
      (λ _. record { head = tt; first = tt; read = tt; made = λ _ q a b. inl (made q a b) }))) ok.present
  sole_kept (StoreAny p n) ok = mine _ _ (record { head = tt; first = tt; read = tt; made = λ f. absurd (true≢false f) }) ok.present
  sole_kept StoreClaim ok = mine _ _ (record { head = tt; first = tt; read = tt; made = λ _ q l. absurd (omega arith) }) ok.present
