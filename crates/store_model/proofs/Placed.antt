-- Steps that are in place by what the definitions compute: a proof, where the state shows one at
-- once.
use Rattle.std.proofs.Common.{◌≡◌, ◌≢◌, ◌⊎◌, ℕ, zero, suc, ◌+◌, ◌<◌, ◌≤◌, eqb, ltb, Bool, true, false, Option, None, Some, List, [], ◌∷◌, ◌++◌, length, refl, sym, ap, ◌∙◌, subst, ⊎_elim, inl, inr, arith, true≢false, ltb-true}
use Rattle.std.specs.Prelude.{is_some}
use Rattle.std.proofs.lemmas.Bool.{cases_lt}
use Rattle.lock_core.specs.declared.parts.Phase.{Phase}
use Rattle.lock_core.specs.declared.parts.Phase.TheVariants as phase
use Rattle.lock_core.specs.declared.parts.Standing.{Standing}
use Rattle.lock_core.specs.declared.parts.Standing.TheVariants.{Free, Asked, Held}
use Rattle.lock_core.specs.declared.parts.LockStep.{LockStep}
use Rattle.lock_core.specs.declared.parts.LockStep.TheVariants.{Raise, Look, Lower, Take, Ask, Peek, Unask, Give}
use Rattle.lock_core.specs.Lock as lock
use Rattle.lock_core.specs.Lock.{Lock, seat_of, Stands}
use Rattle.lock_core.specs.Exclusion.{IsExclusive}
use Rattle.history_core.specs.Chronicle.{last_roots}
use Rattle.term_model.specs.declared.Head.{Head}
use Rattle.term_model.specs.declared.Head.TheVariants.{App, Int}
use Rattle.store_model.specs.Words.{Place, same_place, Base, FreeCount, Claim, InUse, FreePlace, Bucket, RowWord, Birth, Next, RootCount, Root}
use Rattle.store_model.specs.Calls.{IsOver, bucket, Call, Idle, Loading, Storing, Stay, Away, Based, Ready, Leaving, View}
use Rattle.store_model.specs.Machine as machine
use Rattle.store_model.specs.Machine.{Sizes, State, In, Each, Step, LockAlone, LowerShared, UnaskSeat, GiveGranted, LoadBase, LoadInUse, Begin, Go, LoadAny, StoreAny, MayName, has_got, SecondIsList, IsCreation, protected_in, widest}
use Rattle.store_model.specs.Steps.{loads, value_at, is_stored, IsNextLoad, IsWhole, IsAtRest, IsLoading, MayStore, Permits}
use Rattle.store_model.specs.Shown.{in_table}
use Rattle.store_model.specs.StoreSteps.{row_place, Act, Loads, Stores, Draws, Exchanges, act, meant, Fits, RowFits, IsInPlace, after, Leads}
use Rattle.store_model.specs.Worked.{ran}
use Rattle.store_model.specs.declared.step.StoreStep.{StoreStep}
use Rattle.store_model.specs.declared.step.StoreStep.TheVariants as step
use Rattle.store_model.proofs.Basics.{same_is, eqb_is, eqb_not}

abbrev given : {P : Type 0} (b : Bool) → (b ≡ true → P) → Option P
given true f = Some (f refl)
given false f = None

abbrev ungiven : {P : Type 0} (b : Bool) → (b ≡ false → P) → Option P
ungiven true f = None
ungiven false f = Some (f refl)

abbrev then : {P Q : Type 0} → Option P → (P → Q) → Option Q
then None f = None
then (Some p) f = Some (f p)

abbrev both : {P Q R : Type 0} → Option P → Option Q → (P → Q → R) → Option R
both None q f = None
both (Some p) None f = None
both (Some p) (Some q) f = Some (f p q)

abbrev pairs : {P Q : Type 0} → Option P → Option Q → Option (P × Q)
pairs None q = None
pairs (Some p) None = None
pairs (Some p) (Some q) = Some (p, q)

abbrev either : {P Q : Type 0} → Option P → Option Q → Option (P ⊎ Q)
either None q = then q inr
either (Some p) q = Some (inl p)

abbrev pub the : {P : Type 0} (o : Option P) → is_some o ≡ true → P
the None e = absurd (true≢false (sym e))
the (Some p) e = p

-- each number below n
abbrev one_more : (n : ℕ) (P : ℕ → Type 0) → P n → ((j : ℕ) → j < n → P j) → (j : ℕ) → j < suc n → P j
one_more n P a h j l = ⊎_elim (h j) (λ past. let e : n ≡ j = omega arith in subst P e a) (cases_lt j n)

abbrev each : (n : ℕ) (P : ℕ → Type 0) → ((j : ℕ) → Option (P j)) → Option ((j : ℕ) → j < n → P j)
each zero P f = Some (λ j l. absurd (omega arith))
each (suc n) P f = both (f n) (each n P f) (one_more n P)

abbrev same : (m n : ℕ) → Option (m ≡ n)
same m n = given (eqb m n) (eqb_is m n)

abbrev below : (m n : ℕ) → Option (m < n)
below m n = given (ltb m n) (ltb-true m n)

abbrev is_true : (b : Bool) → Option (b ≡ true)
is_true true = Some refl
is_true false = None

abbrev at : (q p : Place) → Option (q ≡ p)
at q p = given (same_place q p) (same_is q p)

abbrev holds_word : (o : Option ℕ) (n : ℕ) → Option (o ≡ Some n)
holds_word None n = None
holds_word (Some m) n = then (same m n) (λ e. ap (λ (k : ℕ). let o : Option ℕ = Some k in o) e)

abbrev same_list : (xs ys : List ℕ) → Option (xs ≡ ys)
same_list [] [] = Some refl
same_list [] (y ∷ ys) = None
same_list (x ∷ xs) [] = None
same_list (x ∷ xs) (y ∷ ys) = both (same x y) (same_list xs ys) (λ e f. ap (λ (k : ℕ). k ∷ xs) e ∙ ap (λ (zs : List ℕ). y ∷ zs) f)

abbrev in_list : (r : ℕ) (xs : List ℕ) → Option (In r xs)
in_list r [] = None
in_list r (x ∷ xs) = either (same r x) (in_list r xs)

abbrev out : (p : Phase) → Option (p ≡ phase.Out)
out phase.Out = Some refl
out p = None

abbrev raised : (p : Phase) → Option (p ≡ phase.Raised)
raised phase.Raised = Some refl
raised p = None

abbrev shared : (p : Phase) → Option (p ≡ phase.Shared)
shared phase.Shared = Some refl
shared p = None

abbrev holder : (p : Phase) → Option (p ≡ phase.Holder)
holder phase.Holder = Some refl
holder p = None

abbrev free : (t : Standing) → Option (t ≡ Free)
free Free = Some refl
free t = None

abbrev asked : (t : Standing) → Option (t ≡ Asked)
asked Asked = Some refl
asked t = None

abbrev held : (t : Standing) → Option (t ≡ Held)
held Held = Some refl
held t = None

-- another seat is free with the holder, or held
abbrev other_free : (l : Lock) (i j : ℕ) → Option (j ≢ i → (seat_of l j).standing ≡ Free)
other_free l i j = then (either (same j i) (free (seat_of l j).standing)) (λ t ne. ⊎_elim (λ e. absurd (ne e)) (λ e. e) t)

abbrev other_held : (l : Lock) (i j : ℕ) → Option (j ≢ i → (seat_of l j).standing ≡ Held)
other_held l i j = then (either (same j i) (held (seat_of l j).standing)) (λ t ne. ⊎_elim (λ e. absurd (ne e)) (λ e. e) t)

abbrev stands : (l : Lock) (i j : ℕ) (t : Standing) → Option ((seat_of l j).standing ≡ t) → Option (Stands l i j t)
stands l i j t o = both (pairs (below j (length l.seats)) (ungiven (eqb j i) (eqb_not j i))) o (λ a b. record { present = a.0; other = a.1; standing = b })

abbrev lock_permits : (l : Lock) (i : ℕ) (x : LockStep) → Option (lock.Permits l i x)
lock_permits l i Raise = out (seat_of l i).phase
lock_permits l i Look = raised (seat_of l i).phase
lock_permits l i Lower = then (shared (seat_of l i).phase) inl
lock_permits l i Take = out (seat_of l i).phase
lock_permits l i (Ask j) = pairs (holder (seat_of l i).phase) (stands l i j Free (free (seat_of l j).standing))
lock_permits l i (Peek j) = pairs (holder (seat_of l i).phase) (stands l i j Asked (asked (seat_of l j).standing))
lock_permits l i (Unask j) = both (holder (seat_of l i).phase) (stands l i j Held (held (seat_of l j).standing)) (λ a b. (a, b.present, b.other, λ e. absurd (let f : Held ≡ Free = sym b.standing ∙ e in cc)))
lock_permits l i Give = pairs (holder (seat_of l i).phase) (each (length l.seats) (λ j. j ≢ i → (seat_of l j).standing ≡ Free) (other_free l i))

abbrev lock_placed : (l : Lock) (i : ℕ) (x : LockStep) → Option (lock.InPlace l i x)
lock_placed l i x = both (below i (length l.seats)) (lock_permits l i x) (λ a b. record { present = a; permitted = b })

abbrev exclusive : (l : Lock) (i : ℕ) → Option (IsExclusive l i)
exclusive l i = both (pairs (below i (length l.seats)) (holder (seat_of l i).phase)) (each (length l.seats) (λ j. j ≢ i → (seat_of l j).standing ≡ Held) (other_held l i))
    (λ a b. record { present = a.0; holder = a.1; others = b })

abbrev idle : (x : Call) → Option (x ≡ Idle)
idle Idle = Some refl
idle x = None

abbrev away : (x : Stay) → Option (x ≡ Away)
away Away = Some refl
away x = None

abbrev based : (x : Stay) → Option (x ≡ Based)
based Based = Some refl
based x = None

abbrev ready : (x : Stay) → Option (x ≡ Ready)
ready Ready = Some refl
ready x = None

abbrev leaving : (x : Stay) → Option (x ≡ Leaving)
leaving Leaving = Some refl
leaving x = None

abbrev at_rest : (v : View) → Option (IsAtRest v)
at_rest v = both (idle v.call) (ready v.stay) (λ a b. record { call = a; stay = b })

abbrev creating : (x : Call) → Option (IsCreation x)
creating Idle = None
creating (Loading ls) = None
creating (Storing ls ss) = None
creating x = Some tt

abbrev named : (w : Place → ℕ) (i : ℕ) (v : View) (rs : List ℕ) → Option (Each (MayName w i v) rs)
named w i v [] = Some tt
named w i v (r ∷ rs) = pairs (then (in_list r v.got) (has_got r)) (named w i v rs)

-- of symbols over rows that the seat got, and of integers
abbrev may_begin : (z : Sizes) (w : Place → ℕ) (i : ℕ) (v : View) (f : Head) (rs : List ℕ) → Option ((length rs ≤ widest z) × SecondIsList w f rs × IsOver f rs × Each (MayName w i v) rs)
may_begin z w i v (App f) rs = both (pairs (below f.0 4294967296) (below (length rs) (suc (widest z)))) (named w i v rs) (λ a b. ((let l = a.1 in omega arith), tt, a.0, b))
may_begin z w i v (Int n) [] = Some (omega arith, tt, refl, tt)
may_begin z w i v f rs = None

abbrev is_loading : (x : Call) → Option (IsLoading x)
is_loading Idle = Some (inl refl)
is_loading (Loading ls) = Some (inr (ls, refl))
is_loading x = None

abbrev next_load : (ls : List (Place × ℕ)) (p : Place) → Option (IsNextLoad ls p)
next_load [] p = at p Base
next_load (a ∷ []) p = at p Claim
next_load (a ∷ b ∷ []) p = at p FreeCount
next_load (a ∷ b ∷ c ∷ ls) p = Some tt

abbrev loaded : (w : Place → ℕ) (ls : List (Place × ℕ)) (p : Place) → Option (value_at p ls ≡ Some (w p))
loaded w ls p = holds_word (value_at p ls) (w p)

abbrev loaded_in : (n : ℕ) (w : Place → ℕ) (ls : List (Place × ℕ)) (p : ℕ → Place) → Option ((k : ℕ) → k < n → value_at (p k) ls ≡ Some (w (p k)))
loaded_in n w ls p = each n (λ k. value_at (p k) ls ≡ Some (w (p k))) (λ k. loaded w ls (p k))

abbrev nested : (n : ℕ) (m : ℕ → ℕ) (w : Place → ℕ) (ls : List (Place × ℕ)) (p : ℕ → ℕ → Place) → Option ((j : ℕ) → j < n → (k : ℕ) → k < m j → value_at (p j k) ls ≡ Some (w (p j k)))
nested n m w ls p = each n (λ j. (k : ℕ) → k < m j → value_at (p j k) ls ≡ Some (w (p j k))) (λ j. loaded_in (m j) w ls (p j))

abbrev whole : (z : Sizes) (w : Place → ℕ) (ls : List (Place × ℕ)) → Option (IsWhole z w ls)
whole z w ls =
    both (pairs (pairs (loaded w ls Base) (loaded w ls Claim)) (pairs (loaded w ls FreeCount) (loaded w ls InUse)))
    (pairs (pairs (pairs (loaded_in (w FreeCount) w ls FreePlace) (loaded_in z.buckets w ls Bucket)) (pairs (loaded_in z.rows w ls Birth) (loaded_in z.rows w ls Next)))
    (pairs (pairs (loaded_in z.seats w ls RootCount) (nested z.rows (λ r. widest z + 2) w ls RowWord)) (nested z.seats (λ j. w (RootCount j)) w ls Root)))
    (λ a b. record {
      base = a.0.0;
      claim = a.0.1;
      count = a.1.0;
      in_use = a.1.1;
      places = b.0.0.0;
      buckets = b.0.0.1;
      row_words = λ r k l. b.1.0.1 r l k;
      births = b.0.1.0;
      nexts = b.0.1.1;
      root_counts = b.1.0.0;
      roots = λ j k l. b.1.1 j l k;
    })

abbrev may_store : (z : Sizes) (w : Place → ℕ) (x : Call) → Option (MayStore z w x)
may_store z w (Loading ls) = whole z w ls
may_store z w (Storing ls ss) = Some tt
may_store z w x = None

abbrev not_lower : (l : Lock) (i : ℕ) (x : LockStep) → Option ((x ≡ Lower) → (seat_of l i).phase ≡ phase.Blocked)
not_lower l i Lower = None
not_lower l i Raise = Some (λ e. absurd (cc))
not_lower l i Look = Some (λ e. absurd (cc))
not_lower l i Take = Some (λ e. absurd (cc))
not_lower l i (Ask j) = Some (λ e. absurd (cc))
not_lower l i (Peek j) = Some (λ e. absurd (cc))
not_lower l i x = None

abbrev permitted : (z : Sizes) (s : State) (i : ℕ) (x : Step) → Option (Permits z s i x)
permitted z s i (LockAlone x) = both (pairs (not_lower s.lock i x) (lock_placed s.lock i x)) (away (s.view i).stay) (λ a b. (a.0, a.1, b))
permitted z s i LowerShared = both (pairs (shared (seat_of s.lock i).phase) (lock_placed s.lock i Lower)) (at_rest (s.view i)) (λ a b. (a.0, a.1, b))
permitted z s i (UnaskSeat j) = both (pairs (lock_placed s.lock i (Unask j)) (idle (s.view i).call)) (either (ready (s.view i).stay) (leaving (s.view i).stay)) (λ a b. (a.0, a.1, b))
permitted z s i GiveGranted = both (pairs (lock_placed s.lock i Give) (idle (s.view i).call)) (either (ready (s.view i).stay) (leaving (s.view i).stay)) (λ a b. (a.0, a.1, b))
permitted z s i LoadBase = both (pairs (either (shared (seat_of s.lock i).phase) (exclusive s.lock i)) (idle (s.view i).call)) (away (s.view i).stay) (λ a b. (a.0, a.1, b))
permitted z s i LoadInUse = pairs (idle (s.view i).call) (based (s.view i).stay)
permitted z s i (Begin c) = both (pairs (at_rest (s.view i)) (shared (seat_of s.lock i).phase)) (may_begin z s.words i (s.view i) c.head c.arguments)
    (λ a b. (a.0, inl a.1, record { few = b.0; second = b.1; over = b.2; named = b.3 }))
permitted z s i Go = creating (s.view i).call
permitted z s i (machine.StoreRoot k r) = both (pairs (at_rest (s.view i)) (below k z.depth)) (in_list r (s.view i).got) (λ a b. (a.0, a.1, has_got r b))
permitted z s i (machine.StoreCount n) =
    both (pairs (at_rest (s.view i)) (below n (suc z.depth)))
    (each n (λ k. (k < (s.view i).root_count) ⊎ MayName s.words i (s.view i) (s.words (Root i k))) (λ k. either (below k (s.view i).root_count) (then (in_list (s.words (Root i k)) (s.view i).got) (has_got (s.words (Root i k))))))
    (λ a b. (a.0, (let l = a.1 in omega arith), b))
permitted z s i (LoadAny p) =
    both (pairs (pairs (is_loading (s.view i).call) (ready (s.view i).stay)) (pairs (exclusive s.lock i) (same_list (last_roots [] (s.view i).entries) (protected_in (s.view i)))))
    (pairs (is_true (in_table z p)) (next_load (loads (s.view i).call) p)) (λ a b. (a.0.0, a.0.1, a.1.0, a.1.1, b.0, b.1))
permitted z s i (StoreAny p n) = both (pairs (may_store z s.words (s.view i).call) (is_true (in_table z p))) (is_true (is_stored p)) (λ a b. (a.0, a.1, b))
permitted z s i x = None

abbrev same_act : (a b : Act) → Option (a ≡ b)
same_act (Loads p) (Loads q) = then (at p q) (ap Loads)
same_act (Stores p m) (Stores q n) = both (at p q) (same m n) (λ e f. ap (λ (x : Place). Stores x m) e ∙ ap (Stores q) f)
same_act Draws Draws = Some refl
same_act (Exchanges p a b) (Exchanges q c d) = both (both (at p q) (same a c) (λ e f. ap (λ (x : Place). Exchanges x a b) e ∙ ap (λ (k : ℕ). Exchanges q k b) f)) (same b d) (λ e f. e ∙ ap (Exchanges q c) f)
same_act a b = None

abbrev row_fits : (z : Sizes) (v : View) (x : Call) (r k : ℕ) → Option (RowFits z v x r k)
row_fits z v Idle r k = Some tt
row_fits z v x r k = same_act (act v x) (Loads (row_place z r k))

abbrev fits : (z : Sizes) (v : View) (x : StoreStep) → Option (Fits z v x)
fits z v step.LoadFreeCount = same_act (act v v.call) (Loads FreeCount)
fits z v step.LoadClaim = same_act (act v v.call) (Loads Claim)
fits z v step.Draw = same_act (act v v.call) Draws
fits z v (step.LoadFreePlace k) = same_act (act v v.call) (Loads (FreePlace k))
fits z v (step.StoreDrawn r k n) = same_act (act v v.call) (Stores (row_place z r k) n)
fits z v (step.LoadBucket b c) = same b (bucket c v.in_use)
fits z v (step.LoadRow r k) = row_fits z v v.call r k
fits z v (step.Publish b old new) = same_act (act v v.call) (Exchanges (Bucket b) old new)
fits z v (step.StoreClaim n) = same n 0
fits z v x = Some tt

abbrev placed : (z : Sizes) (s : State) (i : ℕ) (x : StoreStep) → Option (IsInPlace z s i x)
placed z s i x = both (pairs (below i z.seats) (permitted z s i (meant s i x))) (fits z (s.view i) x) (λ a b. record { step = record { present = a.0; permitted = a.1 }; fits = b })

-- a run of steps that are all so in place
abbrev pub path : (z : Sizes) (s : State) (xs : List (ℕ × StoreStep)) → Option (Leads z s xs (ran z s xs))
path z s [] = Some refl
path z s (x ∷ xs) = pairs (placed z s x.0 x.1) (path z (after z s x.0 x.1) xs)

pub joined : (z : Sizes) (xs ys : List (ℕ × StoreStep)) (s t u : State) → Leads z s xs t → Leads z t ys u → Leads z s (xs ++ ys) u
joined z [] ys s t u h k = subst (λ (v : State). Leads z v ys u) h k
joined z (x ∷ xs) ys s t u h k = (h.0, joined z xs ys (after z s x.0 x.1) t u h.1 k)
