-- Steps of the lock, and the end of a shared access, keep what holds of the store.
use Rattle.std.proofs.Common.{◌≡◌, ◌≢◌, ◌⊎◌, ℕ, ◌<◌, Option, None, Some, length, get_or, set, refl, sym, ap, ◌∙◌, ⊎_elim, inl, inr, arith, length-set}
use Rattle.lock_core.specs.declared.parts.Phase.TheVariants as phase
use Rattle.lock_core.specs.declared.parts.Standing.TheVariants.{Held}
use Rattle.lock_core.specs.declared.parts.LockStep.{LockStep}
use Rattle.lock_core.specs.declared.parts.LockStep.TheVariants.{Raise, Look, Lower, Take, Ask, Peek, Unask, Give}
use Rattle.lock_core.specs.declared.parts.SeatState.{SeatState}
use Rattle.lock_core.specs.Lock as lock
use Rattle.lock_core.specs.Lock.{Lock, seat_of, idle, taken}
use Rattle.lock_core.specs.Exclusion.{IsSound, IsExclusive}
use Rattle.lock_core.proofs.Seats.{seat_case}
use Rattle.lock_core.proofs.Kept.{excludes}
use Rattle.std.proofs.lemmas.List.{get_or_past}
use Rattle.std.proofs.lemmas.Bool.{cases_lt}
use Rattle.store_model.specs.Calls.{Stay, Away, Based, Ready, Leaving}
use Rattle.store_model.specs.Machine.{InAccess, Granted}

-- the seats of a lock with another seat k: what a seat j knows of its access is kept, where k's
-- phase is, and its standing
stays_in : (l : Lock) (m : Option ℕ) (k : ℕ) (t : SeatState) (j : ℕ) → k < length l.seats → (j ≡ k → t.phase ≡ (seat_of l k).phase) → (IsExclusive l j → t.standing ≡ (seat_of l k).standing)
    → InAccess l j → InAccess (record { mutex = m; seats = set l.seats k t }) j
stays_in l m k t j there same stands access =
    let phase_same : get_or (set l.seats k t) j idle ≡ get_or (set l.seats k t) j idle → (seat_of (record { mutex = m; seats = set l.seats k t }) j).phase ≡ (seat_of l j).phase =
    (λ _. seat_case (λ u. u.phase ≡ (seat_of l j).phase) l.seats k t j there (λ e. same e ∙ ap (λ (q : ℕ). (seat_of l q).phase) (sym e)) (λ _. refl)) in
    ⊎_elim (λ e. inl (phase_same refl ∙ e))
    (λ x. inr record {
      present = let a = length-set l.seats k t in let b = x.present in omega arith;
      holder = phase_same refl ∙ x.holder;
      others = λ q below ne. seat_case (λ u. u.standing ≡ Held) l.seats k t q there (λ e. stands x ∙ (ap (λ (p : ℕ). (seat_of l p).standing) (sym e) ∙ x.others q (let a = length-set l.seats k t in omega arith) ne)) (λ _. x.others q (let a = length-set l.seats k t in omega arith) ne);
    })
    access

-- there is one holder
one_holder : (l : Lock) (i j : ℕ) → IsSound l → (seat_of l i).phase ≡ phase.Holder → (seat_of l j).phase ≡ phase.Holder → j ≡ i
one_holder l i j k a b = let p = (k.holder i).0 a in let q = (k.holder j).0 b in grind arith

took : (l : Lock) (i j : ℕ) → i < length l.seats → j ≢ i → (n : Option ℕ) → InAccess l j → InAccess (taken l i n) j
took l i j there ne None access = stays_in l (Some i) i _ j there (λ e. absurd (ne e)) (λ _. refl) access
took l i j there ne (Some h) access = access

pub access_kept : (l : Lock) (i j : ℕ) (x : LockStep) → IsSound l → lock.InPlace l i x → j ≢ i → InAccess l j → InAccess (lock.after l i x) j
access_kept l i j Raise k ok ne access = stays_in l l.mutex i _ j ok.present (λ e. absurd (ne e)) (λ _. refl) access
access_kept l i j Look k ok ne access = stays_in l l.mutex i _ j ok.present (λ e. absurd (ne e)) (λ _. refl) access
access_kept l i j Lower k ok ne access = stays_in l l.mutex i _ j ok.present (λ e. absurd (ne e)) (λ _. refl) access
access_kept l i j Take k ok ne access = took l i j ok.present ne l.mutex access
access_kept l i j (Ask q) k ok ne access = let p = ok.permitted in stays_in l l.mutex q _ j p.1.present (λ _. refl) (λ x. absurd (ne (one_holder l i j k p.0 x.holder))) access
access_kept l i j (Peek q) k ok ne access = let p = ok.permitted in stays_in l l.mutex q _ j p.1.present (λ _. refl) (λ x. absurd (ne (one_holder l i j k p.0 x.holder))) access
access_kept l i j (Unask q) k ok ne access = let p = ok.permitted in stays_in l l.mutex q _ j p.1 (λ _. refl) (λ x. absurd (ne (one_holder l i j k p.0 x.holder))) access
access_kept l i j Give k ok ne access = stays_in l None i _ j ok.present (λ e. absurd (ne e)) (λ _. refl) access

taken_count : (l : Lock) (i : ℕ) (n : Option ℕ) → length (taken l i n).seats ≡ length l.seats
taken_count l i None = length-set l.seats i _
taken_count l i (Some h) = refl

pub count_kept : (l : Lock) (i : ℕ) (x : LockStep) → length (lock.after l i x).seats ≡ length l.seats
count_kept l i Raise = length-set l.seats i _
count_kept l i Look = length-set l.seats i _
count_kept l i Lower = length-set l.seats i _
count_kept l i Take = taken_count l i l.mutex
count_kept l i (Ask q) = length-set l.seats q _
count_kept l i (Peek q) = length-set l.seats q _
count_kept l i (Unask q) = length-set l.seats q _
count_kept l i Give = length-set l.seats i _

-- the seats of a lock with another seat k: an exclusive seat j stays so
stays_alone : (l : Lock) (m : Option ℕ) (k : ℕ) (t : SeatState) (j : ℕ) → k < length l.seats → (j ≡ k → t.phase ≡ (seat_of l k).phase) → t.standing ≡ (seat_of l k).standing
    → IsExclusive l j → IsExclusive (record { mutex = m; seats = set l.seats k t }) j
stays_alone l m k t j there same stands x = record {
  present = let a = length-set l.seats k t in let b = x.present in omega arith;
  holder = seat_case (λ u. u.phase ≡ phase.Holder) l.seats k t j there (λ e. same e ∙ (ap (λ (q : ℕ). (seat_of l q).phase) (sym e) ∙ x.holder)) (λ _. x.holder);
  others = λ q below ne. seat_case (λ u. u.standing ≡ Held) l.seats k t q there (λ e. stands ∙ (ap (λ (p : ℕ). (seat_of l p).standing) (sym e) ∙ x.others q (let a = length-set l.seats k t in omega arith) ne)) (λ _. x.others q (let a = length-set l.seats k t in omega arith) ne);
}

took_alone : (l : Lock) (i j : ℕ) → i < length l.seats → j ≢ i → (n : Option ℕ) → IsExclusive l j → IsExclusive (taken l i n) j
took_alone l i j there ne None x = stays_alone l (Some i) i _ j there (λ e. absurd (ne e)) refl x
took_alone l i j there ne (Some h) x = x

pub alone_kept : (l : Lock) (i j : ℕ) (x : LockStep) → IsSound l → lock.InPlace l i x → j ≢ i → IsExclusive l j → IsExclusive (lock.after l i x) j
alone_kept l i j Raise k ok ne a = stays_alone l l.mutex i _ j ok.present (λ e. absurd (ne e)) refl a
alone_kept l i j Look k ok ne a = stays_alone l l.mutex i _ j ok.present (λ e. absurd (ne e)) refl a
alone_kept l i j Lower k ok ne a = stays_alone l l.mutex i _ j ok.present (λ e. absurd (ne e)) refl a
alone_kept l i j Take k ok ne a = took_alone l i j ok.present ne l.mutex a
alone_kept l i j (Ask q) k ok ne a = absurd (ne (one_holder l i j k ok.permitted.0 a.holder))
alone_kept l i j (Peek q) k ok ne a = absurd (ne (one_holder l i j k ok.permitted.0 a.holder))
alone_kept l i j (Unask q) k ok ne a = absurd (ne (one_holder l i j k ok.permitted.0 a.holder))
alone_kept l i j Give k ok ne a = absurd (ne (one_holder l i j k ok.permitted.0 a.holder))

-- a seat that is in shared access, or is the holder
abbrev pub IsIn : Lock → ℕ → Type 0
IsIn l i = InAccess l i ⊎ ((seat_of l i).phase ≡ phase.Holder)

pub is_in : (l : Lock) (i : ℕ) (x : Stay) → Granted l i x → x ≢ Away → IsIn l i
is_in l i Away g ne = absurd (ne refl)
is_in l i Based g ne = inl g
is_in l i Ready g ne = inl g
is_in l i Leaving g ne = inr g

-- beside an exclusive seat no other is in
pub alone_in : (l : Lock) → IsSound l → (j i : ℕ) → IsExclusive l j → i ≢ j → IsIn l i → ⊥
alone_in l k j i alone ne inside = ⊎_elim (λ access. ⊎_elim
    (λ there. let x = excludes l k j i alone there ne in ⊎_elim (λ shared. x.0 shared) (λ exclusive. x.1 exclusive) access)
    (λ past. ⊎_elim (λ (shared : (seat_of l i).phase ≡ phase.Shared). absurd (let e : phase.Out ≡ phase.Shared = sym (ap (λ (q : SeatState). q.phase) (get_or_past l.seats i idle past)) ∙ shared in cc)) (λ (x : IsExclusive l i). let p = x.present in absurd (omega arith)) access)
    (cases_lt i (length l.seats)))
    (λ holder. ne (one_holder l j i k alone.holder holder)) inside

-- a holder stays so while another seat steps
holder_with : (l : Lock) (m : Option ℕ) (k : ℕ) (t : SeatState) (j : ℕ) → k < length l.seats → (j ≡ k → t.phase ≡ (seat_of l k).phase) → (seat_of l j).phase ≡ phase.Holder → (seat_of (record { mutex = m; seats = set l.seats k t }) j).phase ≡ phase.Holder
holder_with l m k t j there same holder = seat_case (λ u. u.phase ≡ phase.Holder) l.seats k t j there (λ e. same e ∙ (ap (λ (q : ℕ). (seat_of l q).phase) (sym e) ∙ holder)) (λ _. holder)

took_holder : (l : Lock) (i j : ℕ) → i < length l.seats → j ≢ i → (n : Option ℕ) → (seat_of l j).phase ≡ phase.Holder → (seat_of (taken l i n) j).phase ≡ phase.Holder
took_holder l i j there ne None h = holder_with l (Some i) i _ j there (λ e. absurd (ne e)) h
took_holder l i j there ne (Some n) h = h

pub holder_kept : (l : Lock) (i j : ℕ) (x : LockStep) → IsSound l → lock.InPlace l i x → j ≢ i → (seat_of l j).phase ≡ phase.Holder → (seat_of (lock.after l i x) j).phase ≡ phase.Holder
holder_kept l i j Raise k ok ne h = holder_with l l.mutex i _ j ok.present (λ e. absurd (ne e)) h
holder_kept l i j Look k ok ne h = holder_with l l.mutex i _ j ok.present (λ e. absurd (ne e)) h
holder_kept l i j Lower k ok ne h = holder_with l l.mutex i _ j ok.present (λ e. absurd (ne e)) h
holder_kept l i j Take k ok ne h = took_holder l i j ok.present ne l.mutex h
holder_kept l i j (Ask q) k ok ne h = absurd (ne (one_holder l i j k ok.permitted.0 h))
holder_kept l i j (Peek q) k ok ne h = absurd (ne (one_holder l i j k ok.permitted.0 h))
holder_kept l i j (Unask q) k ok ne h = absurd (ne (one_holder l i j k ok.permitted.0 h))
holder_kept l i j Give k ok ne h = absurd (ne (one_holder l i j k ok.permitted.0 h))

pub granted_kept : (l : Lock) (i j : ℕ) (x : LockStep) → IsSound l → lock.InPlace l i x → j ≢ i → (y : Stay) → Granted l j y → Granted (lock.after l i x) j y
granted_kept l i j x k ok ne Away g = tt
granted_kept l i j x k ok ne Based g = access_kept l i j x k ok ne g
granted_kept l i j x k ok ne Ready g = access_kept l i j x k ok ne g
granted_kept l i j x k ok ne Leaving g = holder_kept l i j x k ok ne g

-- a holder that frees another seat is still the holder
pub unask_holder : (l : Lock) (i q : ℕ) → lock.InPlace l i (Unask q) → (seat_of (lock.after l i (Unask q)) i).phase ≡ phase.Holder
unask_holder l i q ok = let p = ok.permitted in holder_with l l.mutex q _ i p.1 (λ _. refl) p.0
