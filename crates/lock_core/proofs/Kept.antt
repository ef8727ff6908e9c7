-- Each step keeps the facts of exclusion, so every list of steps does.
use Rattle.std.proofs.Common.{◌≡◌, ◌≢◌, ℕ, ◌<◌, Bool, true, false, Option, None, Some, List, [], ◌∷◌, length, cond, refl, sym, ap, ◌∙◌, subst, ⊎_elim, ◌≤◌, get_or, arith}
use Rattle.std.proofs.lemmas.Grind.{common_steps}
use Rattle.std.proofs.lemmas.Bool.{cases_lt}
use Rattle.lock_core.specs.declared.parts.Phase.{Phase}
use Rattle.lock_core.specs.declared.parts.Phase.TheVariants.{Out, Raised, Shared, Blocked, Holder}
use Rattle.lock_core.specs.declared.parts.Standing.TheVariants.{Asked, Seen, Held}
use Rattle.lock_core.specs.declared.parts.LockStep.{LockStep}
use Rattle.lock_core.specs.declared.parts.LockStep.TheVariants.{Raise, Look, Lower, Take, Ask, Peek, Unask, Give}
use Rattle.lock_core.specs.declared.parts.SeatState.{SeatState}
use Rattle.lock_core.specs.Lock.{Lock, idle, at_start, seat_of, taken, after, InPlace, Leads}
use Rattle.lock_core.specs.Exclusion.{busy_in, forbidden_in, IsSound, IsExclusive, Exclusion}
use Rattle.lock_core.proofs.Seats.{SeatIsSound, seat_sound, sound_with, all_sound, all_idle}

past : (xs : List SeatState) (j : ℕ) → length xs ≤ j → get_or xs j idle ≡ idle
past xs j b = grind (arith, common_steps)

-- a seat that is and stays no holder
not_holder : (m : Option ℕ) (i : ℕ) (p q : Phase) → p ≢ Holder → q ≢ Holder → ((p ≡ Holder) → m ≡ Some i) × (m ≡ Some i → p ≡ Holder) → ((q ≡ Holder) → m ≡ Some i) × (m ≡ Some i → q ≡ Holder)
not_holder m i p q a b f = ((λ h. absurd (b h)), λ h. absurd (a (f.1 h)))

looked : (l : Lock) (i : ℕ) → IsSound l → i < length l.seats → (seat_of l i).phase ≡ Raised → (f : Bool) → (seat_of l i).forbidden ≡ f
    → SeatIsSound l.mutex i (record (seat_of l i) { phase = cond f Blocked Shared })
looked l i k present raised true set_flag = let s : SeatIsSound l.mutex i (seat_of l i) = seat_sound l i k in record {
  busy = s.busy ∙ ap busy_in raised;
  holder = not_holder l.mutex i (seat_of l i).phase Blocked (λ h. grind arith) (λ h. grind arith) s.holder;
  flag = s.flag;
  nobody = s.nobody;
  own = λ h. grind arith;
  held = λ _ h. grind arith;
}
looked l i k present raised false clear = let s : SeatIsSound l.mutex i (seat_of l i) = seat_sound l i k in record {
  busy = s.busy ∙ ap busy_in raised;
  holder = not_holder l.mutex i (seat_of l i).phase Shared (λ h. grind arith) (λ h. grind arith) s.holder;
  flag = s.flag;
  nobody = s.nobody;
  own = λ h. grind arith;
  held = λ h _. let e : forbidden_in (seat_of l i).standing ≡ true = ap forbidden_in h in let b = s.flag in grind arith;
}

peeked : (l : Lock) (i j : ℕ) → IsSound l → (seat_of l i).phase ≡ Holder → j ≢ i → (seat_of l j).standing ≡ Asked → (b : Bool) → (seat_of l j).busy ≡ b
    → SeatIsSound l.mutex j (record (seat_of l j) { standing = cond b Seen Held })
peeked l i j k holder other asked true busy = let s : SeatIsSound l.mutex j (seat_of l j) = seat_sound l j k in record {
  busy = s.busy;
  holder = s.holder;
  flag = s.flag ∙ ap forbidden_in asked;
  nobody = λ h. let e = s.nobody h in grind arith;
  own = λ h. let e = s.own h in grind arith;
  held = λ h _. grind arith;
}
peeked l i j k holder other asked false busy = let s : SeatIsSound l.mutex j (seat_of l j) = seat_sound l j k in record {
  busy = s.busy;
  holder = s.holder;
  flag = s.flag ∙ ap forbidden_in asked;
  nobody = λ h. let e = s.nobody h in grind arith;
  own = λ h. let e = s.own h in grind arith;
  held = λ _ h. let e : busy_in (seat_of l j).phase ≡ true = ap busy_in h in let b = s.busy in grind arith;
}

took : (l : Lock) (i : ℕ) → IsSound l → i < length l.seats → (seat_of l i).phase ≡ Out → (m : Option ℕ) → l.mutex ≡ m → IsSound (taken l i m)
took l i k present out None free = let s : SeatIsSound l.mutex i (seat_of l i) = seat_sound l i k in
    sound_with l (Some i) i (record (seat_of l i) { phase = Holder }) present
    record { busy = s.busy ∙ ap busy_in out; holder = ((λ _. refl), λ _. refl); flag = s.flag; nobody = λ h. grind arith; own = λ _. s.nobody free; held = λ _ h. grind arith }
    (λ j ne. let t : SeatIsSound l.mutex j (seat_of l j) = seat_sound l j k in record {
      busy = t.busy;
      holder = ((λ h. let e = t.holder.0 h in absurd (grind arith)), λ h. absurd (ne (grind arith)));
      flag = t.flag;
      nobody = λ h. grind arith;
      own = t.own;
      held = t.held;
    })
took l i k present out (Some h) taken_by = k

pub kept : (l : Lock) (i : ℕ) (x : LockStep) → IsSound l → InPlace l i x → IsSound (after l i x)
kept l i Raise k ok = let s : SeatIsSound l.mutex i (seat_of l i) = seat_sound l i k in let out : (seat_of l i).phase ≡ Out = ok.permitted in
    sound_with l l.mutex i _ ok.present
    record { busy = refl; holder = not_holder l.mutex i (seat_of l i).phase Raised (λ h. grind arith) (λ h. grind arith) s.holder; flag = s.flag; nobody = s.nobody; own = λ h. grind arith; held = λ _ h. grind arith }
    (λ j _. seat_sound l j k)
kept l i Look k ok = sound_with l l.mutex i _ ok.present (looked l i k ok.present ok.permitted (seat_of l i).forbidden refl) (λ j _. seat_sound l j k)
kept l i Lower k ok = let s : SeatIsSound l.mutex i (seat_of l i) = seat_sound l i k in
    let was : (seat_of l i).phase ≢ Holder = ⊎_elim (λ e h. grind arith) (λ e h. grind arith) ok.permitted in
    sound_with l l.mutex i _ ok.present
    record { busy = refl; holder = not_holder l.mutex i (seat_of l i).phase Out was (λ h. grind arith) s.holder; flag = s.flag; nobody = s.nobody; own = λ h. grind arith; held = λ _ h. grind arith }
    (λ j _. seat_sound l j k)
kept l i Take k ok = took l i k ok.present ok.permitted l.mutex refl
kept l i (Ask j) k ok = let s : SeatIsSound l.mutex j (seat_of l j) = seat_sound l j k in let p = ok.permitted in let mine = (k.holder i).0 p.0 in
    sound_with l l.mutex j _ p.1.present
    record { busy = s.busy; holder = s.holder; flag = refl; nobody = λ h. grind arith; own = λ h. let e = s.holder.0 h in let ne = p.1.other in absurd (ne (grind arith)); held = λ h. grind arith }
    (λ m _. seat_sound l m k)
kept l i (Peek j) k ok = let p = ok.permitted in
    sound_with l l.mutex j _ p.1.present (peeked l i j k p.0 p.1.other p.1.standing (seat_of l j).busy refl) (λ m _. seat_sound l m k)
kept l i (Unask j) k ok = let s : SeatIsSound l.mutex j (seat_of l j) = seat_sound l j k in let p = ok.permitted in
    sound_with l l.mutex j _ p.1
    record { busy = s.busy; holder = s.holder; flag = refl; nobody = λ _. refl; own = λ _. refl; held = λ h. grind arith }
    (λ m _. seat_sound l m k)
kept l i Give k ok = let s : SeatIsSound l.mutex i (seat_of l i) = seat_sound l i k in let p = ok.permitted in
    sound_with l None i _ ok.present
    record { busy = s.busy ∙ ap busy_in p.0; holder = ((λ h. grind arith), λ h. grind arith); flag = s.flag; nobody = λ _. s.own p.0; own = λ h. grind arith; held = λ _ h. grind arith }
    (λ j ne. let t : SeatIsSound l.mutex j (seat_of l j) = seat_sound l j k in record {
      busy = t.busy;
      holder = ((λ h. let e = t.holder.0 h in let mine = (k.holder i).0 p.0 in absurd (ne (grind arith))), λ h. grind arith);
      flag = t.flag;
      nobody = λ _. ⊎_elim (λ b. p.1 j b ne) (λ b. ap (λ (z : SeatState). z.standing) (past l.seats j b)) (cases_lt j (length l.seats));
      own = t.own;
      held = t.held;
    })

pub sound_at_start : (n : ℕ) → IsSound (at_start n)
sound_at_start n = all_sound (at_start n) (λ j. subst (SeatIsSound None j) (sym (all_idle n j))
    record { busy = refl; holder = ((λ h. grind arith), λ h. grind arith); flag = refl; nobody = λ _. refl; own = λ _. refl; held = λ h. grind arith })

pub sound_along : (xs : List (ℕ × LockStep)) (l m : Lock) → IsSound l → Leads l xs m → IsSound m
sound_along [] l m k path = subst IsSound (sym path) k
sound_along (x ∷ xs) l m k path = sound_along xs (after l x.0 x.1) m (kept l x.0 x.1 k path.0) path.1

pub excludes : (l : Lock) → IsSound l → Exclusion l
excludes l k i j exclusive present other = (
  k.held j (exclusive.others j present other),
  λ (too : IsExclusive l j). let a = (k.holder i).0 exclusive.holder in let b = (k.holder j).0 too.holder in other (grind arith),
)
