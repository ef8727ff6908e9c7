-- The lock that words and views show is one alone.
use Rattle.std.proofs.Common.{◌≡◌, ◌≢◌, ℕ, ◌<◌, Bool, true, false, Option, None, Some, List, length, map, get_or, replicate, refl, sym, ap, ◌∙◌, subst, arith, ⊎_elim}
use Rattle.std.proofs.lemmas.List.{ext_get_or, get_or_past, length-replicate}
use Rattle.std.proofs.lemmas.Bool.{cases_lt}
use mathlib.Core.Logic.{dite}
use mathlib.Core.Option.{some}
use native.Mathlib.Decide.{ℕ_discrete}
use lib.ListN.{get_elem?}
use Rattle.atomic_table.specs.Table.{State}
use Rattle.atomic_table.proofs.Lists.{at_map}
use Rattle.lock_core.specs.declared.parts.Phase.TheVariants.{Out, Holder}
use Rattle.lock_core.specs.declared.parts.Standing.TheVariants.{Free}
use Rattle.lock_core.specs.declared.parts.LockStep.{LockStep}
use Rattle.lock_core.specs.declared.parts.LockStep.TheVariants.{Give}
use Rattle.lock_core.specs.Lock.{Lock, idle, at_start, seat_of, after}
use Rattle.lock_core.specs.Exclusion.{busy_in, forbidden_in, IsSound}
use Rattle.lock_core.proofs.Seats.{all_idle}
use Rattle.busy_forbidden.specs.declared.view.LockView.{LockView}
use Rattle.busy_forbidden.specs.Shown.{forbidden_at, bit, mutex_word, nobody, newcomer, view_at, Shows}
use Rattle.busy_forbidden.specs.Moves.{MayStep, moved}
use Rattle.busy_forbidden.specs.Rules.{ShowsLock, MayMake, IsLockStep, after_step}
use Rattle.busy_forbidden.specs.Views.{at_view}
use Rattle.busy_forbidden.specs.Simulation.{in_place}
use Rattle.busy_forbidden.specs.OnlyKeeps.{lock_kept}

mutex_same : (a b : Option ℕ) → mutex_word a ≡ mutex_word b → a ≡ b
mutex_same None None e = refl
mutex_same None (Some j) e = absurd (omega arith)
mutex_same (Some i) None e = absurd (omega arith)
mutex_same (Some i) (Some j) e = ap Some (omega arith)

bit_same : (a b : Bool) → bit a ≡ bit b → a ≡ b
bit_same false false e = refl
bit_same false true e = absurd (omega arith)
bit_same true false e = absurd (omega arith)
bit_same true true e = refl

module _ (n : ℕ) (words : List ℕ) (vs : List LockView) where
  -- how each seat stands is what the view of the mutex's seat says, and free without one
  same_standing : (l m : Lock) → Shows n words vs l → IsSound l → Shows n words vs m → IsSound m → (o : Option ℕ) → l.mutex ≡ o → m.mutex ≡ o → (j : ℕ) → (seat_of l j).standing ≡ (seat_of m j).standing
  same_standing l m a k b h None x y j = k.forbidden.nobody x j ∙ sym (h.forbidden.nobody y j)
  same_standing l m a k b h (Some i) x y j = let holder = sym (a.phase i) ∙ (k.holder i).1 x in a.stands i j holder ∙ sym (b.stands i j holder)

  pub shows_one : (l m : Lock) → Shows n words vs l → IsSound l → Shows n words vs m → IsSound m → l ≡ m
  shows_one l m a k b h =
      let mutex : l.mutex ≡ m.mutex = mutex_same l.mutex m.mutex (sym a.mutex ∙ b.mutex) in
      let long : length l.seats ≡ length m.seats = a.count ∙ sym b.count in
      let seat : (j : ℕ) → j < length l.seats → seat_of l j ≡ seat_of m j = λ j inside.
      let below : j < n = let c = a.count in omega arith in
      let phase = a.phase j ∙ sym (b.phase j) in
      let busy = bit_same (seat_of l j).busy (seat_of m j).busy (sym (a.busy j below) ∙ b.busy j below) in
      let forbidden = bit_same (seat_of l j).forbidden (seat_of m j).forbidden (sym (a.forbidden j below) ∙ b.forbidden j below) in
      let stands = same_standing l m a k b h m.mutex mutex refl j in
      λ t. record { phase = phase t; busy = busy t; forbidden = forbidden t; standing = stands t } in
      let seats = ext_get_or idle l.seats m.seats long seat in
      λ t. record { mutex = mutex t; seats = seats t }

  -- without a holder nobody has the mutex
  free_mutex : (l : Lock) → Shows n words vs l → IsSound l → ((j : ℕ) → (view_at vs j).phase ≢ Holder) → (o : Option ℕ) → l.mutex ≡ o → l.mutex ≡ None
  free_mutex l a k none None e = e
  free_mutex l a k none (Some i) e = absurd (none i (sym (a.phase i) ∙ (k.holder i).1 e))

  -- while every seat is out, the lock is as at the start
  pub at_rest : (l : Lock) → Shows n words vs l → IsSound l → ((j : ℕ) → (view_at vs j).phase ≡ Out) → l ≡ at_start n
  at_rest l a k out =
      let mutex = free_mutex l a k (λ j h. let o = out j in grind arith) l.mutex refl in
      let long : length l.seats ≡ length (replicate n idle) = a.count ∙ sym (length-replicate n idle) in
      let seat : (j : ℕ) → j < length l.seats → seat_of l j ≡ get_or (replicate n idle) j idle = λ j _.
      let phase = a.phase j ∙ out j in
      let free = k.forbidden.nobody mutex j in
      let busy = k.busy j ∙ ap busy_in phase in
      let forbidden = k.forbidden.flags j ∙ ap forbidden_in free in
      let is : seat_of l j ≡ idle = λ t. record { phase = phase t; busy = busy t; forbidden = forbidden t; standing = free t } in
      is ∙ sym (all_idle n j) in
      let seats = ext_get_or idle l.seats (replicate n idle) long seat in
      λ t. record { mutex = mutex t; seats = seats t }

  -- where seat i may give the mutex, every forbidden word is 0
  pub gives_cleared : (l : Lock) (i : ℕ) → Shows n words vs l → IsSound l → MayStep n i (view_at vs i) Give → (j : ℕ) → j < n → get_or words (forbidden_at j) 0 ≡ 0
  gives_cleared l i a k ok j below =
      let free : (seat_of l j).standing ≡ Free = dite (ℕ_discrete j i)
      (λ e. ap (λ (h : ℕ). (seat_of l h).standing) e ∙ k.forbidden.holder i (a.phase i ∙ ok.0))
      (λ ne. a.stands i j ok.0 ∙ ok.1 j below ne) in
      a.forbidden j below ∙ ap bit (k.forbidden.flags j ∙ ap forbidden_in free)

  -- while the mutex's word is 0, so is every forbidden word
  pub free_cleared : (l : Lock) → Shows n words vs l → IsSound l → get_or words 0 0 ≡ 0 → (j : ℕ) → j < n → get_or words (forbidden_at j) 0 ≡ 0
  free_cleared l a k zero_word j below =
      let free = mutex_same l.mutex None (sym a.mutex ∙ zero_word) in
      a.forbidden j below ∙ ap bit (k.forbidden.flags j ∙ ap forbidden_in (k.forbidden.nobody free j))

-- the seats of a new lock, while their views stand so
pub starts : {S V : Type 0} (lock : V → LockView) (n : ℕ) (s : State S V) (l : ShowsLock lock n s)
    → ((j : ℕ) → j < n → (id : ℕ) × (v : V) × (get_elem? s.views id ≡ some v) × (lock v ≡ newcomer j)) → l.state ≡ at_start n
starts lock n s l seats =
    let vs : List LockView = map lock s.views in
    let out : (j : ℕ) → (view_at vs j).phase ≡ Out = λ j. ⊎_elim
    (λ below.
    let seat = seats j below in
    let there : view_at vs seat.0 ≡ lock seat.1 = (at_view vs seat.0 (lock seat.1) (at_map lock s.views seat.0 seat.1 seat.2)).0 in
    let is : view_at vs seat.0 ≡ newcomer j = there ∙ seat.3 in
    let place : j ≡ seat.0 = l.shows.number j seat.0 (ap (λ (u : LockView). u.number) is) in
    ap (λ (k : ℕ). (view_at vs k).phase) place ∙ ap (λ (u : LockView). u.phase) is)
    (λ above. ap (λ (u : LockView). u.phase) (get_or_past vs j nobody (let few = l.shows.few in omega arith)))
    (cases_lt j n) in
    at_rest n s.words vs l.state l.shows l.sound out

-- a step that a rule allows is the lock's
pub is_lock_step : {S V : Type 0} (lock : V → LockView) (n : ℕ) (can : LockStep → V → Type 0) (next : LockStep → ℕ → V → V) → ((v : V) (x : LockStep) (f : ℕ) → lock (next x f v) ≡ moved (lock v) x f)
    → (s : State S V) (i : ℕ) (v : V) (x : LockStep) → MayMake lock n can s i v x → IsLockStep lock n next s i v x
unfolding lock_kept
is_lock_step lock n can next moves s i v x may = record {
  in_place = λ l.
      let there = at_view (map lock s.views) i (lock v) (at_map lock s.views i v may.view) in
      in_place n s.words (map lock s.views) l.state l.shows l.sound i there.1 x (subst (λ (u : LockView). MayStep n i u x) (sym there.0) may.place);
  after = λ l m.
      let k = lock_kept lock next moves n s i v x l may.view may.place in
      let t = after_step next s i v x in
      shows_one n t.words (map lock t.views) m.state (after l.state i x) m.shows m.sound k.shows k.sound;
}
