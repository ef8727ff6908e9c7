-- Steps of the lock, and the end of a shared access, keep what holds of the store.
use Rattle.std.proofs.Common.{◌≡◌, ◌≢◌, ℕ, zero, suc, ◌<◌, ◌≤◌, true, List, [], ◌∷◌, ◌++◌, refl, sym, ap, ◌∙◌, subst, arith}
use mathlib.Core.Path.{fun_ext}
use mathlib.Core.Logic.{dite}
use native.Mathlib.Decide.{ℕ_discrete}
use Rattle.lock_core.specs.declared.parts.LockStep.{LockStep}
use Rattle.lock_core.specs.declared.parts.LockStep.TheVariants.{Unask}
use Rattle.lock_core.specs.Lock as lock
use Rattle.lock_core.proofs.Kept.{kept}
use Rattle.history_core.specs.declared.entry.Entry.{Entry}
use Rattle.history_core.specs.declared.entry.Entry.TheVariants.{Roots}
use Rattle.history_core.specs.Chronicle.{noted}
use Rattle.history_core.specs.Recording.{IsFaithful, IsIn}
use Rattle.history_core.proofs.Recorded.{roots_keep}
use Rattle.store_model.specs.Words.{Base, Birth, RootCount, Root, put}
use Rattle.store_model.specs.Calls.{Call, Idle, Away, View}
use Rattle.store_model.specs.Machine as machine
use Rattle.store_model.specs.Machine.{Sizes, State, Each, Granted, with_call, left, roots_of}
use Rattle.store_model.specs.Meaning.{Meaning}
use Rattle.store_model.specs.Seats.{index, IsSeen, SeatHolds}
use Rattle.store_model.specs.Invariant.{names_of, listed, store_of, HistoryFits, Holds, IsStoreSound}
use Rattle.store_model.proofs.Basics.{put_case, put_same, each_map, each_join}
use Rattle.store_model.proofs.Histories.{history_same, lists_noted, listed_length, each_contains}
use Rattle.store_model.proofs.Noting.{each_held}
use Rattle.store_model.proofs.Gains.{leaves}
use Rattle.store_model.proofs.Views.{nothing_done, kept_with, same_overdrawn, apart_none}
use Rattle.store_model.proofs.LoadsKept.{seat_at}
use Rattle.store_model.proofs.Locks.{granted_kept, unask_holder, count_kept}

-- a step of the lock by a seat that is away
pub lock_moved : (z : Sizes) (s : State) (m : Meaning) → Holds z s m → (i : ℕ) (x : LockStep) → Granted (lock.after s.lock i x) i (s.view i).stay → lock.InPlace s.lock i x
    → Holds z (record { lock = lock.after s.lock i x; words = s.words; view = s.view }) m
lock_moved z s m h i x own ok = record {
  lock = record {
    sound = kept s.lock i x h.lock.sound ok;
    seats = count_kept s.lock i x ∙ h.lock.seats;
    access = λ j. dite (ℕ_discrete j i) (λ e. subst (Granted (lock.after s.lock i x) j) (sym (ap (λ (k : ℕ). (s.view k).stay) e)) (subst (λ (q : ℕ). Granted (lock.after s.lock i x) q (s.view i).stay) (sym e) own)) (λ ne. granted_kept s.lock i j x h.lock.sound ok ne (s.view j).stay (h.lock.access j));
  };
  rows = h.rows;
  chains = h.chains;
  numbers = h.numbers;
  apart = h.apart;
  history = h.history;
  seats = h.seats;
}

module _ (z : Sizes) (s : State) (m : Meaning) (h : Holds z s m) (i : ℕ) (there : i < z.seats) where
  rows_seen : (n : ℕ) → n ≤ s.words (RootCount i) → Each (IsSeen s.words m (s.view i).seen) (roots_of s.words i n)
  rows_seen zero l = tt
  rows_seen (suc n) l = each_join (IsSeen s.words m (s.view i).seen) (roots_of s.words i n) (s.words (Root i n) ∷ []) (rows_seen n (omega arith)) ((h.seats i).protects.roots n (omega arith), tt)

  leaving : (v : View) (rows : List ℕ) → v.seen ≡ (s.view i).seen → v.entries ≡ (s.view i).entries ++ Roots (s.view i).seen rows ∷ [] → (s.view i).stay ≢ Away → Each (IsSeen s.words m (s.view i).seen) rows → HistoryFits z s.words m (put s.view i v)
  leaving v rows seen more inside all =
      let e : Entry = Roots (s.view i).seen rows in
      let is_in : IsIn (store_of z s.words m s.view) i = record { there = (let a = listed_length z.seats (λ j. (s.view j).entries) in omega arith); base = (h.seats i).numbers.entered inside } in
      let k = roots_keep z.rows (store_of z s.words m s.view) i rows h.history is_in (λ n c. (each_contains (IsSeen s.words m (s.view i).seen) rows all n c).birth)
      (each_held m rows (each_map (IsSeen s.words m (s.view i).seen) (λ r. m.live r ≡ true) rows (λ r q. q.live) all)) in
      let same : (λ j. (put s.view i v j).seen) ≡ (λ j. (s.view j).seen) = fun_ext (λ j. put_case (λ (p : View). p.seen ≡ (s.view j).seen) s.view i v j (λ f. seen ∙ ap (λ (q : ℕ). (s.view q).seen) (sym f)) (λ _. refl)) in
      subst (λ ls. IsFaithful z.rows (record { names = names_of m; birth = λ r. s.words (Birth r); base = s.words Base; lists = ls; seen = λ j. (put s.view i v j).seen })) (sym (lists_noted z.seats s.view i v e there more))
      (subst (λ (f : ℕ → ℕ). IsFaithful z.rows (record { names = names_of m; birth = λ r. s.words (Birth r); base = s.words Base; lists = noted (listed z.seats (λ j. (s.view j).entries)) i e; seen = f })) (sym same) k)

  -- an access ends with Roots, by the last step x of the lock
  pub kept_leave : (x : LockStep) → (s.view i).call ≡ Idle → (s.view i).stay ≢ Away → lock.InPlace s.lock i x
      → IsStoreSound z m.live (record { lock = lock.after s.lock i x; words = s.words; view = put s.view i (left (s.view i) (roots_of s.words i (s.words (RootCount i)))) })
  kept_leave x e inside ok =
      let rows : List ℕ = roots_of s.words i (s.words (RootCount i)) in
      let v : View = left (s.view i) rows in
      let none = apart_none z s m h i v.call (ap index e) in
      let over = same_overdrawn z s m h i v none tt refl (s.words Base) in
      let seat : SeatHolds s.words m i v = subst (λ (x : Call). SeatHolds s.words m i (left (with_call (s.view i) x) rows)) (sym e) (leaves s.words m i (s.view i) (seat_at z s m h i Idle e) rows refl) in
      record {
        meaning = m;
        grows = λ r l. l;
        holds = lock_moved z (record { lock = s.lock; words = s.words; view = put s.view i v }) m
            (kept_with z s m h i v none tt s.words m h.rows h.chains
            record { born = h.numbers.born; differ = h.numbers.differ; drawn = let a = h.numbers.drawn in omega arith; room = h.numbers.room; absent = h.numbers.absent }
            (leaving v rows refl refl inside (rows_seen (s.words (RootCount i)) (omega arith))) (λ j _. nothing_done j (s.view j) s.words m) seat)
            i x (subst (Granted (lock.after s.lock i x) i) (sym (ap (λ (p : View). p.stay) (put_same s.view i v))) tt) ok;
      }

  -- an exclusive access begins to end
  pub kept_unask : (q : ℕ) → (s.view i).call ≡ Idle → (s.view i).stay ≢ Away → lock.InPlace s.lock i (Unask q)
      → IsStoreSound z m.live (record { lock = lock.after s.lock i (Unask q); words = s.words; view = put s.view i (machine.leaving (s.view i)) })
  kept_unask q e inside ok =
      let v : View = machine.leaving (s.view i) in
      let none = apart_none z s m h i v.call (ap index e) in
      let over = same_overdrawn z s m h i v none ok.permitted.0 refl (s.words Base) in
      let old = h.seats i in
      let seat : SeatHolds s.words m i (machine.leaving (with_call (s.view i) Idle)) = record {
        walks = record { walk = tt; look = tt };
        drawn = record { index = tt; row = tt };
        numbers = record { base = λ _. old.numbers.base inside; in_use = λ f. absurd (cc); calls = λ ne. absurd (ne refl); seen = old.numbers.seen; entered = λ _. old.numbers.entered inside; overdraw = old.numbers.overdraw; own = old.numbers.own; over = old.numbers.over; read = tt };
        protects = record { roots = old.protects.roots; wants = tt; got = old.protects.got; knows = old.protects.knows; keeps = old.protects.keeps; keeps_words = old.protects.keeps_words };
        notes = record { rises = old.notes.rises; keys = old.notes.keys; away = λ f. absurd (cc) };
      } in
      record {
        meaning = m;
        grows = λ r l. l;
        holds = lock_moved z (record { lock = s.lock; words = s.words; view = put s.view i v }) m
            (kept_with z s m h i v none ok.permitted.0 s.words m h.rows h.chains
            record { born = h.numbers.born; differ = h.numbers.differ; drawn = let a = h.numbers.drawn in omega arith; room = h.numbers.room; absent = h.numbers.absent }
            (history_same z s.words s.words m s.view i v h.history refl (omega arith) refl (λ r _. refl)) (λ j _. nothing_done j (s.view j) s.words m)
            (subst (λ (x : Call). SeatHolds s.words m i (machine.leaving (with_call (s.view i) x))) (sym e) seat))
            i (Unask q) (subst (Granted (lock.after s.lock i (Unask q)) i) (sym (ap (λ (p : View). p.stay) (put_same s.view i v))) (unask_holder s.lock i q ok)) ok;
      }
