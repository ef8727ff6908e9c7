-- Loads keep what holds of the store.
use Rattle.std.proofs.Common.{List, [], ◌∷◌, ◌++◌, ◌≡◌, ◌≢◌, ℕ, suc, pred, ◌<◌, ◌≤◌, max, Option, refl, sym, ap, ◌∙◌, subst, ⊎_elim, inl, inr, arith}
use Rattle.std.specs.Prelude.{nat_lt}
use Rattle.store_model.proofs.Basics.{choose}
use Rattle.history_core.specs.declared.entry.Entry.{Entry}
use Rattle.history_core.specs.declared.entry.Entry.TheVariants.{Find}
use Rattle.store_model.specs.Words.{Place, Base, FreeCount, Claim, InUse, FreePlace, Bucket, RowWord, Birth, Next, write, put}
use Rattle.store_model.specs.Calls.{Content, bucket, Call, Idle, Comparing, Passing, Finding, Ended, Counting, Placing, Based, Passed, Drawing, Ready, View}
use Rattle.store_model.specs.Machine.{Sizes, State, InAccess, Granted, with_call, with_path, passing, refusing, gained, based, ready, MayBegin, acted, action, begins, load}
use Rattle.store_model.specs.Meaning.{Meaning}
use Rattle.store_model.specs.Seats.{index, SeatHolds}
use Rattle.store_model.specs.Invariant.{HistoryFits, Holds, IsStoreSound}
use Rattle.store_model.proofs.Histories.{history_same}
use Rattle.store_model.proofs.Loads.{stage_compared, stage_passed, stage_claim, stage_count, seat_refused, stage_placed}
use Rattle.store_model.proofs.Noting.{found}
use Rattle.store_model.proofs.Gains.{gains, born_below, enters, readies, begun}
use Rattle.store_model.proofs.Views.{IsStage, loaded, apart_stage, apart_none}

module _ (z : Sizes) (s : State) (m : Meaning) (h : Holds z s m) (i : ℕ) where
  pub seat_at : (x : Call) → (s.view i).call ≡ x → SeatHolds s.words m i (with_call (s.view i) x)
  seat_at x e = subst (λ (y : Call). SeatHolds s.words m i (with_call (s.view i) y)) e (h.seats i)

  pub stays_at : (x : Call) → (s.view i).call ≡ x → x ≢ Idle → (s.view i).stay ≡ Ready
  stays_at x e ne = (h.seats i).numbers.calls (λ k. ne (sym e ∙ k))

  same_history : (v : View) → v.entries ≡ (s.view i).entries → (s.view i).seen ≤ v.seen → HistoryFits z s.words m (put s.view i v)
  same_history v e l = history_same z s.words s.words m s.view i v h.history e l refl (λ r _. refl)

  stage_kept : (x y : Call) → (s.view i).call ≡ x → (p : Place) → IsStage s.words m i (s.view i) x y → IsStoreSound z m.live (acted s.words s.view i s.lock (load p (λ n. with_call (s.view i) y)))
  stage_kept x y e p k = record { meaning = m; grows = λ r l. l; holds = loaded z s m h i (with_call (s.view i) y) (apart_stage z s m h i y (⊎_elim inl (λ f. inr (f ∙ ap index (sym e))) k.index)) (h.lock.access i) p refl (same_history (with_call (s.view i) y) refl (omega arith)) k.seat }

  -- the same with another count of rows passed
  counted_kept : (n : ℕ) (ps : List Passed) (x y : Call) → (s.view i).call ≡ x → (p : Place) → IsStage s.words m i (with_path (s.view i) n ps) x y → IsStoreSound z m.live (acted s.words s.view i s.lock (load p (λ _. with_call (with_path (s.view i) n ps) y)))
  counted_kept n ps x y e p k = record { meaning = m; grows = λ r l. l; holds = loaded z s m h i (with_call (with_path (s.view i) n ps) y) (apart_stage z s m h i y (⊎_elim inl (λ f. inr (f ∙ ap index (sym e))) k.index)) (h.lock.access i) p refl (same_history (with_call (with_path (s.view i) n ps) y) refl (omega arith)) k.seat }

  pub kept_comparing : (c : Content) (d : Option (ℕ × ℕ)) (from old at k : ℕ) → (s.view i).call ≡ Comparing c d from old at k → IsStoreSound z m.live (acted s.words s.view i s.lock (action (s.view i) (Comparing c d from old at k)))
  kept_comparing c d from old at k e = stage_kept (Comparing c d from old at k) _ e (RowWord (pred at) k) (stage_compared s.words m i (s.view i) c d from old at k (seat_at _ e) (stays_at _ e (λ f. absurd (cc))))

  pub kept_passing : (c : Content) (d : Option (ℕ × ℕ)) (from old at : ℕ) (dif : ℕ × ℕ) → (s.view i).call ≡ Passing c d from old at dif → IsStoreSound z m.live (acted s.words s.view i s.lock (action (s.view i) (Passing c d from old at dif)))
  kept_passing c d from old at dif e = let ps = (s.view i).path ++ passing at dif (s.words (Next (pred at))) ∷ [] in counted_kept (suc (s.view i).passed) ps (Passing c d from old at dif) _ e (Next (pred at)) (stage_passed s.words m i (s.view i) c d from old at dif ps (seat_at _ e) (stays_at _ e (λ f. absurd (cc))) h.chains.standing)

  pub kept_ended : (c : Content) (from : ℕ) → (s.view i).call ≡ Ended c from → IsStoreSound z m.live (acted s.words s.view i s.lock (action (s.view i) (Ended c from)))
  kept_ended c from e = stage_kept (Ended c from) _ e Claim (stage_claim s.words m i (s.view i) c from (seat_at _ e) (stays_at _ e (λ f. absurd (cc))))

  pub kept_counting : (c : Content) (from n : ℕ) → (s.view i).call ≡ Counting c from n → IsStoreSound z m.live (acted s.words s.view i s.lock (action (s.view i) (Counting c from n)))
  kept_counting c from n e =
      let x : Call = Counting c from n in
      let count : ℕ = s.words FreeCount in
      let v = s.view i in
      let stay = stays_at x e (λ f. absurd (cc)) in
      choose (λ (u : View). IsStoreSound z m.live (record { lock = s.lock; words = write s.words FreeCount count; view = put s.view i u })) (nat_lt n count) (with_call v (Drawing c from count)) (refusing v c from n count)
      (λ less. stage_kept x (Drawing c from count) e FreeCount (stage_count s.words m i v c from n (seat_at x e) stay less))
      (λ _. record {
        meaning = m;
        grows = λ r l. l;
        holds = loaded z s m h i (refusing v c from n count) (apart_none z s m h i Idle refl) (h.lock.access i) FreeCount refl (same_history (refusing v c from n count) refl (omega arith)) (seat_refused s.words m i v c from n count (seat_at x e) stay);
      })

  pub kept_placing : (c : Content) (from k : ℕ) → (s.view i).call ≡ Placing c from k → IsStoreSound z m.live (acted s.words s.view i s.lock (action (s.view i) (Placing c from k)))
  kept_placing c from k e = stage_kept (Placing c from k) _ e (FreePlace k) (stage_placed s.words m i (s.view i) c from k (seat_at _ e) (stays_at _ e (λ f. absurd (cc))))

  -- the birth number of an equal row: the creation found it
  pub kept_finding : i < z.seats → (c : Content) (d : Option (ℕ × ℕ)) (r : ℕ) → (s.view i).call ≡ Finding c d r → IsStoreSound z m.live (acted s.words s.view i s.lock (action (s.view i) (Finding c d r)))
  kept_finding there c d r e = let seat = seat_at (Finding c d r) e in let v = s.view i in let n : ℕ = s.words (Birth r) in let f : Entry = Find (max v.seen n) c.head c.arguments r in
      record {
        meaning = m;
        grows = λ r l. l;
        holds = loaded z s m h i (gained v c r n f) (apart_none z s m h i Idle refl) (h.lock.access i) (Birth r) refl
            (found z s m h i there (stays_at _ e (λ f. absurd (cc))) c seat.protects.wants r (gained v c r n f) seat.walks.look.live seat.walks.look.looks refl refl)
            (gains s.words m i v z h.chains (Finding c d r) seat (stays_at _ e (λ f. absurd (cc))) c r n f seat.walks.look.live seat.walks.look.looks (omega arith) (born_below z s.words m s.view h.rows h.numbers r seat.walks.look.live) (omega arith) (omega arith));
      }

  pub kept_begin : (c : Content) → (s.view i).call ≡ Idle → (s.view i).stay ≡ Ready → MayBegin z s.words i (s.view i) c → IsStoreSound z m.live (acted s.words s.view i s.lock (begins (s.view i) c))
  kept_begin c e stay may = let b : ℕ = bucket c (s.view i).in_use in
      counted_kept 0 [] Idle _ e (Bucket b) (begun s.words m i (s.view i) z c h.chains (seat_at Idle e) stay may b (ap (bucket c) ((h.seats i).numbers.in_use stay)))

  pub kept_load_base : (s.view i).call ≡ Idle → InAccess s.lock i → IsStoreSound z m.live (acted s.words s.view i s.lock (load Base (based (s.view i))))
  kept_load_base e access = record {
    meaning = m;
    grows = λ r l. l;
    holds = subst (λ (x : Call). Holds z (record { lock = s.lock; words = write s.words Base (s.words Base); view = put s.view i (based (with_call (s.view i) x) (s.words Base)) }) m) (sym e)
        (loaded z s m h i (based (with_call (s.view i) Idle) (s.words Base)) (apart_none z s m h i Idle refl) access Base refl (same_history _ refl (omega arith)) (enters s.words m i (s.view i) z h.chains (seat_at Idle e)));
  }

  pub kept_load_in_use : (s.view i).call ≡ Idle → (s.view i).stay ≡ Based → IsStoreSound z m.live (acted s.words s.view i s.lock (load InUse (ready (s.view i))))
  kept_load_in_use e stay = record {
    meaning = m;
    grows = λ r l. l;
    holds = subst (λ (x : Call). Holds z (record { lock = s.lock; words = write s.words InUse (s.words InUse); view = put s.view i (ready (with_call (s.view i) x) (s.words InUse)) }) m) (sym e)
        (loaded z s m h i (ready (with_call (s.view i) Idle) (s.words InUse)) (apart_none z s m h i Idle refl) (subst (Granted s.lock i) stay (h.lock.access i)) InUse refl (same_history _ refl (omega arith)) (readies s.words m i (s.view i) (seat_at Idle e) stay));
  }
