-- A creation after a collection, in the same exclusive access.
use Rattle.std.proofs.Common.{◌≡◌, ℕ, suc, pred, ◌+◌, eqb, Bool, true, cond, Option, None, Some, List, [], length, get_or, refl, sym, ap, ◌∙◌, subst, ⊎_elim, inl, inr, arith, ltb-false, eq-eqb, true≢false}
use Rattle.std.specs.Prelude.{nat_lt}
use Rattle.std.proofs.lemmas.Bool.{cases_lt}
use Rattle.lock_core.specs.Lock.{Lock}
use Rattle.store_model.specs.Words.{Place, Base, FreeCount, Claim, InUse, FreePlace, Bucket, RowWord, Birth, Next, write}
use Rattle.store_model.specs.Calls.{Content, words_of, bucket, Call, Idle, Comparing, Passing, Finding, Ended, Counting, Drawing, Placing, Filling, Numbering, Linking, Publishing, Loading, Storing, Passed, View}
use Rattle.store_model.specs.Machine.{IsCreation, action, arrived, ended, compared, with_call, with_path, refusing, gained, overdrawn}
use Rattle.store_model.specs.Seats.{Where, index, index_in, HasRead}
use Rattle.store_model.specs.Steps.{head_read, IsFirst, ReadNow, IsFresh}
use Rattle.store_model.proofs.Basics.{choose, write_same}

module _ (l : Lock) (w : Place → ℕ) (live next : ℕ → Bool) (grows : (r : ℕ) → live r ≡ true → next r ≡ true) (i : ℕ) (v : View) where
  -- another stage, with the same words
  stage : (x y : Call) → IsFresh l w live i (with_call v x) → index y ≡ index x → Where (head_read y) (λ h. w (Bucket (bucket h.0 (w InUse))) ≡ h.1) → IsFirst y → ReadNow (w Claim) y → IsFresh l w next i (with_call v y)
  stage x y h same head first read = record { alone = h.alone; stays = h.stays; full = λ k a b. ⊎_elim (λ e. inl (grows (w (FreePlace k)) e)) (λ e. inr (same ∙ e)) (h.full k a b); head = head; first = first; read = read }

  -- a load
  still : (p : Place) (u : View) → IsFresh l w next i u → IsFresh l (write w p (w p)) next i u
  still p u h = subst (λ (t : Place → ℕ). IsFresh l t next i u) (sym (write_same w p)) h

  -- with another count of rows passed
  counted : (n : ℕ) (ps : List Passed) (y : Call) → IsFresh l w next i (with_call v y) → IsFresh l w next i (with_call (with_path v n ps) y)
  counted n ps y h = record { alone = h.alone; stays = h.stays; full = h.full; head = h.head; first = h.first; read = h.read }

  fresh_ended : (x : Call) (c : Content) (d : Option (ℕ × ℕ)) (from : ℕ) → d ≡ None → IsFresh l w live i (with_call v x) → index x ≡ None → w (Bucket (bucket c (w InUse))) ≡ from → IsFresh l w next i (with_call v (ended c d from))
  fresh_ended x c None from e h none head = stage x (Ended c from) h (sym none) head tt tt
  fresh_ended x c (Some d) from e h none head = absurd (cc)

  fresh_arrived : (x : Call) (c : Content) (d : Option (ℕ × ℕ)) (from old at : ℕ) → d ≡ None → IsFresh l w live i (with_call v x) → index x ≡ None → w (Bucket (bucket c (w InUse))) ≡ from → IsFresh l w next i (with_call v (arrived c d from old at))
  fresh_arrived x c d from old at e h none head = choose (λ (y : Call). IsFresh l w next i (with_call v y)) (eqb at old) (ended c d from) (Comparing c d from old at 0)
      (λ _. fresh_ended x c d from e h none head) (λ _. stage x (Comparing c d from old at 0) h (ap index_in e ∙ sym none) head e tt)

  pub fresh_begun : (c : Content) → IsFresh l w live i (with_call v Idle) → v.in_use ≡ w InUse → IsFresh l (write w (Bucket (bucket c v.in_use)) (w (Bucket (bucket c v.in_use)))) next i (with_call (with_path v 0 []) (arrived c None (w (Bucket (bucket c v.in_use))) 0 (w (Bucket (bucket c v.in_use)))))
  fresh_begun c h same = still (Bucket (bucket c v.in_use)) _ (counted 0 [] _ (fresh_arrived Idle c None (w (Bucket (bucket c v.in_use))) 0 (w (Bucket (bucket c v.in_use))) refl h refl (ap (λ (u : ℕ). w (Bucket (bucket c u))) (sym same))))

  -- each action of a creation
  pub fresh_goes : (x : Call) → IsCreation x → IsFresh l w live i (with_call v x) → v.in_use ≡ w InUse → HasRead (w Base) (w FreeCount) (w Claim) v.overdraw x → ((a : ℕ) → index x ≡ Some a → (c : Content) (from r : ℕ) → x ≡ Publishing c from a r → next (w (FreePlace a)) ≡ true)
      → IsFresh l (write w (action v x).place ((action v x).written (w (action v x).place))) next i ((action v x).moved (w (action v x).place))
  fresh_goes Idle is h same read won = absurd is
  fresh_goes (Loading ls) is h same read won = absurd is
  fresh_goes (Storing ls ss) is h same read won = absurd is
  fresh_goes (Comparing c d from old at k) is h same read won = let x : Call = Comparing c d from old at k in still (RowWord (pred at) k) _
      (choose (λ (y : Call). IsFresh l w next i (with_call v y)) (eqb (w (RowWord (pred at) k)) (get_or (words_of c) k 0)) (compared c d from old at k) (Passing c d from old at (k, w (RowWord (pred at) k)))
      (λ _. choose (λ (y : Call). IsFresh l w next i (with_call v y)) (eqb (suc k) (length (words_of c))) (Finding c d (pred at)) (Comparing c d from old at (suc k)) (λ _. stage x _ h refl tt h.first tt) (λ _. stage x _ h refl h.head h.first tt))
      (λ _. stage x _ h refl h.head h.first tt))
  fresh_goes (Passing c d from old at dif) is h same read won = still (Next (pred at)) _ (counted (suc v.passed) _ _ (fresh_arrived (Passing c d from old at dif) c d from old (w (Next (pred at))) h.first h (ap index_in h.first) h.head))
  fresh_goes (Finding c d r) is h same read won = still (Birth r) _ record { alone = h.alone; stays = h.stays; full = λ k a b. ⊎_elim (λ e. inl (grows (w (FreePlace k)) e)) (λ e. absurd (let f : None ≡ Some k = sym (ap index_in h.first) ∙ e in cc)) (h.full k a b); head = tt; first = tt; read = tt }
  fresh_goes (Ended c from) is h same read won = still Claim _ (stage (Ended c from) _ h refl h.head tt refl)
  fresh_goes (Counting c from n) is h same read won = still FreeCount _ (choose (IsFresh l w next i) (nat_lt n (w FreeCount)) (with_call v (Drawing c from (w FreeCount))) (refusing v c from n (w FreeCount)) (λ _. stage (Counting c from n) _ h refl h.head tt tt)
      (λ _. let a = stage (Counting c from n) Idle h refl tt tt tt in record { alone = a.alone; stays = a.stays; full = a.full; head = tt; first = tt; read = tt }))
  fresh_goes (Drawing c from n) is h same read won =
      choose (λ (y : View). IsFresh l (write w Claim (suc (w Claim))) next i y) (nat_lt (w Claim) n) (with_call v (Placing c from (w Claim))) (overdrawn v c from (w Claim) n)
      (λ _. record { alone = h.alone; stays = h.stays; full = λ k a b. ⊎_elim (λ less. ⊎_elim (λ e. inl (grows (w (FreePlace k)) e)) (λ e. absurd (cc)) (h.full k less b)) (λ past. inr (let e : w Claim ≡ k = omega arith in ap Some e)) (cases_lt k (w Claim)); head = h.head; first = tt; read = tt })
      (λ not. record { alone = h.alone; stays = h.stays; full = λ k a b. let e = ltb-false (w Claim) n not in let f = read.0 in ⊎_elim (λ g. inl (grows (w (FreePlace k)) g)) (λ g. absurd (cc)) (h.full k (omega arith) b); head = tt; first = tt; read = tt })
  fresh_goes (Placing c from a) is h same read won = still (FreePlace a) _ (stage (Placing c from a) _ h refl h.head tt tt)
  fresh_goes (Filling c from a r k) is h same read won = choose (λ (y : Call). IsFresh l (write w (RowWord r k) (get_or (words_of c) k 0)) next i (with_call v y)) (eqb (suc k) (length (words_of c))) (Numbering c from a r) (Filling c from a r (suc k))
      (λ _. record { alone = h.alone; stays = h.stays; full = λ j p q. ⊎_elim (λ e. inl (grows (w (FreePlace j)) e)) inr (h.full j p q); head = h.head; first = tt; read = tt })
      (λ _. record { alone = h.alone; stays = h.stays; full = λ j p q. ⊎_elim (λ e. inl (grows (w (FreePlace j)) e)) inr (h.full j p q); head = h.head; first = tt; read = tt })
  fresh_goes (Numbering c from a r) is h same read won = record { alone = h.alone; stays = h.stays; full = λ j p q. ⊎_elim (λ e. inl (grows (w (FreePlace j)) e)) inr (h.full j p q); head = h.head; first = tt; read = tt }
  fresh_goes (Linking c from a r) is h same read won = record { alone = h.alone; stays = h.stays; full = λ j p q. ⊎_elim (λ e. inl (grows (w (FreePlace j)) e)) inr (h.full j p q); head = h.head; first = tt; read = tt }
  fresh_goes (Publishing c from a r) is h same read won =
      let b : ℕ = bucket c v.in_use in
      let here : w (Bucket b) ≡ from = ap (λ (u : ℕ). w (Bucket (bucket c u))) same ∙ h.head in
      choose (λ (y : View). IsFresh l (write w (Bucket b) (cond (eqb (w (Bucket b)) from) (suc r) (w (Bucket b)))) next i y) (eqb (w (Bucket b)) from) (gained v c r (v.base + a) _) (with_call v (arrived c (Some (a, r)) (w (Bucket b)) from (w (Bucket b))))
      (λ _. record { alone = h.alone; stays = h.stays; full = λ j p q. ⊎_elim (λ e. inl (grows (w (FreePlace j)) e)) (λ (e : Some a ≡ Some j). inl (let f : a ≡ j = cc in subst (λ (k : ℕ). next (w (FreePlace k)) ≡ true) f (won a refl c from r refl))) (h.full j p q); head = tt; first = tt; read = tt })
      (λ not. absurd (true≢false (sym (eq-eqb (w (Bucket b)) from here) ∙ not)))
