-- No row counts more arguments than it has room for.
use Rattle.std.proofs.Common.{◌≡◌, ℕ, suc, pred, ◌≤◌, eqb, true, false, cond, Option, None, Some, List, [], ◌∷◌, ◌++◌, length, get_or, refl, sym, subst, arith, true≢false}
use Rattle.std.specs.Prelude.{nat_lt}
use Rattle.term_model.specs.declared.Head.{Head}
use Rattle.term_model.specs.declared.Head.TheVariants.{App, Int, Nil, Cons}
use Rattle.hash_buckets.specs.Spelled.{spelled}
use Rattle.store_model.specs.Words.{Place, RowWord, write, put}
use Rattle.store_model.specs.Calls.{Content, words_of, Call, Idle, Comparing, Passing, Finding, Ended, Counting, Drawing, Placing, Filling, Numbering, Linking, Publishing, Loading, Storing, View}
use Rattle.store_model.specs.Machine.{Sizes, State, Step, LockAlone, LowerShared, UnaskSeat, GiveGranted, LoadBase, LoadInUse, Begin, Go, LoadRoot, StoreRoot, StoreCount, ReadWord, ReadArgument, LoadAny, StoreAny, StoreClaim, IsCreation, action, begins, with_call, gained, refusing, overdrawn, arrived, ended, compared, widest}
use Rattle.store_model.specs.Seats.{Where, wanted}
use Rattle.store_model.specs.Steps.{loads, is_stored, worn_by, InPlace, after}
use Rattle.store_model.specs.Reads.{FitsRow}
use Rattle.store_model.proofs.Basics.{choose, put_case, write_same, both_true, eqb_is}

-- the second word of a content is its count
count_fits : (N : ℕ) (f : Head) (rs : List ℕ) → 2 ≤ N → length rs ≤ N → get_or (spelled f rs) 1 0 ≤ N
count_fits N (App s) rs two l = l
count_fits N (Int n) rs two l = omega arith
count_fits N Nil rs two l = omega arith
count_fits N Cons rs two l = two

-- the next actions of a call are of the same content
module _ (P : Content → Type 0) where
  wants_arrived : (c : Content) (d : Option (ℕ × ℕ)) (from old at : ℕ) → P c → Where (wanted (arrived c d from old at)) P
  wants_arrived c None from old at h = choose (λ (x : Call). Where (wanted x) P) (eqb at old) (Ended c from) (Comparing c None from old at 0) (λ _. h) (λ _. h)
  wants_arrived c (Some d) from old at h = choose (λ (x : Call). Where (wanted x) P) (eqb at old) (ended c (Some d) from) (Comparing c (Some d) from old at 0) (λ _. h) (λ _. h)

  wants_gone : (v : View) (x : Call) (n : ℕ) → IsCreation x → Where (wanted x) P → Where (wanted ((action v x).moved n).call) P
  wants_gone v Idle n is h = absurd is
  wants_gone v (Loading ls) n is h = absurd is
  wants_gone v (Storing ls ss) n is h = absurd is
  wants_gone v (Comparing c d from old at k) n is h = choose (λ (x : Call). Where (wanted x) P) (eqb n (get_or (words_of c) k 0)) (compared c d from old at k) (Passing c d from old at (k, n))
      (λ _. choose (λ (x : Call). Where (wanted x) P) (eqb (suc k) (length (words_of c))) (Finding c d (pred at)) (Comparing c d from old at (suc k)) (λ _. h) (λ _. h)) (λ _. h)
  wants_gone v (Passing c d from old at dif) n is h = wants_arrived c d from old n h
  wants_gone v (Finding c d r) n is h = tt
  wants_gone v (Ended c from) n is h = h
  wants_gone v (Counting c from claim) n is h = choose (λ (u : View). Where (wanted u.call) P) (nat_lt claim n) (with_call v (Drawing c from n)) (refusing v c from claim n) (λ _. h) (λ _. tt)
  wants_gone v (Drawing c from count) n is h = choose (λ (u : View). Where (wanted u.call) P) (nat_lt n count) (with_call v (Placing c from n)) (overdrawn v c from n count) (λ _. h) (λ _. tt)
  wants_gone v (Placing c from a) n is h = h
  wants_gone v (Filling c from a r k) n is h = choose (λ (x : Call). Where (wanted x) P) (eqb (suc k) (length (words_of c))) (Numbering c from a r) (Filling c from a r (suc k)) (λ _. h) (λ _. h)
  wants_gone v (Numbering c from a r) n is h = h
  wants_gone v (Linking c from a r) n is h = h
  wants_gone v (Publishing c from a r) n is h = choose (λ (u : View). Where (wanted u.call) P) (eqb n from) (gained v c r _ _) (with_call v (arrived c (Some (a, r)) n from n)) (λ _. tt) (λ _. wants_arrived c (Some (a, r)) n from n h)

module _ (z : Sizes) (s : State) (i : ℕ) (h : (j : ℕ) → Where (wanted (s.view j).call) (FitsRow z)) where
  moved : (v : View) → Where (wanted v.call) (FitsRow z) → (j : ℕ) → Where (wanted (put s.view i v j).call) (FitsRow z)
  moved v k j = put_case (λ (u : View). Where (wanted u.call) (FitsRow z)) s.view i v j (λ _. k) (λ _. h j)

  pub wants_kept : (x : Step) → InPlace z s i x → (j : ℕ) → Where (wanted ((after z s i x).view j).call) (FitsRow z)
  wants_kept (LockAlone x) ok = h
  wants_kept LowerShared ok = moved _ (h i)
  wants_kept (UnaskSeat q) ok = moved _ (h i)
  wants_kept GiveGranted ok = moved _ (h i)
  wants_kept LoadBase ok = moved _ (h i)
  wants_kept LoadInUse ok = moved _ (h i)
  wants_kept (Begin c) ok = let n : ℕ = s.words (begins (s.view i) c).place in moved _ (wants_arrived (FitsRow z) c None n 0 n ok.permitted.2.few)
  wants_kept Go ok = let v = s.view i in let n : ℕ = s.words (action v v.call).place in moved _ (wants_gone (FitsRow z) v v.call n ok.permitted (h i))
  wants_kept (LoadRoot k) ok = moved _ (h i)
  wants_kept (StoreRoot k r) ok = moved _ (h i)
  wants_kept (StoreCount n) ok = moved _ (h i)
  wants_kept (ReadWord r k) ok = moved _ (h i)
  wants_kept (ReadArgument r k) ok = moved _ (h i)
  wants_kept (LoadAny p) ok =
      let ls : List (Place × ℕ) = loads (s.view i).call ++ (p, s.words p) ∷ [] in
      moved _ (choose (λ (x : Call). Where (wanted x) (FitsRow z)) (worn_by z ls) Idle (Loading ls) (λ _. tt) (λ _. tt))
  wants_kept (StoreAny p n) ok = moved _ tt
  wants_kept StoreClaim ok = moved _ tt

-- a load changes no word
load_counts : (N : ℕ) (w : Place → ℕ) (p : Place) → ((r : ℕ) → w (RowWord r 1) ≤ N) → (r : ℕ) → write w p (w p) (RowWord r 1) ≤ N
load_counts N w p h r = subst (λ (u : Place → ℕ). u (RowWord r 1) ≤ N) (sym (write_same w p)) (h r)

-- the only store of a count is that of the content
go_counts : (z : Sizes) (w : Place → ℕ) (v : View) (x : Call) → IsCreation x → Where (wanted x) (FitsRow z) → ((r : ℕ) → w (RowWord r 1) ≤ widest z) → (r : ℕ) → write w (action v x).place ((action v x).written (w (action v x).place)) (RowWord r 1) ≤ widest z
go_counts z w v Idle is f h r = absurd is
go_counts z w v (Loading ls) is f h r = absurd is
go_counts z w v (Storing ls ss) is f h r = absurd is
go_counts z w v (Comparing c d from old at k) is f h r = load_counts (widest z) w (RowWord (pred at) k) h r
go_counts z w v (Filling c from a q k) is f h r = choose (λ (n : ℕ). n ≤ widest z) (cond (eqb r q) (eqb 1 k) false) (get_or (words_of c) k 0) (w (RowWord r 1))
    (λ same. subst (λ (j : ℕ). get_or (words_of c) j 0 ≤ widest z) (eqb_is 1 k (both_true (eqb r q) (eqb 1 k) same).1) (count_fits (widest z) c.head c.arguments (omega arith) f))
    (λ _. h r)
go_counts z w v x is f h r = h r

stored_counts : (w : Place → ℕ) (p : Place) (n r : ℕ) → is_stored p ≡ true → write w p n (RowWord r 1) ≡ w (RowWord r 1)
stored_counts w (RowWord q k) n r e = absurd (true≢false (sym e))
stored_counts w p n r e = refl

module _ (z : Sizes) (s : State) (i : ℕ) (h : (r : ℕ) → s.words (RowWord r 1) ≤ widest z) where
  pub counts_kept : (x : Step) → InPlace z s i x → Where (wanted (s.view i).call) (FitsRow z) → (r : ℕ) → (after z s i x).words (RowWord r 1) ≤ widest z
  counts_kept (LockAlone x) ok k = h
  counts_kept LowerShared ok k = h
  counts_kept (UnaskSeat q) ok k = h
  counts_kept GiveGranted ok k = h
  counts_kept LoadBase ok k = h
  counts_kept LoadInUse ok k = h
  counts_kept (Begin c) ok k = h
  counts_kept Go ok k = go_counts z s.words (s.view i) (s.view i).call ok.permitted k h
  counts_kept (LoadRoot q) ok k = h
  counts_kept (StoreRoot q r) ok k = h
  counts_kept (StoreCount n) ok k = h
  counts_kept (ReadWord r q) ok k = load_counts (widest z) s.words (RowWord r q) h
  counts_kept (ReadArgument r q) ok k = load_counts (widest z) s.words (RowWord r (suc (suc q))) h
  counts_kept (LoadAny p) ok k = load_counts (widest z) s.words p h
  counts_kept (StoreAny p n) ok k = λ r. subst (λ (m : ℕ). m ≤ widest z) (sym (stored_counts s.words p n r ok.permitted.2)) (h r)
  counts_kept StoreClaim ok k = h
