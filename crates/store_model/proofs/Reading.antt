-- What a view tells of what its seat has read stays true.
use Rattle.std.proofs.Common.{◌≡◌, ◌≢◌, ℕ, zero, suc, pred, eqb, false, Option, None, Some, List, [], ◌∷◌, ◌++◌, length, get_or, refl, sym, ap, ◌∙◌, subst, arith, ltb-false}
use Rattle.std.specs.Prelude.{nat_lt}
use Rattle.store_model.specs.Words.{Place, put}
use Rattle.store_model.specs.Calls.{Content, words_of, Call, Idle, Comparing, Passing, Finding, Ended, Counting, Drawing, Placing, Filling, Numbering, Linking, Publishing, Loading, Storing, Passed, View}
use Rattle.store_model.specs.Machine.{Sizes, State, Each, Step, LockAlone, LowerShared, UnaskSeat, GiveGranted, LoadBase, LoadInUse, Begin, Go, LoadRoot, StoreRoot, StoreCount, ReadWord, ReadArgument, LoadAny, StoreAny, StoreClaim, IsCreation, action, with_call, gained, refusing, overdrawn, arrived, compared, passing, begins}
use Rattle.store_model.specs.Steps.{loads, is_collecting, worn_by, InPlace, after, newcomer}
use Rattle.store_model.specs.Reads.{Differs, PathTo, HasPath, IsRefusal, ReadsSound}
use Rattle.store_model.proofs.Basics.{choose, put_case, each_join, eqb_is, eqb_not}
use Rattle.store_model.proofs.Chains.{has_words}
use Rattle.store_model.proofs.Wrapped.{loads_none, action_calm, arrived_calm}

path_more : (c : Content) (from : ℕ) (ps : List Passed) (p : Passed) → PathTo c from ps (suc p.row) → Differs c p.word p.found → PathTo c from (ps ++ p ∷ []) p.next
path_more c from [] p h d = (h, d, refl)
path_more c from (q ∷ ps) p h d = (h.0, h.1, path_more c q.next ps p h.2 d)

row_there : (at : ℕ) → at ≢ 0 → at ≡ suc (pred at)
row_there zero ne = absurd (ne refl)
row_there (suc n) ne = omega arith

path_arrived : (c : Content) (d : Option (ℕ × ℕ)) (from old at : ℕ) (ps : List Passed) → (d ≡ None → PathTo c from ps at × (old ≡ 0)) → HasPath ps (arrived c d from old at)
path_arrived c None from old at ps h = let k = h refl in choose (HasPath ps) (eqb at old) (Ended c from) (Comparing c None from old at 0)
    (λ e. subst (PathTo c from ps) (eqb_is at old e ∙ k.1) k.0)
    (λ ne. (k.0, k.1, (λ e. eqb_not at old ne (e ∙ sym k.1)), has_words c))
path_arrived c (Some d) from old at ps h = choose (HasPath ps) (eqb at old) (Linking c from d.0 d.1) (Comparing c (Some d) from old at 0) (λ _. tt) (λ _. tt)

calm_room : (z : Sizes) (x : Call) → is_collecting x ≡ false → worn_by z (loads x) ≡ false
calm_room z x e = ap (worn_by z) (loads_none x e)

go_path : (v : View) (x : Call) (n : ℕ) → IsCreation x → HasPath v.path x → HasPath ((action v x).moved n).path ((action v x).moved n).call
go_path v Idle n is h = absurd is
go_path v (Loading ls) n is h = absurd is
go_path v (Storing ls ss) n is h = absurd is
go_path v (Comparing c None from old at k) n is h = choose (HasPath v.path) (eqb n (get_or (words_of c) k 0)) (compared c None from old at k) (Passing c None from old at (k, n))
    (λ _. choose (HasPath v.path) (eqb (suc k) (length (words_of c))) (Finding c None (pred at)) (Comparing c None from old at (suc k)) (λ _. tt) (λ not. (h.0, h.1, h.2, let a = h.3 in let b = eqb_not (suc k) _ not in omega arith)))
    (λ ne. (h.0, h.1, h.2, record { there = h.3; other = eqb_not n _ ne }))
go_path v (Comparing c (Some d) from old at k) n is h = choose (HasPath v.path) (eqb n (get_or (words_of c) k 0)) (compared c (Some d) from old at k) (Passing c (Some d) from old at (k, n))
    (λ _. choose (HasPath v.path) (eqb (suc k) (length (words_of c))) (Finding c (Some d) (pred at)) (Comparing c (Some d) from old at (suc k)) (λ _. tt) (λ _. tt))
    (λ _. tt)
go_path v (Passing c None from old at dif) n is h = path_arrived c None from old n (v.path ++ passing at dif n ∷ []) (λ _. (path_more c from v.path (passing at dif n) (subst (PathTo c from v.path) (row_there at h.2) h.0) h.3, h.1))
go_path v (Passing c (Some d) from old at dif) n is h = path_arrived c (Some d) from old n (v.path ++ passing at dif n ∷ []) (λ e. absurd (cc))
go_path v (Finding c d r) n is h = tt
go_path v (Ended c from) n is h = h
go_path v (Counting c from claim) n is h = choose (λ (u : View). HasPath u.path u.call) (nat_lt claim n) (with_call v (Drawing c from n)) (refusing v c from claim n) (λ _. h) (λ _. tt)
go_path v (Drawing c from count) n is h = choose (λ (u : View). HasPath u.path u.call) (nat_lt n count) (with_call v (Placing c from n)) (overdrawn v c from n count) (λ _. tt) (λ _. tt)
go_path v (Placing c from a) n is h = tt
go_path v (Filling c from a r k) n is h = choose (HasPath v.path) (eqb (suc k) (length (words_of c))) (Numbering c from a r) (Filling c from a r (suc k)) (λ _. tt) (λ _. tt)
go_path v (Numbering c from a r) n is h = tt
go_path v (Linking c from a r) n is h = tt
go_path v (Publishing c from a r) n is h = choose (λ (u : View). HasPath u.path u.call) (eqb n from) (gained v c r _ _) (with_call v (arrived c (Some (a, r)) n from n)) (λ _. tt) (λ _. path_arrived c (Some (a, r)) n from n v.path (λ e. absurd (cc)))

go_refusals : (v : View) (x : Call) (n : ℕ) → HasPath v.path x → Each IsRefusal v.refused → Each IsRefusal ((action v x).moved n).refused
go_refusals v (Counting c from claim) n h rs = choose (λ (u : View). Each IsRefusal u.refused) (nat_lt claim n) (with_call v (Drawing c from n)) (refusing v c from claim n)
    (λ _. rs) (λ not. each_join IsRefusal v.refused _ rs (record { path = h; full = ltb-false claim n not }, tt))
go_refusals v (Drawing c from count) n h rs = choose (λ (u : View). Each IsRefusal u.refused) (nat_lt n count) (with_call v (Placing c from n)) (overdrawn v c from n count)
    (λ _. rs) (λ not. each_join IsRefusal v.refused _ rs (record { path = h; full = ltb-false n count not }, tt))
go_refusals v (Publishing c from a r) n h rs = choose (λ (u : View). Each IsRefusal u.refused) (eqb n from) (gained v c r _ _) (with_call v (arrived c (Some (a, r)) n from n)) (λ _. rs) (λ _. rs)
go_refusals v x n h rs = rs

module _ (z : Sizes) (s : State) (i : ℕ) (h : (j : ℕ) → ReadsSound z (s.view j)) where
  moved : (v : View) → ReadsSound z v → (j : ℕ) → ReadsSound z (put s.view i v j)
  moved v k j = put_case (ReadsSound z) s.view i v j (λ _. k) (λ _. h j)

  pub reads_kept : (x : Step) → InPlace z s i x → (j : ℕ) → ReadsSound z ((after z s i x).view j)
  reads_kept (LockAlone x) ok = h
  reads_kept LowerShared ok = let a = h i in moved _ record { path = a.path; refusals = a.refusals; room = a.room }
  reads_kept (UnaskSeat q) ok = let a = h i in moved _ record { path = a.path; refusals = a.refusals; room = a.room }
  reads_kept GiveGranted ok = let a = h i in moved _ record { path = a.path; refusals = a.refusals; room = a.room }
  reads_kept LoadBase ok = let a = h i in moved _ record { path = a.path; refusals = a.refusals; room = a.room }
  reads_kept LoadInUse ok = let a = h i in moved _ record { path = a.path; refusals = a.refusals; room = a.room }
  reads_kept (Begin c) ok = let a = h i in let v = s.view i in let n : ℕ = s.words (begins v c).place in moved _ record { path = path_arrived c None n 0 n [] (λ _. (refl, refl)); refusals = a.refusals; room = calm_room z _ (arrived_calm c None n 0 n) }
  reads_kept Go ok = let a = h i in let v = s.view i in let x : Call = v.call in let n : ℕ = s.words (action v x).place in moved _ record { path = go_path v x n ok.permitted a.path; refusals = go_refusals v x n a.path a.refusals; room = calm_room z _ (action_calm v x n ok.permitted) }
  reads_kept (LoadRoot k) ok = let a = h i in moved _ record { path = a.path; refusals = a.refusals; room = a.room }
  reads_kept (StoreRoot k r) ok = let a = h i in moved _ record { path = a.path; refusals = a.refusals; room = a.room }
  reads_kept (StoreCount n) ok = let a = h i in moved _ record { path = a.path; refusals = a.refusals; room = a.room }
  reads_kept (ReadWord r k) ok = let a = h i in moved _ record { path = a.path; refusals = a.refusals; room = a.room }
  reads_kept (ReadArgument r k) ok = let a = h i in moved _ record { path = a.path; refusals = a.refusals; room = a.room }
  reads_kept (LoadAny p) ok =
      let a = h i in
      let v = s.view i in
      let ls : List (Place × ℕ) = loads v.call ++ (p, s.words p) ∷ [] in
      moved _ record {
        path = choose (HasPath v.path) (worn_by z ls) Idle (Loading ls) (λ _. tt) (λ _. tt);
        refusals = a.refusals;
        room = choose (λ (y : Call). worn_by z (loads y) ≡ false) (worn_by z ls) Idle (Loading ls) (λ _. refl) (λ e. e);
      }
  reads_kept (StoreAny p n) ok = let a = h i in moved _ record { path = tt; refusals = a.refusals; room = a.room }
  reads_kept StoreClaim ok = let a = h i in moved _ record { path = tt; refusals = a.refusals; room = refl }

pub reads_start : (z : Sizes) → ReadsSound z (newcomer z)
reads_start z = record { path = tt; refusals = tt; room = refl }
