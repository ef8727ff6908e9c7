-- A seat's own view has its words of protected rows: every step keeps that.
use Rattle.std.proofs.Common.{◌≡◌, ℕ, zero, suc, ◌<◌, ◌≤◌, eqb, Bool, true, false, cond, List, [], ◌∷◌, ◌++◌, length, get_or, set, take, drop, replicate, refl, sym, ap, ◌∙◌, subst, ap₂, arith, eq-eqb, ne_eqb, true≢false, get_or-set_same, get_or-set_other}
use Rattle.std.specs.Prelude.{nat_lt}
use Rattle.std.proofs.Math.Seq.{take-suc}
use Rattle.std.proofs.lemmas.List.{length-set, length-replicate, get_or-replicate}
use mathlib.Core.Logic.{dite}
use native.Mathlib.Decide.{ℕ_discrete}
use Rattle.store_model.specs.Words.{Place, Base, Claim, InUse, Bucket, RootCount, Root, write, put}
use Rattle.store_model.specs.Calls.{Call, Idle, Counting, Drawing, Placing, Publishing, View}
use Rattle.store_model.specs.Machine.{Sizes, State, Each, Step, LockAlone, LowerShared, UnaskSeat, GiveGranted, LoadBase, LoadInUse, Begin, Go, LoadRoot, StoreRoot, StoreCount, ReadWord, ReadArgument, LoadAny, StoreAny, StoreClaim, action, with_call, gained, refusing, overdrawn, rooted, root_counted, protected_in, roots_of}
use Rattle.store_model.specs.Seats.{RootsKnown}
use Rattle.store_model.specs.Steps.{is_stored, InPlace, after}
use Rattle.store_model.proofs.Basics.{choose, put_case, write_same, each_join}

pub each_drop : (P : ℕ → Type 0) (n : ℕ) (xs : List ℕ) → Each P xs → Each P (drop n xs)
each_drop P zero xs h = h
each_drop P (suc n) [] h = tt
each_drop P (suc n) (x ∷ xs) h = each_drop P n xs h.1

pub each_set : (P : ℕ → Type 0) (n k r : ℕ) (xs : List ℕ) → Each P (take n xs) → P r → Each P (take n (set xs k r))
each_set P zero k r xs h p = tt
each_set P (suc n) k r [] h p = h
each_set P (suc n) zero r (x ∷ xs) h p = (p, h.1)
each_set P (suc n) (suc k) r (x ∷ xs) h p = (h.0, each_set P n k r xs h.1 p)

pub each_roots : (P : ℕ → Type 0) (w : Place → ℕ) (i n : ℕ) → ((k : ℕ) → k < n → P (w (Root i k))) → Each P (roots_of w i n)
each_roots P w i zero h = tt
each_roots P w i (suc n) h = each_join P (roots_of w i n) (w (Root i n) ∷ []) (each_roots P w i n (λ k l. h k (omega arith))) (h n (omega arith), tt)

module _ (z : Sizes) (w : Place → ℕ) (i : ℕ) (v : View) (h : RootsKnown z w i v) where
  pub roots_are : (n : ℕ) → n ≤ z.depth → roots_of w i n ≡ take n v.roots
  roots_are zero l = refl
  roots_are (suc n) l = ap₂ (λ (xs : List ℕ) (r : ℕ). xs ++ r ∷ []) (roots_are n (omega arith)) (h.root n (omega arith)) ∙ sym (take-suc v.roots n 0 (let a = h.wide in omega arith))

  pub protected_are : protected_in v ≡ roots_of w i (w (RootCount i))
  protected_are = sym (ap (roots_of w i) h.count ∙ roots_are v.root_count h.few)

abbrev pub AllKnown : Sizes → (Place → ℕ) → (ℕ → View) → Type 0
AllKnown z w view = (j : ℕ) → RootsKnown z w j (view j)

-- a view has the same words of protected rows
pub record IsOwnSame (v u : View) : Type 0 where
  pub roots : u.roots ≡ v.roots
  pub root_count : u.root_count ≡ v.root_count

same_own : (v u : View) → u.roots ≡ v.roots → u.root_count ≡ v.root_count → IsOwnSame v u
same_own v u a b = record { roots = a; root_count = b }

action_own : (v : View) (x : Call) (n : ℕ) → IsOwnSame v ((action v x).moved n)
action_own v (Counting c from claim) n = choose (IsOwnSame v) (nat_lt claim n) (with_call v (Drawing c from n)) (refusing v c from claim n) (λ _. same_own v _ refl refl) (λ _. same_own v _ refl refl)
action_own v (Drawing c from count) n = choose (IsOwnSame v) (nat_lt n count) (with_call v (Placing c from n)) (overdrawn v c from n count) (λ _. same_own v _ refl refl) (λ _. same_own v _ refl refl)
action_own v (Publishing c from a r) n = choose (IsOwnSame v) (eqb n from) (gained v c r _ _) (with_call v _) (λ _. same_own v _ refl refl) (λ _. same_own v _ refl refl)
action_own v x n = same_own v _ refl refl

action_counts : (w : Place → ℕ) (v : View) (x : Call) (n j : ℕ) → write w (action v x).place n (RootCount j) ≡ w (RootCount j)
action_counts w v Idle n j = refl
action_counts w v x n j = refl

action_roots : (w : Place → ℕ) (v : View) (x : Call) (n j k : ℕ) → write w (action v x).place n (Root j k) ≡ w (Root j k)
action_roots w v Idle n j k = refl
action_roots w v x n j k = refl

stored_counts : (w : Place → ℕ) (p : Place) (n j : ℕ) → is_stored p ≡ true → write w p n (RootCount j) ≡ w (RootCount j)
stored_counts w (RootCount q) n j e = absurd (true≢false (sym e))
stored_counts w (Root q l) n j e = absurd (true≢false (sym e))
stored_counts w p n j e = refl

stored_roots : (w : Place → ℕ) (p : Place) (n j k : ℕ) → is_stored p ≡ true → write w p n (Root j k) ≡ w (Root j k)
stored_roots w (RootCount q) n j k e = absurd (true≢false (sym e))
stored_roots w (Root q l) n j k e = absurd (true≢false (sym e))
stored_roots w p n j k e = refl

module _ (z : Sizes) (s : State) (i : ℕ) (h : AllKnown z s.words s.view) where
  -- no word of protected rows is written
  apart : (u : Place → ℕ) (v : View) → ((j : ℕ) → u (RootCount j) ≡ s.words (RootCount j)) → ((j k : ℕ) → u (Root j k) ≡ s.words (Root j k)) → IsOwnSame (s.view i) v → AllKnown z u (put s.view i v)
  apart u v counts roots same j =
      let old = h j in
      put_case (RootsKnown z u j) s.view i v j
      (λ e. let mine : RootsKnown z s.words j (s.view i) = subst (λ (q : ℕ). RootsKnown z s.words j (s.view q)) e old in record {
        wide = ap length same.roots ∙ mine.wide;
        few = let a = same.root_count in let b = mine.few in omega arith;
        count = counts j ∙ (mine.count ∙ sym same.root_count);
        root = λ k l. roots j k ∙ (mine.root k l ∙ ap (λ (rs : List ℕ). get_or rs k 0) (sym same.roots));
      })
      (λ _. record { wide = old.wide; few = old.few; count = counts j ∙ old.count; root = λ k l. roots j k ∙ old.root k l })

  -- a load
  loads_apart : (p : Place) (v : View) → IsOwnSame (s.view i) v → AllKnown z (write s.words p (s.words p)) (put s.view i v)
  loads_apart p v = apart (write s.words p (s.words p)) v (λ j. ap (λ (w : Place → ℕ). w (RootCount j)) (write_same s.words p)) (λ j k. ap (λ (w : Place → ℕ). w (Root j k)) (write_same s.words p))

  at_root : (k r : ℕ) → k < z.depth → (q : ℕ) → q < z.depth → cond (cond (eqb i i) (eqb q k) false) r (s.words (Root i q)) ≡ get_or (set (s.view i).roots k r) q 0
  at_root k r l q m =
      let old = h i in
      ap (λ (b : Bool). cond (cond b (eqb q k) false) r (s.words (Root i q))) (eq-eqb i i refl)
      ∙ dite (ℕ_discrete q k)
      (λ e. ap (λ (b : Bool). cond b r (s.words (Root i q))) (eq-eqb q k e) ∙ sym (ap (λ (t : ℕ). get_or (set (s.view i).roots k r) t 0) e ∙ get_or-set_same (s.view i).roots k r 0 (let a = old.wide in omega arith)))
      (λ ne. ap (λ (b : Bool). cond b r (s.words (Root i q))) (ne_eqb q k ne) ∙ (old.root q m ∙ sym (get_or-set_other (s.view i).roots k q r 0 ne)))

  root_stored : (k r : ℕ) → k < z.depth → AllKnown z (write s.words (Root i k) r) (put s.view i (rooted (s.view i) k r))
  root_stored k r l j =
      let u : Place → ℕ = write s.words (Root i k) r in
      put_case (RootsKnown z u j) s.view i (rooted (s.view i) k r) j
      (λ e. subst (λ (q : ℕ). RootsKnown z u q (rooted (s.view i) k r)) (sym e) record { wide = length-set (s.view i).roots k r ∙ (h i).wide; few = (h i).few; count = (h i).count; root = λ q m. at_root k r l q m })
      (λ ne. record { wide = (h j).wide; few = (h j).few; count = (h j).count; root = λ q m. ap (λ (b : Bool). cond (cond b (eqb q k) false) r (s.words (Root j q))) (ne_eqb j i ne) ∙ (h j).root q m })

  count_stored : (n : ℕ) → n ≤ z.depth → AllKnown z (write s.words (RootCount i) n) (put s.view i (root_counted (s.view i) n))
  count_stored n l j =
      let u : Place → ℕ = write s.words (RootCount i) n in
      put_case (RootsKnown z u j) s.view i (root_counted (s.view i) n) j
      (λ e. subst (λ (q : ℕ). RootsKnown z u q (root_counted (s.view i) n)) (sym e) record { wide = (h i).wide; few = l; count = ap (λ (b : Bool). cond b n (s.words (RootCount i))) (eq-eqb i i refl); root = (h i).root })
      (λ ne. record { wide = (h j).wide; few = (h j).few; count = ap (λ (b : Bool). cond b n (s.words (RootCount j))) (ne_eqb j i ne) ∙ (h j).count; root = (h j).root })

  plain : (v : View) → IsOwnSame (s.view i) v → AllKnown z s.words (put s.view i v)
  plain v = apart s.words v (λ j. refl) (λ j k. refl)

  pub own_kept : (x : Step) → InPlace z s i x → AllKnown z (after z s i x).words (after z s i x).view
  own_kept (LockAlone x) ok = h
  own_kept LowerShared ok = plain _ (same_own _ _ refl refl)
  own_kept (UnaskSeat q) ok = plain _ (same_own _ _ refl refl)
  own_kept GiveGranted ok = plain _ (same_own _ _ refl refl)
  own_kept LoadBase ok = loads_apart Base _ (same_own _ _ refl refl)
  own_kept LoadInUse ok = loads_apart InUse _ (same_own _ _ refl refl)
  own_kept (Begin c) ok = loads_apart (Bucket _) _ (same_own _ _ refl refl)
  own_kept Go ok = let v = s.view i in let x : Call = v.call in let a = action v x in let n : ℕ = a.written (s.words a.place) in
      apart (write s.words a.place n) (a.moved (s.words a.place)) (action_counts s.words v x n) (action_roots s.words v x n) (action_own v x (s.words a.place))
  own_kept (LoadRoot k) ok = loads_apart (Root i k) _ (same_own _ _ refl refl)
  own_kept (StoreRoot k r) ok = root_stored k r ok.permitted.1
  own_kept (StoreCount n) ok = count_stored n ok.permitted.1
  own_kept (ReadWord r k) ok = loads_apart _ _ (same_own _ _ refl refl)
  own_kept (ReadArgument r k) ok = loads_apart _ _ (same_own _ _ refl refl)
  own_kept (LoadAny p) ok = loads_apart p _ (same_own _ _ refl refl)
  own_kept (StoreAny p n) ok = apart (write s.words p n) _ (λ j. stored_counts s.words p n j ok.permitted.2) (λ j k. stored_roots s.words p n j k ok.permitted.2) (same_own _ _ refl refl)
  own_kept StoreClaim ok = apart (write s.words Claim 0) _ (λ j. refl) (λ j k. refl) (same_own _ _ refl refl)

-- at the start
pub own_starts : (z : Sizes) (w : Place → ℕ) (i : ℕ) (v : View) → v.roots ≡ replicate z.depth 0 → v.root_count ≡ 0 → w (RootCount i) ≡ 0 → ((k : ℕ) → k < z.depth → w (Root i k) ≡ 0) → RootsKnown z w i v
own_starts z w i v roots count a b = record {
  wide = ap length roots ∙ length-replicate z.depth 0;
  few = omega arith;
  count = a ∙ sym count;
  root = λ k l. b k l ∙ sym (ap (λ (rs : List ℕ). get_or rs k 0) roots ∙ get_or-replicate z.depth k 0 0 l);
}
