-- What a list of loads says of a place, after one load more.
use Rattle.std.proofs.Common.{◌≡◌, ℕ, Bool, true, false, cond, Option, None, Some, List, [], ◌∷◌, ◌++◌, refl, sym, ap, ◌∙◌, eqb, eq-eqb, true≢false}
use mathlib.Core.Path.{fun_ext}
use Rattle.store_model.specs.declared.view.Place.{Place}
use Rattle.store_model.specs.declared.view.Place.TheVariants.{Base, FreeCount, Claim, InUse, FreePlace, Bucket, RowWord, Birth, Next, RootCount, Root}
use Rattle.store_model.specs.Words.{same_place}
use Rattle.store_model.specs.Machine.{Each}
use Rattle.store_model.specs.Steps.{value_at}
use Rattle.store_model.specs.ByView.{IsLoaded}
use Rattle.store_model.proofs.Basics.{choose, each_right, same_is}
use Rattle.store_model.proofs.ByWords.{value_is}
use Rattle.node_rows.specs.Collecting.{or_zero}
use Rattle.row_sweep.specs.Loaded.{Extends, found}

pub same_itself : (p : Place) → same_place p p ≡ true
same_itself Base = refl
same_itself FreeCount = refl
same_itself Claim = refl
same_itself InUse = refl
same_itself (FreePlace i) = eq-eqb i i refl
same_itself (Bucket i) = eq-eqb i i refl
same_itself (RowWord r k) = ap (λ (b : Bool). cond b (eqb k k) false) (eq-eqb r r refl) ∙ eq-eqb k k refl
same_itself (Birth i) = eq-eqb i i refl
same_itself (Next i) = eq-eqb i i refl
same_itself (RootCount i) = eq-eqb i i refl
same_itself (Root j k) = ap (λ (b : Bool). cond b (eqb k k) false) (eq-eqb j j refl) ∙ eq-eqb k k refl

-- what was loaded stays
pub value_push : (p : Place) (ls : List (Place × ℕ)) (x : Place × ℕ) (n : ℕ) → value_at p ls ≡ Some n → value_at p (ls ++ x ∷ []) ≡ Some n
value_push p [] x n e = absurd (cc)
value_push p (y ∷ ls) x n e = choose (λ (o : Option ℕ). o ≡ Some n → cond (same_place y.0 p) (Some y.1) (value_at p (ls ++ x ∷ [])) ≡ Some n) (same_place y.0 p) (Some y.1) (value_at p ls)
    (λ t f. ap (λ (b : Bool). cond b (Some y.1) (value_at p (ls ++ x ∷ []))) t ∙ f)
    (λ t f. ap (λ (b : Bool). cond b (Some y.1) (value_at p (ls ++ x ∷ []))) t ∙ value_push p ls x n f) e

pub extends_push : (ls : List (Place × ℕ)) (x : Place × ℕ) → Extends ls (ls ++ x ∷ [])
extends_push ls x p n e = value_push p ls x n e

pub loaded_on : (ls ms : List (Place × ℕ)) (p : Place) → Extends ls ms → IsLoaded p ls → IsLoaded p ms
loaded_on ls ms p f h = (h.0, f p h.0 h.1)

-- a place that was loaded has a value
value_last : (p : Place) (ls : List (Place × ℕ)) (n : ℕ) → same_place p p ≡ true → (k : ℕ) × (value_at p (ls ++ (p, n) ∷ []) ≡ Some k)
value_last p [] n same = (n, ap (λ (b : Bool). cond b (Some n) None) same)
value_last p (y ∷ ls) n same = choose (λ (o : Option ℕ). (k : ℕ) × (o ≡ Some k)) (same_place y.0 p) (Some y.1) (value_at p (ls ++ (p, n) ∷ [])) (λ _. (y.1, refl)) (λ _. value_last p ls n same)

-- and where all loads are of the same words it is the last one
pub value_loaded : (w : Place → ℕ) (p : Place) (ls : List (Place × ℕ)) (n : ℕ) → same_place p p ≡ true → Each (λ q. w q.0 ≡ q.1) (ls ++ (p, n) ∷ []) → value_at p (ls ++ (p, n) ∷ []) ≡ Some n
value_loaded w p ls n same h =
    let k = value_last p ls n same in
    let last : w p ≡ n = (each_right (λ (q : Place × ℕ). w q.0 ≡ q.1) ls ((p, n) ∷ []) h).0 in
    k.1 ∙ ap Some (sym (value_is w p k.0 (ls ++ (p, n) ∷ []) h k.1) ∙ last)

none_some : (n : ℕ) → None ≡ Some n → ⊥
none_some n e = cc

-- nor does a load of another place
push_none : (q p : Place) (ls : List (Place × ℕ)) (n : ℕ) → (q ≡ p → ⊥) → value_at q ls ≡ None → value_at q (ls ++ (p, n) ∷ []) ≡ None
push_none q p [] n ne f = choose (λ (o : Option ℕ). o ≡ None) (same_place p q) (Some n) None (λ t. absurd (ne (sym (same_is p q t)))) (λ _. refl)
push_none q p (y ∷ ls) n ne f = choose (λ (o : Option ℕ). o ≡ None → cond (same_place y.0 q) (Some y.1) (value_at q (ls ++ (p, n) ∷ [])) ≡ None) (same_place y.0 q) (Some y.1) (value_at q ls)
    (λ t g. absurd (none_some y.1 (sym g)))
    (λ t g. ap (λ (b : Bool). cond b (Some y.1) (value_at q (ls ++ (p, n) ∷ []))) t ∙ push_none q p ls n ne g) f

-- a load of what was loaded before changes nothing
value_other : (q p : Place) (ls : List (Place × ℕ)) (n m : ℕ) → value_at p ls ≡ Some m → value_at q ls ≡ None → value_at q (ls ++ (p, n) ∷ []) ≡ None
value_other q p [] n m e f = absurd (none_some m e)
value_other q p (y ∷ ls) n m e f = choose (λ (o : Option ℕ). o ≡ None → cond (same_place y.0 q) (Some y.1) (value_at q (ls ++ (p, n) ∷ [])) ≡ None) (same_place y.0 q) (Some y.1) (value_at q ls)
    (λ t g. absurd (none_some y.1 (sym g)))
    (λ t g. ap (λ (b : Bool). cond b (Some y.1) (value_at q (ls ++ (p, n) ∷ []))) t ∙ choose (λ (o : Option ℕ). o ≡ Some m → value_at q (ls ++ (p, n) ∷ []) ≡ None) (same_place y.0 p) (Some y.1) (value_at p ls)
    (λ u _. push_none q p ls n (λ same. true≢false (sym (ap (λ (b : Place). same_place y.0 b) same ∙ u) ∙ t)) g)
    (λ _ h. value_other q p ls n m h g) e) f

value_again : (q p : Place) (ls : List (Place × ℕ)) (n m : ℕ) → value_at p ls ≡ Some m → (o : Option ℕ) → value_at q ls ≡ o → value_at q (ls ++ (p, n) ∷ []) ≡ o
value_again q p ls n m e None f = value_other q p ls n m e f
value_again q p ls n m e (Some k) f = value_push q ls (p, n) k f

pub found_again : (p : Place) (ls : List (Place × ℕ)) (n : ℕ) → IsLoaded p ls → found (ls ++ (p, n) ∷ []) ≡ found ls
found_again p ls n h = fun_ext (λ q. ap or_zero (value_again q p ls n h.0 h.1 (value_at q ls) refl))
