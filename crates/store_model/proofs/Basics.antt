-- Writes, and lists of which each has something.
use Rattle.std.proofs.Common.{◌≡◌, ◌≢◌, ℕ, eqb, Bool, true, false, cond, Option, None, Some, List, [], ◌∷◌, ◌++◌, refl, sym, ap, ◌∙◌, subst, ⊎_elim, eq-eqb, ne_eqb, true≢false}
use mathlib.Core.Path.{fun_ext}
use mathlib.Core.Logic.{dite}
use native.Mathlib.Decide.{ℕ_discrete}
use Rattle.store_model.specs.Words.{Place, Base, FreeCount, Claim, InUse, FreePlace, Bucket, RowWord, Birth, Next, RootCount, Root, same_place, write, put}
use Rattle.store_model.specs.Machine.{Each, In}
use Rattle.store_model.specs.Seats.{Where}

pub choose : {A : Type 0} (P : A → Type 0) (b : Bool) (x y : A) → (b ≡ true → P x) → (b ≡ false → P y) → P (cond b x y)
choose P true x y p q = p refl
choose P false x y p q = q refl

pub eqb_is : (i j : ℕ) → eqb i j ≡ true → i ≡ j
eqb_is i j h = dite (ℕ_discrete i j) (λ e. e) (λ ne. absurd (true≢false (sym h ∙ ne_eqb i j ne)))

pub eqb_not : (i j : ℕ) → eqb i j ≡ false → i ≢ j
eqb_not i j h e = true≢false (sym (eq-eqb i j e) ∙ h)

pub both_true : (a b : Bool) → cond a b false ≡ true → (a ≡ true) × (b ≡ true)
both_true true b h = (refl, h)
both_true false b h = absurd (true≢false (sym h))

pub same_is : (q p : Place) → same_place q p ≡ true → q ≡ p
same_is Base Base h = refl
same_is FreeCount FreeCount h = refl
same_is Claim Claim h = refl
same_is InUse InUse h = refl
same_is (FreePlace i) (FreePlace j) h = ap FreePlace (eqb_is i j h)
same_is (Bucket i) (Bucket j) h = ap Bucket (eqb_is i j h)
same_is (RowWord r k) (RowWord q l) h = let e = both_true (eqb r q) (eqb k l) h in ap (λ x. RowWord x k) (eqb_is r q e.0) ∙ ap (RowWord q) (eqb_is k l e.1)
same_is (Birth i) (Birth j) h = ap Birth (eqb_is i j h)
same_is (Next i) (Next j) h = ap Next (eqb_is i j h)
same_is (RootCount i) (RootCount j) h = ap RootCount (eqb_is i j h)
same_is (Root r k) (Root q l) h = let e = both_true (eqb r q) (eqb k l) h in ap (λ x. Root x k) (eqb_is r q e.0) ∙ ap (Root q) (eqb_is k l e.1)
same_is q p h = absurd (true≢false (sym h))

-- a word that is written as it was changes nothing
pub write_same : (w : Place → ℕ) (p : Place) → write w p (w p) ≡ w
write_same w p = fun_ext (λ q. choose (λ n. n ≡ w q) (same_place q p) (w p) (w q) (λ h. ap w (sym (same_is q p h))) (λ _. refl))

pub put_case : {A : Type 0} (P : A → Type 0) (f : ℕ → A) (i : ℕ) (x : A) (j : ℕ) → (j ≡ i → P x) → (j ≢ i → P (f j)) → P (put f i x j)
put_case P f i x j p q = choose P (eqb j i) x (f j) (λ h. p (eqb_is j i h)) (λ h. q (eqb_not j i h))

pub put_same : {A : Type 0} (f : ℕ → A) (i : ℕ) (x : A) → put f i x i ≡ x
put_same f i x = put_case (λ y. y ≡ x) f i x i (λ _. refl) (λ ne. absurd (ne refl))

pub put_other : {A : Type 0} (f : ℕ → A) (i : ℕ) (x : A) (j : ℕ) → j ≢ i → put f i x j ≡ f j
put_other f i x j ne = put_case (λ y. y ≡ f j) f i x j (λ e. absurd (ne e)) (λ _. refl)

pub each_map : {A : Type 0} (P Q : A → Type 0) (xs : List A) → ((x : A) → P x → Q x) → Each P xs → Each Q xs
each_map P Q [] f h = tt
each_map P Q (x ∷ xs) f h = (f x h.0, each_map P Q xs f h.1)

pub each_both : {A : Type 0} (L P Q : A → Type 0) (xs : List A) → ((x : A) → L x → P x → Q x) → Each L xs → Each P xs → Each Q xs
each_both L P Q [] f l h = tt
each_both L P Q (x ∷ xs) f l h = (f x l.0 h.0, each_both L P Q xs f l.1 h.1)

pub each_left : {A : Type 0} (P : A → Type 0) (xs ys : List A) → Each P (xs ++ ys) → Each P xs
each_left P [] ys h = tt
each_left P (x ∷ xs) ys h = (h.0, each_left P xs ys h.1)

pub each_right : {A : Type 0} (P : A → Type 0) (xs ys : List A) → Each P (xs ++ ys) → Each P ys
each_right P [] ys h = h
each_right P (x ∷ xs) ys h = each_right P xs ys h.1

pub each_join : {A : Type 0} (P : A → Type 0) (xs ys : List A) → Each P xs → Each P ys → Each P (xs ++ ys)
each_join P [] ys h k = k
each_join P (x ∷ xs) ys h k = (h.0, each_join P xs ys h.1 k)

pub each_in : (P : ℕ → Type 0) (r : ℕ) (xs : List ℕ) → Each P xs → In r xs → P r
each_in P r [] h i = absurd i
each_in P r (x ∷ xs) h i = ⊎_elim (λ e. subst P (sym e) h.0) (λ k. each_in P r xs h.1 k) i

pub where_map : {A : Type 0} (o : Option A) (P Q : A → Type 0) → ((x : A) → o ≡ Some x → P x → Q x) → Where o P → Where o Q
where_map None P Q f h = tt
where_map (Some x) P Q f h = f x refl h

-- what holds of what is there
pub where_at : {A : Type 0} (o : Option A) (P : A → Type 0) (x : A) → o ≡ Some x → Where o P → P x
where_at None P x e h = absurd (cc)
where_at (Some y) P x e h = subst P (let k : y ≡ x = cc in k) h
