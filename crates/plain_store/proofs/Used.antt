-- How many rows are in use.
use Rattle.std.proofs.Common.{◌≡◌, Bool, true, false, ℕ, zero, suc, ◌+◌, ◌<◌, ◌≤◌, List, [], ◌∷◌, Option, Some, None, length, take, get_or, refl, ap, sym, ◌∙◌, arith}
use Rattle.std.specs.Option.{option_map, is_some}
use Rattle.std.proofs.lemmas.List.{length-take}
use Rattle.term_model.specs.Tree.{Tree}
use Rattle.plain_store.specs.Slots.{Slots, Slot, some_count}
use Rattle.plain_store.specs.Index.{Index, IsIndexedTo}
use Rattle.plain_store.specs.Agreement.{Agree}
use Rattle.plain_store.proofs.Indexing.{front_at, none_free}
use Rattle.plain_store.proofs.Crowding.{somes}

-- one more is looked at
pub none_more : {A : Type 0} (os : List (Option A)) (k : ℕ) → get_or os k None ≡ None → some_count (take (suc k) os) ≡ some_count (take k os)
none_more [] zero e = refl
none_more [] (suc k) e = refl
none_more (None ∷ os) zero e = refl
none_more (Some a ∷ os) zero e = absurd (cc)
none_more (None ∷ os) (suc k) e = none_more os k e
none_more (Some a ∷ os) (suc k) e = let r = none_more os k e in omega (arith, r)

pub some_more : {A : Type 0} (os : List (Option A)) (k : ℕ) (a : A) → get_or os k None ≡ Some a → some_count (take (suc k) os) ≡ some_count (take k os) + 1
some_more [] k a e = absurd (cc)
some_more (None ∷ os) zero a e = absurd (cc)
some_more (Some b ∷ os) zero a e = refl
some_more (None ∷ os) (suc k) a e = some_more os k a e
some_more (Some b ∷ os) (suc k) a e = let r = some_more os k a e in omega (arith, r)

-- whether there is a head tells whether the row is in use
pub used_more : (slots : List Slot) (k : ℕ) (b : Bool) → b ≡ is_some (option_map (λ n. n.0) (get_or slots k None)) → b ≡ true → some_count (take (k + 1) slots) ≡ some_count (take k slots) + 1
used_more slots k b is so = by (get_or slots k None) refl
  where
    by : (o : Slot) → get_or slots k None ≡ o → some_count (take (k + 1) slots) ≡ some_count (take k slots) + 1
    by None e = absurd (let no = is ∙ ap (λ s. is_some (option_map (λ n. n.0) s)) e in let bad : true ≡ false = sym so ∙ no in cc)
    by (Some a) e = let next : k + 1 ≡ suc k = omega arith in ap (λ i. some_count (take i slots)) next ∙ some_more slots k a e

pub unused_more : (slots : List Slot) (k : ℕ) (b : Bool) → b ≡ is_some (option_map (λ n. n.0) (get_or slots k None)) → b ≡ false → some_count (take (k + 1) slots) ≡ some_count (take k slots)
unused_more slots k b is not_so = by (get_or slots k None) refl
  where
    by : (o : Slot) → get_or slots k None ≡ o → some_count (take (k + 1) slots) ≡ some_count (take k slots)
    by None e = let next : k + 1 ≡ suc k = omega arith in ap (λ i. some_count (take i slots)) next ∙ none_more slots k e
    by (Some a) e = absurd (let has = is ∙ ap (λ s. is_some (option_map (λ n. n.0) s)) e in let bad : false ≡ true = sym not_so ∙ has in cc)

-- the first are there, and no others
pub all_front : {A : Type 0} (n : ℕ) (os : List (Option A)) → n ≤ length os → ((k : ℕ) → k < n → get_or os k None ≡ None → ⊥) → ((k : ℕ) → n ≤ k → get_or os k None ≡ None) → some_count os ≡ n
all_front zero [] le used behind = refl
all_front zero (None ∷ os) le used behind = all_front zero os (omega arith) (λ k lt e. omega (arith, lt)) (λ k h. behind (suc k) (omega arith))
all_front zero (Some a ∷ os) le used behind = absurd (let bad : Some a ≡ None = behind 0 (omega arith) in cc)
all_front (suc n) [] le used behind = absurd (omega (arith, le))
all_front (suc n) (None ∷ os) le used behind = absurd (used 0 (omega arith) refl)
all_front (suc n) (Some a ∷ os) le used behind =
    let r = all_front n os (omega (arith, le)) (λ k lt e. used (suc k) (omega (arith, lt)) e) (λ k h. behind (suc k) (omega (arith, h))) in
    omega (arith, r)

-- where no row was freed, those are in use that ever were
pub used_front : (fresh : ℕ) (slots : List Slot) (x : Index) → x.free ≡ [] → IsIndexedTo fresh slots x → some_count slots ≡ fresh
used_front fresh slots x none h =
    all_front fresh slots h.front.fits
    (λ k lt e. none_free (take fresh slots) x none h.indexed k (omega (arith, lt, h.front.fits, length-take fresh slots)) (front_at fresh slots k h.front ∙ e))
    h.front.behind

-- as many are in one list as in another that has none exactly where it has none
same_count : {A B : Type 0} (os : List (Option A)) (us : List (Option B)) → length os ≡ length us → ((k : ℕ) → get_or os k None ≡ None → get_or us k None ≡ None) → ((k : ℕ) (a : A) → get_or os k None ≡ Some a → get_or us k None ≡ None → ⊥) → some_count os ≡ some_count us
same_count [] [] e none some = refl
same_count [] (u ∷ us) e none some = absurd (omega (arith, e))
same_count (o ∷ os) [] e none some = absurd (omega (arith, e))
same_count (None ∷ os) (None ∷ us) e none some = same_count os us (omega (arith, e)) (λ k f. none (suc k) f) (λ k a f g. some (suc k) a f g)
same_count (None ∷ os) (Some b ∷ us) e none some = absurd (let bad : Some b ≡ None = none 0 refl in cc)
same_count (Some a ∷ os) (None ∷ us) e none some = absurd (some 0 a refl refl)
same_count (Some a ∷ os) (Some b ∷ us) e none some =
    let r = same_count os us (omega (arith, e)) (λ k f. none (suc k) f) (λ k c f g. some (suc k) c f g) in
    omega (arith, r)

-- a row is in use exactly where it has a tree
pub trees_used : (slots : Slots) (trees : List (Option Tree)) → Agree slots trees → some_count slots.slots ≡ some_count trees
trees_used slots trees g =
    same_count slots.slots trees g.size
    (λ k e. g.free (record { 0 = k }) e)
    (λ k a e f. absurd (let is = g.node (record { 0 = k }) a.0 a.1 e in cc))

pub somes_count : (os : List (Option Tree)) → length (somes os) ≡ some_count os
somes_count [] = refl
somes_count (None ∷ os) = somes_count os
somes_count (Some t ∷ os) = let r = somes_count os in omega (arith, r)
