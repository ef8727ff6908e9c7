-- Marks of the rows in free places.
use Rattle.std.proofs.Common.{◌≡◌, ◌≢◌, ℕ, zero, suc, ◌+◌, ◌<◌, ◌≤◌, eqb, Bool, true, false, cond, List, length, get_or, set, refl, sym, ap, ◌∙◌, subst, ⊎_elim, arith, get_or-set_same, get_or-set_other}
use Rattle.std.specs.Prelude.{replicate}
use Rattle.std.proofs.lemmas.Bool.{cases_lt}
use Rattle.std.proofs.lemmas.List.{length-replicate, get_or-replicate, get_or_read, length-set}
use Rattle.store_model.specs.declared.view.Place.{Place}
use Rattle.store_model.specs.declared.view.Place.TheVariants.{FreeCount, FreePlace}
use Rattle.store_model.specs.declared.view.Sizes.{Sizes}
use Rattle.store_model.specs.Steps.{is_free}
use Rattle.store_core.specs.RowLists.{AreListed, IsList, IsPast}
use Rattle.store_core.specs.declared.machine.row_lists.RowList.TheVariants.{Free}
use Rattle.store_model.specs.Marks.{MarksPlaces, MarksFree, AreNotApart, Repeats}
use Rattle.store_model.proofs.Basics.{choose, eqb_is, eqb_not}
use Rattle.store_model.proofs.NamesLeft.{free_none, free_some}

-- equal places
free_same : (f g : ℕ → ℕ) (n r : ℕ) → ((i : ℕ) → i < n → f i ≡ g i) → is_free f n r ≡ is_free g n r
free_same f g zero r h = refl
free_same f g (suc n) r h =
    ap (λ (k : ℕ). cond (eqb k r) true (is_free f n r)) (h n (omega arith)) ∙ ap (λ (b : Bool). cond (eqb (g n) r) true b) (free_same f g n r (λ i l. h i (omega arith)))

pub places_none : (place : ℕ → ℕ) (rows : ℕ) → MarksPlaces place 0 rows (replicate rows false)
places_none place rows = record { size = length-replicate rows false; marked = λ r l. get_or-replicate rows r false false l; differ = λ i j a b. absurd (omega arith) }

module _ (place : ℕ → ℕ) (n rows : ℕ) (m : List Bool) (h : MarksPlaces place n rows m) (there : place n < rows) where
  -- the next place holds another row
  other : get_or m (place n) false ≡ false → (i : ℕ) → i < n → place i ≢ place n
  other e = free_none place n (place n) (sym (h.marked (place n) there) ∙ e)

  more : get_or m (place n) false ≡ false → MarksPlaces place (suc n) rows (set m (place n) true)
  more e = record {
    size = length-set m (place n) true ∙ h.size;
    marked = λ r l. choose (λ (b : Bool). get_or (set m (place n) true) r false ≡ b) (eqb (place n) r) true (is_free place n r)
        (λ is. subst (λ (k : ℕ). get_or (set m (place n) true) k false ≡ true) (eqb_is (place n) r is) (get_or-set_same m (place n) true false (let s = h.size in omega arith)))
        (λ not. get_or-set_other m (place n) r true false (λ is. eqb_not (place n) r not (sym is)) ∙ h.marked r l);
    differ = λ i j a b same. ⊎_elim
        (λ c. ⊎_elim (λ d. h.differ i j c d same) (λ d. let last : j ≡ n = omega arith in absurd (other e i c (same ∙ ap place last))) (cases_lt j n))
        (λ c. let last : i ≡ n = omega arith in ⊎_elim (λ d. absurd (other e j d (sym same ∙ ap place last))) (λ d. omega arith) (cases_lt j n)) (cases_lt i n);
  }

  pub places_more : get_or m (place n) false ≡ false → MarksPlaces place (n + 1) rows (set m (place n) true)
  places_more e = let next : suc n ≡ n + 1 = omega arith in subst (λ (k : ℕ). MarksPlaces place k rows (set m (place n) true)) next (more e)

  pub places_repeat : (count : ℕ) → n < count → get_or m (place n) false ≡ true → Repeats place count
  places_repeat count l e = let t = free_some place n (place n) (sym (h.marked (place n) there) ∙ e) in record { first = t.0; second = n; in_order = t.1; within = l; same = t.2 }

-- the rows of a list, and where they stand
pub places_of : (f : ℕ → ℕ) (bound n : ℕ) (xs : List ℕ) (m : List Bool) → AreListed f bound n xs → MarksPlaces (λ i. get_or xs i 0) (length xs) bound m → MarksPlaces f n bound m
places_of f bound n xs m k h = record {
  size = h.size;
  marked = λ r l. h.marked r l ∙ (free_same (λ i. get_or xs i 0) f (length xs) r (λ i b. k.each i (let c = k.count in omega arith)) ∙ ap (λ (j : ℕ). is_free f j r) k.count);
  differ = λ i j a b same. h.differ i j (let c = k.count in omega arith) (let c = k.count in omega arith) (k.each i a ∙ (same ∙ sym (k.each j b)));
}

module _ (z : Sizes) (w : Place → ℕ) where
  pub free_marked : (xs : List ℕ) (m : List Bool) → w FreeCount ≤ z.rows → IsList z w Free xs → MarksPlaces (λ i. get_or xs i 0) (length xs) z.rows m → MarksFree z w m
  free_marked xs m few k h = record { few = few; there = k.below; places = places_of (λ i. w (FreePlace i)) z.rows (w FreeCount) xs m k h }

  pub not_apart_many : z.rows < w FreeCount → AreNotApart z w
  not_apart_many l live h = let few = h.few in omega arith

  pub not_apart_past : IsPast z w Free → AreNotApart z w
  not_apart_past p live h = let a = h.there p.at p.within in let b = p.past in omega arith

  pub not_apart_repeat : (xs : List ℕ) → IsList z w Free xs → Repeats (λ i. get_or xs i 0) (length xs) → AreNotApart z w
  not_apart_repeat xs k t live h =
      let c = k.count in let l = t.in_order in let b = t.within in
      let second : t.second < w FreeCount = omega arith in
      let first : t.first < w FreeCount = omega arith in
      let same = h.differ t.first t.second first second (sym (k.each t.first first) ∙ (t.same ∙ k.each t.second second)) in omega arith

-- a mark that was read
pub read_mark : (m : List Bool) (i : ℕ) (a b : Bool) → i < length m → a ≡ get_or m i a → a ≡ b → get_or m i false ≡ b
read_mark m i a b l e is = sym (get_or_read m i a l e false) ∙ is
