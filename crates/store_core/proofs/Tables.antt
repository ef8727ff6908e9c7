-- The words of the machine that runs, read and written at a place.
use Rattle.std.proofs.Common.{◌≡◌, ℕ, zero, suc, ◌+◌, ◌<◌, Bool, cond, List, length, get_or, refl, sym, ap, ◌∙◌, subst, arith, eqb}
use Rattle.std.specs.Prelude.{slice_set, replicate}
use Rattle.store_model.specs.declared.view.Place.TheVariants.{Base, FreeCount, Claim, InUse, FreePlace, Bucket, RowWord, Birth, Next, RootCount, Root}
use Rattle.store_core.specs.Running.{IsBegun}
use Rattle.store_model.proofs.Basics.{choose, eqb_is, eqb_not}
use Rattle.std.proofs.lemmas.List.{get_or_read}
use Rattle.store_model.specs.Words.{write}
use Rattle.store_model.specs.declared.view.Place.{Place}
use Rattle.store_model.specs.declared.view.Sizes.{Sizes}
use Rattle.store_model.specs.Shown.{in_table, index_of, shown, total}
use Rattle.store_core.specs.Table.{IsPlaceOf}
use Rattle.store_model.proofs.Shown.{place_inside, shown_written}

zero_at : (n i : ℕ) → ◌≡◌ {A = ℕ} (get_or (replicate n 0) i 0) 0
zero_at zero i = refl
zero_at (suc n) zero = refl
zero_at (suc n) (suc i) = zero_at n i

module _ (z : Sizes) (words : List ℕ) (p : Place) (k : ℕ) (h : IsPlaceOf z p k) (whole : length words ≡ total z) where
  pub inside : k < length words
  inside = let a = place_inside z p h.there in let b = h.word in omega arith

  pub read : (n : ℕ) → n ≡ get_or words k n → n ≡ shown z words p
  read n e = get_or_read words k n inside e 0 ∙ (ap (λ (j : ℕ). get_or words j 0) h.word ∙ sym (ap (λ (b : Bool). cond b (get_or words (index_of z p) 0) 0) h.there))

  pub written : (n : ℕ) → shown z (slice_set words k n) ≡ write (shown z words) p n
  written n = ap (λ (j : ℕ). shown z (slice_set words j n)) h.word ∙ shown_written z words p n h.there (subst (λ (j : ℕ). j < length words) h.word inside)

-- words that are all 0
pub shows_none : (z : Sizes) (n : ℕ) (p : Place) → ◌≡◌ {A = ℕ} (shown z (replicate n 0) p) 0
shows_none z n p = choose (λ (k : ℕ). k ≡ 0) (in_table z p) (get_or (replicate n 0) (index_of z p) 0) 0 (λ e. zero_at n (index_of z p)) (λ e. refl)

-- a new store with no free place yet
pub begun_first : (z : Sizes) (w : Place → ℕ) → ((p : Place) → w p ≡ 0) → IsBegun z 0 (write (write (write w Base z.first) FreeCount z.rows) InUse z.start)
begun_first z w h = record { base = refl; count = refl; claim = h Claim; in_use = refl; place = λ i l. absurd (omega arith); bucket = λ b. h (Bucket b); root_count = λ j. h (RootCount j); root = λ j k. h (Root j k); word = λ r k. h (RowWord r k); birth = λ r. h (Birth r); next = λ r. h (Next r) }

-- one free place more
pub begun_next : (z : Sizes) (w : Place → ℕ) (n : ℕ) → IsBegun z n w → IsBegun z (n + 1) (write w (FreePlace n) n)
begun_next z w n h = record {
  base = h.base;
  count = h.count;
  claim = h.claim;
  in_use = h.in_use;
  place = λ i l. choose (λ (k : ℕ). k ≡ i) (eqb i n) n (w (FreePlace i)) (λ e. sym (eqb_is i n e)) (λ e. h.place i (let ne = eqb_not i n e in omega arith));
  bucket = h.bucket;
  root_count = h.root_count;
  root = h.root;
  word = h.word;
  birth = h.birth;
  next = h.next;
}

-- the three stores of a new store before its free places
pub begun_by : (z : Sizes) (w a b d : Place → ℕ) (rows start : ℕ) → ((p : Place) → w p ≡ 0) → a ≡ write w Base z.first → rows ≡ z.rows → b ≡ write a FreeCount rows → start ≡ z.start → d ≡ write b InUse start → IsBegun z 0 d
begun_by z w a b d rows start h first count second used third =
    let e : d ≡ write (write (write w Base z.first) FreeCount z.rows) InUse z.start =
    third ∙ (ap (λ (n : ℕ). write b InUse n) used ∙ ap (λ (x : Place → ℕ). write x InUse z.start)
    (second ∙ (ap (λ (n : ℕ). write a FreeCount n) count ∙ ap (λ (x : Place → ℕ). write x FreeCount z.rows) first))) in
    subst (IsBegun z 0) (sym e) (begun_first z w h)

-- one free place more, stored in a table of these sizes
pub begun_more : (z y x : Sizes) (had has : List ℕ) (i n : ℕ) → y ≡ z → x ≡ y → n ≡ i → shown x has ≡ write (shown y had) (FreePlace i) n → IsBegun z i (shown z had) → IsBegun z (i + 1) (shown z has)
begun_more z y x had has i n same again number stored h =
    let e : shown z has ≡ write (shown z had) (FreePlace i) i =
    ap (λ (t : Sizes). shown t has) (sym (again ∙ same)) ∙ (stored ∙ (ap (λ (t : Sizes). write (shown t had) (FreePlace i) n) same ∙ ap (write (shown z had) (FreePlace i)) number)) in
    subst (IsBegun z (i + 1)) (sym e) (begun_next z (shown z had) i h)
