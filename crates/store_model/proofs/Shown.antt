-- A write to a word of the table is one to its place.
use Rattle.std.proofs.Common.{◌≡◌, ◌≢◌, ℕ, zero, suc, ◌+◌, ◌*◌, ◌<◌, ◌≤◌, Bool, true, false, cond, List, length, get_or, set, refl, sym, ap, ◌∙◌, subst, ⊎_elim, arith, get_or-set_same, get_or-set_other, true≢false, ltb-true, eq-eqb, eqb}
use Rattle.std.specs.Prelude.{slice_set}
use Rattle.std.proofs.lemmas.Nat.{same_from_place, row_fits}
use Rattle.std.proofs.lemmas.Bool.{cases_lt}
use mathlib.Core.Path.{fun_ext}
use mathlib.Core.Logic.{dite}
use native.Mathlib.Decide.{ℕ_discrete}
use Rattle.store_model.specs.Words.{Place, Base, FreeCount, Claim, InUse, FreePlace, Bucket, RowWord, Birth, Next, RootCount, Root, same_place, write}
use Rattle.store_model.specs.Machine.{Sizes}
use Rattle.store_model.specs.Shown.{block, line, column, lines, columns, begin, index_of, last_column, in_table, shown, total}
use Rattle.store_model.proofs.Basics.{choose, same_is}
use Rattle.store_model.specs.Laws.{TotalIs}

pub record IsIn (z : Sizes) (p : Place) : Type 0 where
  pub line : line p < lines z (block p)
  pub last : column z p < last_column z p
  pub column : column z p < columns z (block p)

last_below : (z : Sizes) (p : Place) → last_column z p ≤ columns z (block p)
last_below z (RowWord r k) = omega arith
last_below z p = omega arith

both : (a b : Bool) → cond a b false ≡ true → (a ≡ true) × (b ≡ true)
both true b h = (refl, h)
both false b h = absurd (true≢false (sym h))

is_in : (z : Sizes) (p : Place) → in_table z p ≡ true → IsIn z p
is_in z p e = let a = both _ _ e in let l = ltb-true (line p) (lines z (block p)) a.0 in let c = ltb-true (column z p) (last_column z p) a.1 in
    record { line = l; last = c; column = let b = last_below z p in omega arith }

-- a later block begins after the end of an earlier one
begins_later : (z : Sizes) (a b : ℕ) → a < b → begin z a + lines z a * columns z a ≤ begin z b
begins_later z a zero l = absurd (omega arith)
begins_later z a (suc b) l = ⊎_elim (λ less. let h = begins_later z a b less in omega arith) (λ past. let e : b ≡ a = omega arith in subst (λ (k : ℕ). begin z a + lines z a * columns z a ≤ begin z k + lines z k * columns z k) (sym e) (omega arith)) (cases_lt a b)

earlier : (z : Sizes) (p q : Place) → IsIn z p → block p < block q → index_of z p ≢ index_of z q
earlier z p q h l e =
    let a = begins_later z (block p) (block q) l in
    let b = row_fits (line p) (columns z (block p)) (lines z (block p)) (columns z (block p)) h.line (omega arith) in
    let c = h.column in omega arith

-- a place is known by its block, its line and its column
spot_is : (z : Sizes) (p q : Place) → column z p < last_column z p → column z q < last_column z q → block p ≡ block q → line p ≡ line q → column z p ≡ column z q → p ≡ q
spot_is z Base Base a b e f g = refl
spot_is z FreeCount FreeCount a b e f g = refl
spot_is z Claim Claim a b e f g = refl
spot_is z InUse InUse a b e f g = refl
spot_is z (FreePlace i) (FreePlace j) a b e f g = ap FreePlace g
spot_is z (Bucket i) (Bucket j) a b e f g = ap Bucket g
spot_is z (RowWord r k) (RowWord q l) a b e f g = ap (λ (n : ℕ). RowWord n k) f ∙ ap (RowWord q) g
spot_is z (Birth r) (Birth q) a b e f g = ap Birth f
spot_is z (Next r) (Next q) a b e f g = ap Next f
spot_is z (RootCount i) (RootCount j) a b e f g = ap RootCount f
spot_is z (Root i k) (Root j l) a b e f g = ap (λ (n : ℕ). Root n k) f ∙ ap (Root j) (let h : k ≡ l = omega arith in h)
spot_is z p q a b e f g = absurd (omega arith)

same_block : (z : Sizes) (p q : Place) → IsIn z p → IsIn z q → block p ≡ block q → index_of z p ≡ index_of z q → p ≡ q
same_block z p q h k e f =
    let w : ℕ = columns z (block p) in
    let there : column z q < w = subst (λ (b : ℕ). column z q < columns z b) (sym e) k.column in
    let g : begin z (block p) + (line p * w + column z p) ≡ begin z (block p) + (line q * w + column z q) = f ∙ ap (λ (b : ℕ). begin z b + (line q * columns z b + column z q)) (sym e) in
    let s = same_from_place (line p) (column z p) (line q) (column z q) w h.column there (let i = g in omega arith) in
    spot_is z p q h.last k.last e s.0 s.1

pub places_apart : (z : Sizes) (p q : Place) → in_table z p ≡ true → in_table z q ≡ true → index_of z p ≡ index_of z q → p ≡ q
places_apart z p q a b e = let h = is_in z p a in let k = is_in z q b in ⊎_elim (λ l. absurd (earlier z p q h l e))
    (λ past. dite (ℕ_discrete (block p) (block q)) (λ same. same_block z p q h k same e) (λ ne. absurd (earlier z q p k (omega arith) (sym e)))) (cases_lt (block p) (block q))

same_self : (p : Place) → same_place p p ≡ true
same_self Base = refl
same_self FreeCount = refl
same_self Claim = refl
same_self InUse = refl
same_self (FreePlace i) = eq-eqb i i refl
same_self (Bucket b) = eq-eqb b b refl
same_self (RowWord r k) = ap (λ (b : Bool). cond b (eqb k k) false) (eq-eqb r r refl) ∙ eq-eqb k k refl
same_self (Birth r) = eq-eqb r r refl
same_self (Next r) = eq-eqb r r refl
same_self (RootCount j) = eq-eqb j j refl
same_self (Root j k) = ap (λ (b : Bool). cond b (eqb k k) false) (eq-eqb j j refl) ∙ eq-eqb k k refl

-- a write at a place of the table
module _ (z : Sizes) (words : List ℕ) (p : Place) (n : ℕ) (there : in_table z p ≡ true) (inside : index_of z p < length words) where
  at_other : (q : Place) → q ≢ p → (b : Bool) → in_table z q ≡ b → cond b (get_or (set words (index_of z p) n) (index_of z q) 0) 0 ≡ cond b (get_or words (index_of z q) 0) 0
  at_other q ne true e = get_or-set_other words (index_of z p) (index_of z q) n 0 (λ f. ne (places_apart z q p e there f))
  at_other q ne false e = refl

  pub shown_written : shown z (slice_set words (index_of z p) n) ≡ write (shown z words) p n
  shown_written = fun_ext (λ q. choose (λ (k : ℕ). shown z (set words (index_of z p) n) q ≡ k) (same_place q p) n (shown z words q)
      (λ e. subst (λ (r : Place). shown z (set words (index_of z p) n) r ≡ n) (sym (same_is q p e))
      (ap (λ (b : Bool). cond b (get_or (set words (index_of z p) n) (index_of z p) 0) 0) there ∙ get_or-set_same words (index_of z p) n 0 inside))
      (λ e. at_other q (λ f. true≢false (sym (subst (λ (r : Place). same_place r p ≡ true) (sym f) (same_self p)) ∙ e)) (in_table z q) refl))

begins_past : (z : Sizes) (b : ℕ) → begin z 0 ≤ begin z b
begins_past z zero = omega arith
begins_past z (suc b) = let h = begins_past z b in omega arith

-- a place stands past the words of the lock
pub past_lock : (z : Sizes) (p : Place) → 1 + 2 * z.seats ≤ index_of z p
past_lock z p = let h = begins_past z (block p) in omega arith

block_below : (p : Place) → block p < 5
block_below Base = omega arith
block_below FreeCount = omega arith
block_below Claim = omega arith
block_below InUse = omega arith
block_below (FreePlace i) = omega arith
block_below (Bucket b) = omega arith
block_below (RowWord r k) = omega arith
block_below (Birth r) = omega arith
block_below (Next r) = omega arith
block_below (RootCount j) = omega arith
block_below (Root j k) = omega arith

-- and within the table
pub place_inside : (z : Sizes) (p : Place) → in_table z p ≡ true → index_of z p < total z
place_inside z p e =
    let h = is_in z p e in
    let a = begins_later z (block p) 5 (block_below p) in
    let b = row_fits (line p) (columns z (block p)) (lines z (block p)) (columns z (block p)) h.line (omega arith) in
    let c = h.column in omega arith

at_place : (z : Sizes) (words : List ℕ) (k n : ℕ) → k < 1 + 2 * z.seats → (q : Place) (b : Bool) → cond b (get_or (set words k n) (index_of z q) 0) 0 ≡ cond b (get_or words (index_of z q) 0) 0
at_place z words k n l q true = get_or-set_other words k (index_of z q) n 0 (λ f. let h = past_lock z q in omega arith)
at_place z words k n l q false = refl

-- a write to a word of the lock shows nothing
pub shown_apart : (z : Sizes) (words : List ℕ) (k n : ℕ) → k < 1 + 2 * z.seats → shown z (set words k n) ≡ shown z words
shown_apart z words k n l = fun_ext (λ q. at_place z words k n l q (in_table z q))

pub total_is : TotalIs
total_is z = omega arith
