-- The places after a row is put into one.
use Rattle.std.proofs.Common.{◌≡◌, ◌≢◌, ℕ, zero, suc, ◌+◌, ◌-◌, ◌<◌, ◌≤◌, inl, inr, List, [], ◌∷◌, length, get_or, refl, ap, sym, ◌∙◌, subst, arith}
use Rattle.std.proofs.Math.ListN.{set}
use Rattle.std.specs.Prelude.{Bool, replicate, if◌then◌else◌, ◌==◌, nat_lt}
use Rattle.std.proofs.lemmas.Bool.{eq-eqb, ne_eqb, lt-ltb, le-ltb, cases_lt}
use Rattle.std.proofs.lemmas.Bool.Decides.{eqb_tells}
use Rattle.std.proofs.lemmas.List.{length-set, get_or-set_same, get_or-set_other}
use Rattle.term_model.specs.declared.Row.{Row}
use Rattle.plain_store.specs.Index.{Index, vacant, word_at, home_of, place_behind, place_of, tag_of, filled_count, IsReached, IsLinked}

-- how many places a word fills
abbrev one_if : ℕ → ℕ
one_if w = if w == vacant then 0 else 1

one_vacant : (w : ℕ) → w ≡ vacant → one_if w ≡ 0
one_vacant w e = ap (λ (b : Bool). if b then 0 else 1) (eq-eqb w vacant e)

one_filled : (w : ℕ) → (w ≡ vacant → ⊥) → one_if w ≡ 1
one_filled w ne = ap (λ (b : Bool). if b then 0 else 1) (ne_eqb w vacant ne)

one_at_most : (w : ℕ) → one_if w ≤ 1
one_at_most w =
    elim (eqb_tells w vacant) [
      | inl e ↦ omega (arith, one_vacant w e.1)
      | inr ne ↦ omega (arith, one_filled w ne.1)
    ]

-- at first no place is filled
pub none_filled : (n : ℕ) → filled_count (replicate n vacant) ≡ 0
none_filled zero = refl
none_filled (suc n) = omega (arith, none_filled n, one_vacant vacant refl)

-- at most one place more is filled
pub filled_set : (words : List ℕ) (p w : ℕ) → get_or words p vacant ≡ vacant → filled_count (set words p w) ≤ filled_count words + 1
filled_set [] p w e = omega arith
filled_set (v ∷ words) zero w e = omega (arith, one_at_most w)
filled_set (v ∷ words) (suc p) w e = let r = filled_set words p w e in omega (arith, r)

-- where no place is vacant, as many are filled
pub all_filled : (words : List ℕ) → ((p : ℕ) → p < length words → get_or words p vacant ≡ vacant → ⊥) → length words ≤ filled_count words
all_filled [] h = omega arith
all_filled (w ∷ words) h =
    let r = all_filled words (λ p lt. h (suc p) (omega (arith, lt))) in
    omega (arith, r, one_filled w (h 0 (omega arith)))

pub behind_ahead : (x : Index) (p n : ℕ) → p + n < length x.words → place_behind x p n ≡ p + n
behind_ahead x p n lt = ap (λ (b : Bool). if b then p + n else p + n - length x.words) (lt-ltb (p + n) (length x.words) lt)

pub behind_around : (x : Index) (p n : ℕ) → length x.words ≤ p + n → place_behind x p n ≡ p + n - length x.words
behind_around x p n le = ap (λ (b : Bool). if b then p + n else p + n - length x.words) (le-ltb (p + n) (length x.words) le)

pub behind_first : (x : Index) (p : ℕ) → p < length x.words → p ≡ place_behind x p 0
behind_first x p lt = omega (arith, behind_ahead x p 0 (omega (arith, lt)))

-- one place further
pub behind_next : (x : Index) (p n q : ℕ) → p < length x.words → n < length x.words → q ≡ place_behind x p n → place_behind x q 1 ≡ place_behind x p (n + 1)
behind_next x p n q lt le is =
    elim (cases_lt (p + n) (length x.words)) [
      | inl near ↦ (
          let at : q ≡ p + n = is ∙ behind_ahead x p n near in
          elim (cases_lt (q + 1) (length x.words)) [
            | inl more ↦ omega (arith, at, behind_ahead x q 1 more, behind_ahead x p (n + 1) (omega (arith, at, more)))
            | inr end ↦ omega (arith, at, behind_around x q 1 end, behind_around x p (n + 1) (omega (arith, at, end)))
          ])
      | inr far ↦ (
          let at : q ≡ p + n - length x.words = is ∙ behind_around x p n far in
          omega (arith, at, far, lt, le, behind_ahead x q 1 (omega (arith, at, far, lt, le)), behind_around x p (n + 1) (omega (arith, far))))
    ]

-- each place comes behind another within as many steps as there are places
pub none_vacant : (x : Index) (from : ℕ) → from < length x.words → ((k : ℕ) → k < length x.words → word_at x (place_behind x from k) ≡ vacant → ⊥) → length x.words ≤ filled_count x.words
none_vacant x from lt h =
    all_filled x.words (λ p below e. elim (cases_lt p from) [
      | inl before ↦ (
          let k = p + length x.words - from in
          let is : place_behind x from k ≡ p = omega (arith, behind_around x from k (omega arith)) in
          h k (omega arith) (ap (word_at x) is ∙ e))
      | inr le ↦ (
          let k = p - from in
          let is : place_behind x from k ≡ p = omega (arith, behind_ahead x from k (omega arith)) in
          h k (omega arith) (ap (word_at x) is ∙ e))
    ])

pub linked_filled : (x y : Index) (hashed : ℕ) (k : Row) → IsLinked x y hashed k → filled_count y.words ≤ filled_count x.words + 1
linked_filled x y hashed k l =
    let w = k.0 + tag_of x hashed in
    let same = ap (λ (z : Index). filled_count z.words) l.is in
    omega (arith, same, filled_set x.words (place_of x hashed l.steps) w l.none)

pub linked_free : (x y : Index) (hashed : ℕ) (k : Row) → IsLinked x y hashed k → y.free ≡ x.free
linked_free x y hashed k l = ap (λ (z : Index). z.free) l.is

pub linked_places : (x y : Index) (hashed : ℕ) (k : Row) → IsLinked x y hashed k → length y.words ≡ length x.words
linked_places x y hashed k l =
    ap (λ (z : Index). length z.words) l.is ∙ length-set x.words (place_of x hashed l.steps) (k.0 + tag_of x hashed)

pub linked_tags : (x y : Index) (hashed : ℕ) (k : Row) → IsLinked x y hashed k → y.tags ≡ x.tags
linked_tags x y hashed k l = ap (λ (z : Index). z.tags) l.is

-- with another word in a place
abbrev with_word : Index → ℕ → ℕ → Index
with_word x p w = record x { words = set x.words p w }

same_place : (x : Index) (p w hashed n : ℕ) → place_of (with_word x p w) hashed n ≡ place_of x hashed n
same_place x p w hashed n =
    let i = home_of x hashed + n in
    ap (λ (l : ℕ). if nat_lt i l then i else i - l) (length-set x.words p w)

-- a word that stands in another place stays
word_stays : (x : Index) (p w hashed n : ℕ) → place_of x hashed n ≢ p → word_at (with_word x p w) (place_of (with_word x p w) hashed n) ≡ word_at x (place_of x hashed n)
word_stays x p w hashed n ne =
    ap (word_at (with_word x p w)) (same_place x p w hashed n) ∙ get_or-set_other x.words p (place_of x hashed n) w vacant ne

-- the row stands where it is looked for
pub reached_new : (x y : Index) (hashed : ℕ) (k : Row) → IsLinked x y hashed k → IsReached y hashed k
reached_new x y hashed k l =
    let w = k.0 + tag_of x hashed in
    let p = place_of x hashed l.steps in
    subst (λ (z : Index). IsReached z hashed k) (sym l.is)
    (record {
      steps = l.steps;
      within = omega (arith, l.within, length-set x.words p w);
      there = ap (word_at (with_word x p w)) (same_place x p w hashed l.steps) ∙ get_or-set_same x.words p w vacant l.below;
      fits = l.fits;
      filled = λ n lt e. (let ne : place_of x hashed n ≢ p = λ same. l.filled n lt (ap (word_at x) same ∙ l.none) in l.filled n lt (sym (word_stays x p w hashed n ne) ∙ e));
    })

-- and so do the others
pub reached_stays : (x y : Index) (hashed other : ℕ) (k r : Row) → IsLinked x y hashed k → IsReached x other r → IsReached y other r
reached_stays x y hashed other k r l o =
    let w = k.0 + tag_of x hashed in
    let p = place_of x hashed l.steps in
    let apart : place_of x other o.steps ≢ p = λ e. omega (arith, l.none, o.there, o.fits, ap (word_at x) e) in
    subst (λ (z : Index). IsReached z other r) (sym l.is)
    (record {
      steps = o.steps;
      within = omega (arith, o.within, length-set x.words p w);
      there = word_stays x p w other o.steps apart ∙ o.there;
      fits = o.fits;
      filled = λ n lt e. elim (eqb_tells (place_of x other n) p) [
        | inl same ↦ (
            let here = ap (word_at (with_word x p w)) (same_place x p w other n ∙ same.1) ∙ get_or-set_same x.words p w vacant l.below in
            omega (arith, here, e, l.fits))
        | inr ne ↦ o.filled n lt (sym (word_stays x p w other n ne.1) ∙ e)
      ];
    })
