-- The protected rows after copies among them.
use Rattle.std.proofs.Common.{◌≡◌, inl, inr, ℕ, ◌+◌, ◌-◌, ◌<◌, ◌≤◌, List, [], ◌∷◌, ◌++◌, length, get_or, set, take, drop, refl, sym, ap, ◌∙◌, subst, ⊎_elim, arith, length-set, length-append, length-drop}
use Rattle.std.proofs.lemmas.List.{get_or-take, get_or-drop, get_or-set_same, get_or-set_other, ext_get_or, length-take-le, take-append-drop, take_more_set, take_more, set-get_or, get_or_append_left, get_or-append_right}
use Rattle.std.proofs.lemmas.Bool.{cases_lt}
use Rattle.root_sets.specs.Protected.{Moved, ends_of}

-- no row was copied yet
pub moved_none : (rs : List ℕ) (last from : ℕ) → Moved rs rs last from 0
moved_none rs last from = record { long = refl; moved = λ i l. absurd (omega arith); kept = λ i h. refl }

-- one more was
pub moved_more : (old mid new : List ℕ) (last from k : ℕ) → Moved old mid last from k → from < last → last + k < length old → new ≡ set mid (from + k) (get_or mid (last + k) 0) → Moved old new last from (k + 1)
moved_more old mid new last from k m below there is = subst (λ (ns : List ℕ). Moved old ns last from (k + 1)) (sym is) record {
  long = length-set mid (from + k) (get_or mid (last + k) 0) ∙ m.long;
  moved = λ i l. ⊎_elim
      (λ (less : i < k). get_or-set_other mid (from + k) (from + i) (get_or mid (last + k) 0) 0 (λ e. omega arith) ∙ m.moved i less)
      (λ past. let e : i ≡ k = omega arith in
      subst (λ (j : ℕ). get_or (set mid (from + k) (get_or mid (last + k) 0)) (from + j) 0 ≡ get_or old (last + j) 0) (sym e)
      (get_or-set_same mid (from + k) (get_or mid (last + k) 0) 0 (let n = m.long in omega arith) ∙ m.kept (last + k) (inr (omega arith))))
      (cases_lt i k);
  kept = λ i h. get_or-set_other mid (from + k) i (get_or mid (last + k) 0) 0 (λ e. ⊎_elim (λ a. omega arith) (λ a. omega arith) h) ∙ m.kept i (⊎_elim inl (λ a. inr (omega arith)) h);
}

-- so the first rows are then the lowest and the highest
pub ends_moved : (old new : List ℕ) (count last from top : ℕ) → Moved old new last from top → last + top ≡ count → from < last → count ≤ length old → take (from + top) new ≡ ends_of (take count old) (length (take count old)) from top
ends_moved old new count last from top m e below few =
    let rows : List ℕ = take count old in
    let long : length rows ≡ count = length-take-le count old few in
    let start : length rows - top ≡ last = omega arith in
    let n : length (take (from + top) new) ≡ from + top = length-take-le (from + top) new (let a = m.long in omega arith) in
    let low : length (take from rows) ≡ from = length-take-le from rows (omega arith) in
    let high : length (drop last rows) ≡ length rows - last = length-drop last rows in
    let both : length (take from rows ++ drop last rows) ≡ length (take from rows) + length (drop last rows) = length-append (take from rows) (drop last rows) in
    ext_get_or 0 (take (from + top) new) (take from rows ++ drop last rows) (omega arith) (λ i l.
    let i_below : i < from + top = omega arith in
    get_or-take (from + top) new i 0 i_below ∙ ⊎_elim
    (λ (less : i < from). m.kept i (inl less) ∙ (sym (get_or-take count old i 0 (omega arith)) ∙ (sym (get_or-take from rows i 0 less) ∙ sym (get_or_append_left (take from rows) (drop last rows) 0 i (omega arith)))))
    (λ (past : from ≤ i).
    let j : ℕ = i - from in
    let is : from + j ≡ i = omega arith in
    let here : last + j < count = omega arith in
    ap (λ (q : ℕ). get_or new q 0) (sym is) ∙ (m.moved j (omega arith) ∙ (sym (get_or-take count old (last + j) 0 here) ∙ (sym (get_or-drop last rows j 0) ∙ sym (get_or-append_right (take from rows) (drop last rows) from i 0 low past)))))
    (cases_lt i from))
    ∙ ap (λ (q : ℕ). take from rows ++ drop q rows) (sym start)

-- where all are kept they are the ends
pub ends_all : (rows : List ℕ) (from top : ℕ) → from + top ≡ length rows → rows ≡ ends_of rows (length rows) from top
ends_all rows from top e = sym (take-append-drop from rows) ∙ ap (λ (q : ℕ). take from rows ++ drop q rows) (let s : from ≡ length rows - top = omega arith in s)

pub pushed : (rs : List ℕ) (n r : ℕ) → n < length rs → take (n + 1) (set rs n r) ≡ take n rs ++ r ∷ []
pushed rs n r l = take_more_set rs n r l

-- one row more is as it is to be
pub put_more : (old new rows : List ℕ) (k : ℕ) → take k old ≡ take k rows → new ≡ set old k (get_or rows k 0) → k < length old → k < length rows → take (k + 1) new ≡ take (k + 1) rows
put_more old new rows k e is l m =
    ap (λ (ns : List ℕ). take (k + 1) ns) is ∙ (take_more_set old k (get_or rows k 0) l ∙ (ap (λ (ns : List ℕ). ns ++ get_or rows k 0 ∷ []) e ∙ sym (take_more rows k 0 m)))

-- a row that is there already is as if it were stored
pub same_set : (old new : List ℕ) (k row : ℕ) → new ≡ old → get_or old k 0 ≡ row → new ≡ set old k row
same_set old new k row e is = e ∙ (sym (set-get_or old k 0) ∙ ap (λ (r : ℕ). set old k r) is)
