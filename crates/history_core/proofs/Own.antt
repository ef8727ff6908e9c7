-- A caller's own entries in the chronicle.
use Rattle.std.proofs.Common.{◌≡◌, ℕ, zero, suc, ◌+◌, ◌<◌, ◌≤◌, Bool, true, false, List, [], ◌∷◌, ◌++◌, append_assoc, append-nil, refl, sym, ap, ◌∙◌, subst, arith, ◌⊎◌, inl, inr}
use Rattle.std.specs.Prelude.{if◌then◌else◌, ◌==◌}
use Rattle.std.specs.List.{AllByRecursion}
use Rattle.std.proofs.lemmas.Bool.{both_ways, cond-true, cond-false, eq-eqb, ne_eqb, cases_eq}
use Rattle.history_core.specs.TermSet.{TermSet}
use Rattle.history_core.specs.Entry.{Entry, Make, Find, Roots, Collect, place, after}
use Rattle.history_core.specs.Chronicle.{History, precedes, put, earlier, later, put_all, put_each, chronicle, entries_of, part_of, NeverFalls, roots_after, last_roots, left_by, InOrder}
use Rattle.history_core.proofs.Chronicles.{own_goes_before, later_each, put_in_order, all_in_order}
use Rattle.history_core.proofs.Merge.{parts, put_between}

pub own_part : (caller : ℕ) (x : ℕ × Entry) (l : History) → x.0 ≡ caller → part_of caller (x ∷ l) ≡ x.1 ∷ part_of caller l
own_part caller x l same = cond-true (x.0 == caller) (x.1 ∷ part_of caller l) (part_of caller l) (eq-eqb x.0 caller same)

pub other_part : (caller : ℕ) (x : ℕ × Entry) (l : History) → (x.0 ≡ caller → ⊥) → part_of caller (x ∷ l) ≡ part_of caller l
other_part caller x l ne = cond-false (x.0 == caller) (x.1 ∷ part_of caller l) (part_of caller l) (ne_eqb x.0 caller ne)

-- an entry of another caller changes nothing of a caller's part
put_other : (caller : ℕ) (x : ℕ × Entry) (l : History) → (x.0 ≡ caller → ⊥) → part_of caller (put x l) ≡ part_of caller l
put_other caller x [] ne = other_part caller x [] ne
put_other caller x (y ∷ l) ne = go (precedes x y) (put_other caller x l ne)
  where
    go : (b : Bool) → part_of caller (put x l) ≡ part_of caller l → part_of caller (if b then x ∷ y ∷ l else y ∷ put x l) ≡ part_of caller (y ∷ l)
    go true rest = other_part caller x (y ∷ l) ne
    go false rest = ap (λ es. if y.0 == caller then y.1 ∷ es else es) rest

all_other : (caller other : ℕ) (es : List Entry) (l : History) → (other ≡ caller → ⊥) → part_of caller (put_all other es l) ≡ part_of caller l
all_other caller other [] l ne = refl
all_other caller other (e ∷ es) l ne = all_other caller other es (put (other, e) l) ne ∙ put_other caller (other, e) l ne

each_other : (caller first : ℕ) (lists : List (List Entry)) (l : History) → caller < first → part_of caller (put_each first lists l) ≡ part_of caller l
each_other caller first [] l less = refl
each_other caller first (es ∷ lists) l less =
    each_other caller (suc first) lists (put_all first es l) (omega arith) ∙ all_other caller first es l (λ e. omega arith)

part_parts : (caller : ℕ) (xs ys : History) → part_of caller (xs ++ ys) ≡ part_of caller xs ++ part_of caller ys
part_parts caller [] ys = refl
part_parts caller (x ∷ xs) ys = go (x.0 == caller) (part_parts caller xs ys)
  where
    go : (b : Bool) → part_of caller (xs ++ ys) ≡ part_of caller xs ++ part_of caller ys
        → (if b then x.1 ∷ part_of caller (xs ++ ys) else part_of caller (xs ++ ys)) ≡ (if b then x.1 ∷ part_of caller xs else part_of caller xs) ++ part_of caller ys
    go true rest = ap (λ es. x.1 ∷ es) rest
    go false rest = rest

right_holds : (P : Entry → Type 0) (xs ys : List Entry) → AllByRecursion P (xs ++ ys) → AllByRecursion P ys
right_holds P [] ys a = a
right_holds P (x ∷ xs) ys a = right_holds P xs ys a.1

-- where all entries go after e, none is the caller's own of no higher place
none_own : (caller : ℕ) (e : Entry) (l : History) → AllByRecursion (λ z. precedes (caller, e) z ≡ true) l → AllByRecursion (λ d. place d ≤ place e) (part_of caller l) → part_of caller l ≡ []
none_own caller e [] a p = refl
none_own caller e (y ∷ l) a p = go (cases_eq y.0 caller) (λ q. none_own caller e l a.1 q)
  where
    go : (y.0 ≡ caller) ⊎ (y.0 ≡ caller → ⊥) → (AllByRecursion (λ d. place d ≤ place e) (part_of caller l) → part_of caller l ≡ []) → part_of caller (y ∷ l) ≡ []
    go (inl same) rest =
        let low : place y.1 ≤ place e = (subst (AllByRecursion (λ d. place d ≤ place e)) (own_part caller y l same) p).0 in
        let whole : (caller, y.1) ≡ y = (λ i. (sym same i, y.1)) in
        absurd (both_ways (precedes (caller, e) y) (subst (λ z. precedes (caller, e) z ≡ false) whole (own_goes_before caller y.1 e low)) a.0)
    go (inr ne) rest = other_part caller y l ne ∙ rest (subst (AllByRecursion (λ d. place d ≤ place e)) (other_part caller y l ne) p)

-- an own entry goes to the end of the caller's part, where no place of it is higher
put_own : (caller : ℕ) (e : Entry) (l : History) → InOrder l → AllByRecursion (λ d. place d ≤ place e) (part_of caller l) → part_of caller (put (caller, e) l) ≡ part_of caller l ++ e ∷ []
put_own caller e l order low =
    let x : ℕ × Entry = (caller, e) in
    let split : part_of caller l ≡ part_of caller (earlier x l) ++ part_of caller (later x l) = ap (part_of caller) (sym (parts x l)) ∙ part_parts caller (earlier x l) (later x l) in
    let none : part_of caller (later x l) ≡ [] = none_own caller e (later x l) (later_each x l order)
    (right_holds (λ d. place d ≤ place e) (part_of caller (earlier x l)) (part_of caller (later x l)) (subst (AllByRecursion (λ d. place d ≤ place e)) split low)) in
    let before : part_of caller l ≡ part_of caller (earlier x l) = split ∙ ap (λ es. part_of caller (earlier x l) ++ es) none ∙ append-nil (part_of caller (earlier x l)) in
    ap (part_of caller) (put_between x l) ∙ part_parts caller (earlier x l) (x ∷ later x l)
    ∙ ap (λ es. part_of caller (earlier x l) ++ es) (own_part caller x (later x l) refl ∙ ap (λ es. e ∷ es) none)
    ∙ ap (λ es. es ++ e ∷ []) (sym before)

falls_before : (ds : List Entry) (e : Entry) (es : List Entry) → NeverFalls (ds ++ e ∷ es) → AllByRecursion (λ d. place d ≤ place e) ds
falls_before [] e es n = tt
falls_before (d ∷ ds) e es n = ((right_holds (λ c. place d ≤ place c) ds (e ∷ es) n.0).0, falls_before ds e es n.1)

all_own : (caller : ℕ) (es : List Entry) (l : History) → InOrder l → NeverFalls (part_of caller l ++ es) → part_of caller (put_all caller es l) ≡ part_of caller l ++ es
all_own caller [] l order n = sym (append-nil (part_of caller l))
all_own caller (e ∷ es) l order n =
    let one : part_of caller (put (caller, e) l) ≡ part_of caller l ++ e ∷ [] = put_own caller e l order (falls_before (part_of caller l) e es n) in
    let all : part_of caller (put (caller, e) l) ++ es ≡ part_of caller l ++ e ∷ es = ap (λ ds. ds ++ es) one ∙ append_assoc (part_of caller l) (e ∷ []) es in
    all_own caller es (put (caller, e) l) (put_in_order (caller, e) l order) (subst NeverFalls (sym all) n) ∙ all

own_from : (first k : ℕ) (lists : List (List Entry)) (l : History) → InOrder l → part_of (first + k) l ≡ [] → NeverFalls (entries_of lists k)
    → part_of (first + k) (put_each first lists l) ≡ entries_of lists k
own_from first k [] l order none n = none
own_from first zero (es ∷ lists) l order none n =
    let here : first + 0 ≡ first = omega arith in
    let empty_part : part_of first l ≡ [] = ap (λ (c : ℕ). part_of c l) (sym here) ∙ none in
    ap (λ (c : ℕ). part_of c (put_each (suc first) lists (put_all first es l))) here
    ∙ each_other first (suc first) lists (put_all first es l) (omega arith)
    ∙ all_own first es l order (subst (λ ds. NeverFalls (ds ++ es)) (sym empty_part) n)
    ∙ ap (λ ds. ds ++ es) empty_part
own_from first (suc k) (es ∷ lists) l order none n =
    let here : first + suc k ≡ suc first + k = omega arith in
    let empty_part : part_of (suc first + k) (put_all first es l) ≡ [] =
    all_other (suc first + k) first es l (λ e. omega arith) ∙ ap (λ (c : ℕ). part_of c l) (sym here) ∙ none in
    ap (λ (c : ℕ). part_of c (put_each (suc first) lists (put_all first es l))) here
    ∙ own_from (suc first) k lists (put_all first es l) (all_in_order first es l order) empty_part n

pub own_order_stays : (lists : List (List Entry)) (caller : ℕ) → NeverFalls (entries_of lists caller) → part_of caller (chronicle lists) ≡ entries_of lists caller
own_order_stays lists caller n =
    let here : 0 + caller ≡ caller = omega arith in
    ap (λ (c : ℕ). part_of c (chronicle lists)) (sym here) ∙ own_from 0 caller lists [] tt refl n

-- the roots of a caller after an entry of its own, and of another
roots_own : (s : TermSet) (caller : ℕ) (e : Entry) → (after s caller e).roots caller ≡ roots_after (s.roots caller) e
roots_own s caller (Make number head args row) = refl
roots_own s caller (Find seen head args row) = refl
roots_own s caller (Roots seen names) = cond-true (caller == caller) names (s.roots caller) (eq-eqb caller caller refl)
roots_own s caller (Collect number kept) = refl

roots_other : (s : TermSet) (other : ℕ) (e : Entry) (caller : ℕ) → (other ≡ caller → ⊥) → (after s other e).roots caller ≡ s.roots caller
roots_other s other (Make number head args row) caller ne = refl
roots_other s other (Find seen head args row) caller ne = refl
roots_other s other (Roots seen names) caller ne = cond-false (caller == other) names (s.roots caller) (ne_eqb caller other (λ e. ne (sym e)))
roots_other s other (Collect number kept) caller ne = refl

pub roots_are_last : (s : TermSet) (l : History) (caller : ℕ) → (left_by s l).roots caller ≡ last_roots (s.roots caller) (part_of caller l)
roots_are_last s [] caller = refl
roots_are_last s (y ∷ l) caller = go (cases_eq y.0 caller) (roots_are_last (after s y.0 y.1) l caller)
  where
    go : (y.0 ≡ caller) ⊎ (y.0 ≡ caller → ⊥) → (left_by (after s y.0 y.1) l).roots caller ≡ last_roots ((after s y.0 y.1).roots caller) (part_of caller l)
        → (left_by (after s y.0 y.1) l).roots caller ≡ last_roots (s.roots caller) (part_of caller (y ∷ l))
    go (inl same) rest =
        rest ∙ ap (λ r. last_roots r (part_of caller l)) (ap (λ (c : ℕ). (after s c y.1).roots caller) same ∙ roots_own s caller y.1)
        ∙ ap (last_roots (s.roots caller)) (sym (own_part caller y l same))
    go (inr ne) rest =
        rest ∙ ap (λ r. last_roots r (part_of caller l)) (roots_other s y.0 y.1 caller ne)
        ∙ ap (last_roots (s.roots caller)) (sym (other_part caller y l ne))
