-- The lines that are values, and their traces, one after another.
use Rattle.std.proofs.Common.{◌≡◌, ℕ, zero, suc, ◌+◌, ◌<◌, ◌≤◌, Bool, true, false, cond, eqb, List, [], ◌∷◌, ◌++◌, length, take, drop, get_or, Some, None, Bor, refl, sym, ap, ◌∙◌, arith, append_assoc, append-nil}
use Rattle.std.specs.Prelude.{map, is_some}
use Rattle.std.proofs.lemmas.List.{map-append, drop_more, drop_all}
use Rattle.log_check.specs.Words.{lines, before_first}
use Rattle.run_checks.specs.Form.{trace_in, is_no_value, values_from, is_end, wrong_from}
use Rattle.run_checks.specs.Refusing.{IsCut}

values_by : (i : ℕ) (l : List ℕ) (ls : List (List ℕ)) (c : Bool) → is_no_value l ≡ c → values_from i (l ∷ ls) ≡ cond c (values_from (i + 1) ls) (i ∷ values_from (i + 1) ls)
values_by i l ls c e = ap (λ b. cond b (values_from (i + 1) ls) (i ∷ values_from (i + 1) ls)) e

at_line : (ls : List (List ℕ)) (i : ℕ) (l d : List ℕ) → i < length ls → l ≡ get_or ls i d → drop i ls ≡ l ∷ drop (i + 1) ls
at_line ls i l d lt at = drop_more ls i d lt ∙ ap (λ y. y ∷ drop (i + 1) ls) (sym at)

pub no_value_here : (ls : List (List ℕ)) (i : ℕ) (l d : List ℕ) → i < length ls → l ≡ get_or ls i d → is_no_value l ≡ true → values_from i (drop i ls) ≡ values_from (i + 1) (drop (i + 1) ls)
no_value_here ls i l d lt at e = ap (values_from i) (at_line ls i l d lt at) ∙ values_by i l (drop (i + 1) ls) true e

pub value_here : (ls : List (List ℕ)) (i : ℕ) (l d : List ℕ) → i < length ls → l ≡ get_or ls i d → is_no_value l ≡ false → values_from i (drop i ls) ≡ i ∷ values_from (i + 1) (drop (i + 1) ls)
value_here ls i l d lt at e = ap (values_from i) (at_line ls i l d lt at) ∙ values_by i l (drop (i + 1) ls) false e

pub no_values_left : (ls : List (List ℕ)) (i : ℕ) → length ls ≤ i → values_from i (drop i ls) ≡ []
no_values_left ls i le = ap (values_from i) (drop_all i ls le)

-- ---- traces

pub trace_here : (place i : ℕ) (more : List ℕ) (ls rest : List (List ℕ)) (l : List ℕ) → ls ≡ l ∷ rest → is_some (trace_in i l) ≡ true → wrong_from place (i ∷ more) ls ≡ wrong_from (place + 1) more rest
trace_here place i more ls rest l is e = ap (wrong_from place (i ∷ more)) is ∙ ap (λ b. cond b (wrong_from (place + 1) more rest) (Some place)) e

pub no_trace_here : (place i : ℕ) (more : List ℕ) (ls rest : List (List ℕ)) (l : List ℕ) → ls ≡ l ∷ rest → is_some (trace_in i l) ≡ false → wrong_from place (i ∷ more) ls ≡ Some place
no_trace_here place i more ls rest l is e = ap (wrong_from place (i ∷ more)) is ∙ ap (λ b. cond b (wrong_from (place + 1) more rest) (Some place)) e

pub end_here : (place : ℕ) (ls : List (List ℕ)) (l : List ℕ) → ls ≡ l ∷ [] → is_end l ≡ true → wrong_from place [] ls ≡ None
end_here place ls l is e = ap (wrong_from place []) is ∙ ap (λ b. cond b None (Some place)) e

pub no_end_here : (place : ℕ) (ls rest : List (List ℕ)) (l : List ℕ) → ls ≡ l ∷ rest → is_end l ≡ false → wrong_from place [] ls ≡ Some place
no_end_here place ls rest l is e = ap (wrong_from place []) is ∙ go rest
  where
    go : (rest : List (List ℕ)) → wrong_from place [] (l ∷ rest) ≡ Some place
    go [] = ap (λ b. cond b None (Some place)) e
    go (m ∷ rest) = ap (λ b. cond b (Some (place + 1)) (Some place)) e

pub more_than_end : (place : ℕ) (ls rest : List (List ℕ)) (l : List ℕ) (n : ℕ) → ls ≡ l ∷ rest → is_end l ≡ true → length rest ≡ suc n → wrong_from place [] ls ≡ Some (place + 1)
more_than_end place ls [] l n is e s = absurd (omega arith)
more_than_end place ls (m ∷ rest) l n is e s = ap (wrong_from place []) is ∙ ap (λ b. cond b (Some (place + 1)) (Some place)) e

-- ---- the lines of the terms

pub take_front : {X : Type 0} (xs ys : List X) (n : ℕ) → length xs ≡ n → take n (xs ++ ys) ≡ xs
take_front [] [] zero e = refl
take_front [] (y ∷ ys) zero e = refl
take_front [] ys (suc n) e = absurd (omega arith)
take_front (x ∷ xs) ys zero e = absurd (omega arith)
take_front (x ∷ xs) ys (suc n) e = ap (λ zs. x ∷ zs) (take_front xs ys n (omega arith))

drop_front : {X : Type 0} (xs ys : List X) (n : ℕ) → length xs ≡ n → drop n (xs ++ ys) ≡ ys
drop_front [] ys zero e = refl
drop_front [] ys (suc n) e = absurd (omega arith)
drop_front (x ∷ xs) ys zero e = absurd (omega arith)
drop_front (x ∷ xs) ys (suc n) e = drop_front xs ys n (omega arith)

pub cut_take : (count : ℕ) (ls first others : List (List ℕ)) → IsCut count ls first others → take count ls ≡ first
cut_take count ls first others c = ap (take count) c.whole ∙ take_front first others count c.size

pub cut_drop : (count : ℕ) (ls first others : List (List ℕ)) → IsCut count ls first others → drop count ls ≡ others
cut_drop count ls first others c = ap (drop count) c.whole ∙ drop_front first others count c.size

-- ---- more than the end

lines_none : (bytes : List ℕ) → lines bytes ≡ [] → bytes ≡ []
lines_none [] e = refl
lines_none (b ∷ bs) e = go (eqb b 10) (lines bs) e
  where
    go : (c : Bool) (ls : List (List ℕ)) → cond c ([] ∷ ls) (before_first b ls) ≡ [] → b ∷ bs ≡ []
    go true ls h = absurd cc
    go false [] h = absurd cc
    go false (l ∷ ls) h = absurd cc

pub surplus : (place : ℕ) (ls : List (List ℕ)) (l after : List ℕ) → ls ≡ l ∷ lines after → is_end l ≡ true → (after ≡ [] → ⊥) → wrong_from place [] ls ≡ Some (place + 1)
surplus place ls l after is e more = go (lines after) refl is
  where
    go : (rest : List (List ℕ)) → lines after ≡ rest → ls ≡ l ∷ rest → wrong_from place [] ls ≡ Some (place + 1)
    go [] n i = absurd (more (lines_none after n))
    go (m ∷ rest) n i = ap (wrong_from place []) i ∙ ap (λ b. cond b (Some (place + 1)) (Some place)) e

-- ---- the lines that were taken

abbrev pub seen_lines : List (Bor (List ℕ)) → List (List ℕ)
seen_lines taken = map (λ l. l.now) taken

pub count_taken : (taken : List (Bor (List ℕ))) → length (seen_lines taken) ≡ length taken
count_taken [] = refl
count_taken (l ∷ ls) = let n = count_taken ls in omega (arith, n)

pub line_taken : (ls rest more : List (List ℕ)) (taken pushed : List (Bor (List ℕ))) (l : Bor (List ℕ)) → ls ≡ seen_lines taken ++ rest → rest ≡ l.now ∷ more → pushed ≡ taken ++ l ∷ [] → ls ≡ seen_lines pushed ++ more
line_taken ls rest more taken pushed l whole next is =
    whole
    ∙ ap (λ (xs : List (List ℕ)). seen_lines taken ++ xs) next
    ∙ sym (append_assoc (seen_lines taken) (l.now ∷ []) more)
    ∙ ap (λ (xs : List (List ℕ)). xs ++ more) (sym (map-append (λ (m : Bor (List ℕ)). m.now) taken (l ∷ [])))
    ∙ ap (λ (xs : List (Bor (List ℕ))). seen_lines xs ++ more) (sym is)

pub none_follows : (ls rest : List (List ℕ)) (taken : List (Bor (List ℕ))) → ls ≡ seen_lines taken ++ rest → rest ≡ [] → length ls ≡ length taken
none_follows ls rest taken whole none =
    ap (λ (xs : List (List ℕ)). length xs) (whole ∙ ap (λ (xs : List (List ℕ)). seen_lines taken ++ xs) none ∙ append-nil (seen_lines taken)) ∙ count_taken taken

pub taken_at : (taken : List (Bor (List ℕ))) (i : ℕ) (d : Bor (List ℕ)) → i < length taken → (get_or taken i d).now ≡ get_or (seen_lines taken) i []
taken_at [] i d lt = absurd (omega arith)
taken_at (l ∷ ls) zero d lt = refl
taken_at (l ∷ ls) (suc i) d lt = taken_at ls i d (omega arith)

pub value_taken : (taken : List (Bor (List ℕ))) (i : ℕ) (d : Bor (List ℕ)) → i < length taken → is_no_value (get_or taken i d).now ≡ false → values_from i (drop i (seen_lines taken)) ≡ i ∷ values_from (i + 1) (drop (i + 1) (seen_lines taken))
value_taken taken i d lt e = value_here (seen_lines taken) i (get_or taken i d).now [] (let n = count_taken taken in omega (arith, n, lt)) (taken_at taken i d lt) e

pub no_value_taken : (taken : List (Bor (List ℕ))) (i : ℕ) (d : Bor (List ℕ)) → i < length taken → is_no_value (get_or taken i d).now ≡ true → values_from i (drop i (seen_lines taken)) ≡ values_from (i + 1) (drop (i + 1) (seen_lines taken))
no_value_taken taken i d lt e = no_value_here (seen_lines taken) i (get_or taken i d).now [] (let n = count_taken taken in omega (arith, n, lt)) (taken_at taken i d lt) e
