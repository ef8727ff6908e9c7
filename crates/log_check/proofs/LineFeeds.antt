-- The lines of a text.
use Rattle.std.proofs.Common.{◌≡◌, ◌≢◌, ℕ, suc, List, [], ◌∷◌, ◌++◌, refl, ap, ◌∙◌, arith, cond, eq-eqb, ne_eqb}
use Rattle.log_check.specs.Words.{Lacks, lines, before_first}

lacks_head : (b x : ℕ) (xs : List ℕ) → Lacks b (x ∷ xs) → x ≢ b
lacks_head b x xs l = l 0 (omega arith)

lacks_rest : (b x : ℕ) (xs : List ℕ) → Lacks b (x ∷ xs) → Lacks b xs
lacks_rest b x xs l = λ k h. l (suc k) (omega arith)

pub first_line : (xs ys : List ℕ) → Lacks 10 xs → lines (xs ++ 10 ∷ ys) ≡ xs ∷ lines ys
first_line [] ys l = ap (λ b. cond b ([] ∷ lines ys) (before_first 10 (lines ys))) (eq-eqb 10 10 refl)
first_line (x ∷ xs) ys l =
    ap (λ b. cond b ([] ∷ lines (xs ++ 10 ∷ ys)) (before_first x (lines (xs ++ 10 ∷ ys)))) (ne_eqb x 10 (lacks_head 10 x xs l))
    ∙ ap (before_first x) (first_line xs ys (lacks_rest 10 x xs l))

last_line : (x : ℕ) (xs : List ℕ) → Lacks 10 (x ∷ xs) → lines (x ∷ xs) ≡ (x ∷ xs) ∷ []
last_line x [] l = ap (λ b. cond b ([] ∷ []) ((x ∷ []) ∷ [])) (ne_eqb x 10 (lacks_head 10 x [] l))
last_line x (y ∷ ys) l =
    ap (λ b. cond b ([] ∷ lines (y ∷ ys)) (before_first x (lines (y ∷ ys)))) (ne_eqb x 10 (lacks_head 10 x (y ∷ ys) l))
    ∙ ap (before_first x) (last_line y ys (lacks_rest 10 x (y ∷ ys) l))

pub only_line : (xs : List ℕ) → xs ≢ [] → Lacks 10 xs → lines xs ≡ xs ∷ []
only_line [] some l = absurd (some refl)
only_line (x ∷ xs) some l = last_line x xs l
