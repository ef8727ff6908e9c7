-- Bytes at the first separator, and the lines of a text.
use Rattle.std.proofs.Common.{◌≡◌, ◌≢◌, ℕ, zero, suc, ◌<◌, List, [], ◌∷◌, ◌++◌, length, get_or, refl, sym, ap, ◌∙◌, arith, cond, eq-eqb, ne_eqb, eqb, Bool, true, false}
use Rattle.lock_core.specs.Lines.{Lacks}
use Rattle.lock_core.specs.Schedule.{lines, before_lines}

lacks_head : (b x : ℕ) (xs : List ℕ) → Lacks b (x ∷ xs) → x ≢ b
lacks_head b x xs l = l 0 (omega arith)

lacks_rest : (b x : ℕ) (xs : List ℕ) → Lacks b (x ∷ xs) → Lacks b xs
lacks_rest b x xs l = λ k h. l (suc k) (omega arith)

-- the parts before and after the first separator are the only ones
pub same_parts : (b : ℕ) (xs ys us vs : List ℕ) → Lacks b xs → Lacks b us → xs ++ b ∷ ys ≡ us ++ b ∷ vs → (xs ≡ us) × (ys ≡ vs)
same_parts b [] ys [] vs l m e = (refl, cc)
same_parts b [] ys (u ∷ us) vs l m e = let h : u ≡ b = cc in absurd (lacks_head b u us m h)
same_parts b (x ∷ xs) ys [] vs l m e = let h : x ≡ b = cc in absurd (lacks_head b x xs l h)
same_parts b (x ∷ xs) ys (u ∷ us) vs l m e =
    let t : xs ++ b ∷ ys ≡ us ++ b ∷ vs = cc in let s = same_parts b xs ys us vs (lacks_rest b x xs l) (lacks_rest b u us m) t in
    let first = s.0 in (cc, s.1)

-- a text with a separator doesn't lack it
pub not_lacking : (b : ℕ) (xs ys : List ℕ) → Lacks b (xs ++ b ∷ ys) → ⊥
not_lacking b [] ys l = lacks_head b b ys l refl
not_lacking b (x ∷ xs) ys l = not_lacking b xs ys (lacks_rest b x (xs ++ b ∷ ys) l)

pub first_line : (xs ys : List ℕ) → Lacks 10 xs → lines (xs ++ 10 ∷ ys) ≡ xs ∷ lines ys
first_line [] ys l = ap (λ b. cond b ([] ∷ lines ys) (before_lines 10 (lines ys))) (eq-eqb 10 10 refl)
first_line (x ∷ xs) ys l =
    ap (λ b. cond b ([] ∷ lines (xs ++ 10 ∷ ys)) (before_lines x (lines (xs ++ 10 ∷ ys)))) (ne_eqb x 10 (lacks_head 10 x xs l))
    ∙ ap (before_lines x) (first_line xs ys (lacks_rest 10 x xs l))

pub last_line : (x : ℕ) (xs : List ℕ) → Lacks 10 (x ∷ xs) → lines (x ∷ xs) ≡ (x ∷ xs) ∷ []
last_line x [] l = ap (λ b. cond b ([] ∷ []) ((x ∷ []) ∷ [])) (ne_eqb x 10 (lacks_head 10 x [] l))
last_line x (y ∷ ys) l =
    ap (λ b. cond b ([] ∷ lines (y ∷ ys)) (before_lines x (lines (y ∷ ys)))) (ne_eqb x 10 (lacks_head 10 x (y ∷ ys) l))
    ∙ ap (before_lines x) (last_line y ys (lacks_rest 10 x (y ∷ ys) l))

-- a test that the check computes
abbrev pub is_without : ℕ → List ℕ → Bool
is_without b [] = true
is_without b (x ∷ xs) = cond (eqb x b) false (is_without b xs)

without_rest : (b x : ℕ) (xs : List ℕ) (t : Bool) → eqb x b ≡ t → cond t false (is_without b xs) ≡ true → (x ≢ b) × (is_without b xs ≡ true)
without_rest b x xs true e h = absurd (grind arith)
without_rest b x xs false e h = ((λ s. let f : false ≡ true = sym e ∙ eq-eqb x b s in absurd (grind arith)), h)

pub lacks_by : (b : ℕ) (xs : List ℕ) → is_without b xs ≡ true → Lacks b xs
lacks_by b [] e = λ k h. absurd (omega arith)
lacks_by b (x ∷ xs) e = let p = without_rest b x xs (eqb x b) refl e in
    λ k. elim k as (λ (k : ℕ). k < length (x ∷ xs) → get_or (x ∷ xs) k 0 ≢ b) [ zero ↦ λ _. p.0 | suc k ↦ λ h. lacks_by b xs p.1 k (omega arith) ]

pub only_line : (xs : List ℕ) → xs ≢ [] → Lacks 10 xs → lines xs ≡ xs ∷ []
only_line [] some l = absurd (some refl)
only_line (x ∷ xs) some l = last_line x xs l

lacks_cons : (b x : ℕ) (xs : List ℕ) → x ≢ b → Lacks b xs → Lacks b (x ∷ xs)
lacks_cons b x xs ne l k = elim k as (λ (k : ℕ). k < length (x ∷ xs) → get_or (x ∷ xs) k 0 ≢ b) [ zero ↦ λ _. ne | suc k ↦ λ h. l k (omega arith) ]

pub lacks_end : (b x : ℕ) (xs : List ℕ) → Lacks b xs → x ≢ b → Lacks b (xs ++ x ∷ [])
lacks_end b x [] l ne = lacks_cons b x [] ne l
lacks_end b x (y ∷ xs) l ne = lacks_cons b y (xs ++ x ∷ []) (lacks_head b y xs l) (lacks_end b x xs (lacks_rest b y xs l) ne)
