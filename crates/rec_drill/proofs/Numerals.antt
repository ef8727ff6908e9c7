-- A number in unary, cut at its `z`.
use Rattle.std.proofs.Common.{◌≡◌, ℕ, zero, suc, ◌+◌, ◌*◌, codes, List, [], ◌++◌, length, sym, ap, ◌∙◌, refl, append_assoc, length-append, arith}
use Rattle.rec_drill.specs.Drill.{numeral}

-- `s(`, so many times
abbrev pub opened : ℕ → List ℕ
opened zero = []
opened (suc k) = opened k ++ codes "s("

-- `)`, so many times
abbrev pub closed : ℕ → List ℕ
closed zero = []
closed (suc k) = closed k ++ codes ")"

-- the first `s(` in front is the last one behind
pub opened_in_front : (k : ℕ) → codes "s(" ++ opened k ≡ opened (suc k)
opened_in_front zero = refl
opened_in_front (suc k) = sym (append_assoc (codes "s(") (opened k) (codes "s(")) ∙ ap (λ (z : List ℕ). z ++ codes "s(") (opened_in_front k)

pub numeral_is : (k : ℕ) → numeral k ≡ opened k ++ (codes "z" ++ closed k)
numeral_is zero = refl
numeral_is (suc k) =
    let inner : List ℕ = codes "z" ++ closed k in
    ap (λ (w : List ℕ). codes "s(" ++ w ++ codes ")") (numeral_is k)
    ∙ (ap (λ (w : List ℕ). w ++ codes ")") (sym (append_assoc (codes "s(") (opened k) inner))
    ∙ (append_assoc (codes "s(" ++ opened k) inner (codes ")")
    ∙ (ap (λ (w : List ℕ). w ++ (inner ++ codes ")")) (opened_in_front k)
    ∙ ap (λ (w : List ℕ). opened (suc k) ++ w) (append_assoc (codes "z") (closed k) (codes ")")))))

pub numeral_length : (k : ℕ) → length (numeral k) ≡ 3 * k + 1
numeral_length zero = refl
numeral_length (suc k) =
    let inner = numeral_length k in
    let whole = length-append (codes "s(" ++ numeral k) (codes ")") in
    let front = length-append (codes "s(") (numeral k) in
    omega (arith, inner, whole, front)
