-- Why the plain program's evaluation ends: fuel times the width of the rules, and what is left of
-- the patterns and rules at hand.
use Rattle.std.proofs.Common.{◌≡◌, ℕ, zero, suc, ◌+◌, ◌*◌, ◌<◌, ◌≤◌, List, [], ◌∷◌, length, get_or, drop, sym, ◌∙◌, ap, arith}
use Rattle.std.proofs.Math.Seq.{drop-cons}
use Rattle.std.proofs.Math.Nat.{mul-le-mul_right}
use Rattle.term_model.specs.Tree.{nodes}
use Rattle.rewrite_model.specs.Rule.{Rule, Condition}

abbrev pub sides : List Condition → ℕ
sides [] = 0
sides (c ∷ cs) = nodes c.first + nodes c.second + sides cs

abbrev pub weight : List Rule → ℕ
weight [] = 0
weight (r ∷ rs) = nodes r.right + sides r.conditions + weight rs

abbrev pub width : List Rule → ℕ
width rules = length rules + 4 + 2 * weight rules

pub cost : List Rule → ℕ → ℕ
cost rules fuel = fuel * width rules

pub cost_mono : (rules : List Rule) (m n : ℕ) → m ≤ n → cost rules m ≤ cost rules n
unfolding cost
cost_mono rules m n l = mul-le-mul_right (width rules) l

pub cost_step : (rules : List Rule) (m n : ℕ) → n ≡ suc m → cost rules n ≡ cost rules m + width rules
unfolding cost
cost_step rules m n e = ap (λ k. k * width rules) e ∙ omega arith

pub weight_at : (rules : List Rule) (i : ℕ) (r : Rule) → i < length rules → r ≡ get_or rules i r → nodes r.right + sides r.conditions ≤ weight rules
weight_at [] i r l e = absurd (omega arith)
weight_at (q ∷ rs) zero r l e =
    let a : nodes r.right ≡ nodes q.right = ap (λ (p : Rule). nodes p.right) e in
    let b : sides r.conditions ≡ sides q.conditions = ap (λ (p : Rule). sides p.conditions) e in
    omega (arith, a, b)
weight_at (q ∷ rs) (suc i) r l e = omega (arith, weight_at rs i r (omega arith) e)

pub dropped : {A : Type 0} (xs : List A) (i : ℕ) (x : A) → i < length xs → x ≡ get_or xs i x → drop i xs ≡ x ∷ drop (i + 1) xs
dropped {A} xs i x l e = drop-cons xs i x l ∙ ap (λ (y : A). y ∷ drop (suc i) xs) (sym e) ∙ ap (λ k. x ∷ drop k xs) (let h : suc i ≡ i + 1 = omega arith in h)

pub sides_at : (cs : List Condition) (i : ℕ) (c : Condition) → i < length cs → c ≡ get_or cs i c → sides (drop i cs) ≡ nodes c.first + nodes c.second + sides (drop (i + 1) cs)
sides_at cs i c l e = ap sides (dropped cs i c l e)
