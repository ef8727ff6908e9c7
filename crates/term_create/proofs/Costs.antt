-- The steps of a creation, added up. W is how many arguments a row has room for.
use Rattle.std.proofs.Common.{◌≡◌, ℕ, zero, suc, ◌+◌, ◌*◌, ◌<◌, ◌≤◌, Bool, false, cond, Option, Result, Ok, Err, eqb, ap, ◌∙◌, subst, arith}
use Rattle.std.specs.Prelude.{MatchResult}
use Rattle.std.proofs.Math.Nat.{suc-mul, mul_comm, mul-le-mul_right}
use Rattle.store_model.specs.declared.view.Content.{Content}
use Rattle.store_model.specs.declared.view.Call.TheVariants.{Comparing}
use Rattle.store_model.specs.Machine.{arrived, ended}
use Rattle.node_rows.specs.Steps.{Few}

times_plus : (R W k : ℕ) → R * (W + k) ≡ R * W + R * k
times_plus zero W k = omega arith
times_plus (suc R) W k = let a = suc-mul R (W + k) in let b = suc-mul R W in let c = suc-mul R k in let h = times_plus R W k in omega arith

-- the whole creation, after the load that begins it
pub whole_cost : (W R n s m : ℕ) → s ≡ n + 1 → m ≤ s + (2 * (R + 1) + (W + 7) + R * (W + 3)) → m ≤ n + (W + 8) * (R + 2)
whole_cost W R n s m e l =
    let a = times_plus R W 3 in
    let b = times_plus (W + 8) R 2 in
    let c = mul_comm (W + 8) R in
    let d = times_plus R W 8 in
    omega arith

-- a walk past one row more
pub walk_more : (W before n m c t p q : ℕ) → m + before * (W + 3) ≤ n + 0 + p * (W + 3) → c ≤ m + (W + 2) → t ≡ c + 1 → q ≡ suc p → t + before * (W + 3) ≤ n + 0 + q * (W + 3)
walk_more W before n m c t p q h l e is =
    let f : q * (W + 3) ≡ p * (W + 3) + (W + 3) = ap (λ (j : ℕ). j * (W + 3)) is ∙ suc-mul p (W + 3) in
    omega arith

-- a walk that has found the row, after fewer than there are
pub walk_found : (W R before n m c t p : ℕ) → m + before * (W + 3) ≤ n + 0 + p * (W + 3) → p < R → c ≤ m + (W + 2) → t ≡ c + 1 → t + before * (W + 3) ≤ n + 0 + R * (W + 3)
walk_found W R before n m c t p h below l e =
    let f : suc p * (W + 3) ≤ R * (W + 3) = mul-le-mul_right (W + 3) (let k : suc p ≤ R = omega arith in k) in
    let g = suc-mul p (W + 3) in
    omega arith

-- what is left for all rows
pub rest_cost : (W R n p : ℕ) → p ≤ R → n + 2 + p * (W + 3) ≤ n + 2 + R * (W + 3)
rest_cost W R n p l = let f : p * (W + 3) ≤ R * (W + 3) = mul-le-mul_right (W + 3) l in omega arith

-- a row was linked and published
pub made_cost : (W R n l m p : ℕ) → p ≤ R → l ≡ n + 1 → m ≡ l + 1 → m + p * (W + 3) ≤ n + 2 + R * (W + 3)
made_cost W R n l m p few a b = let f = rest_cost W R n p few in omega arith

-- the exchange was lost, and a walk followed, up to b passed rows
pub lost_cost : (W b n l k m p q : ℕ) → q ≡ p → l ≡ n + 1 → k ≡ l + 1 → m + q * (W + 3) ≤ k + 0 + b * (W + 3) → m + p * (W + 3) ≤ n + 2 + b * (W + 3)
lost_cost W b n l k m p q same a c h = let f = ap (λ (j : ℕ). j * (W + 3)) same in omega arith

-- a walk to the end of a chain, and then a row that was made, or none that was free
pub walked_cost : {A E : Type 0} → (W R n m k before p : ℕ) (r : Result A E) → p ≤ R → m + before * (W + 3) ≤ n + 0 + p * (W + 3)
    → MatchResult r (λ _. k + p * (W + 3) ≤ m + (W + 7 + 2 * (R + 1)) + R * (W + 3)) (λ _. k ≤ m + (W + 7)) → k ≤ n + (2 * (R + 1) + (W + 7) + R * (W + 3))
walked_cost W R n m k before p (Ok a) few h g = omega (arith, h, g)
walked_cost W R n m k before p (Err e) few h g = let f : p * (W + 3) ≤ R * (W + 3) = mul-le-mul_right (W + 3) few in omega (arith, h, g)

-- a row was drawn and stored, and then published or found
pub told_cost : (W R n m k p q b : ℕ) → q ≡ p → m ≤ n + (W + 7) → k + q * (W + 3) ≤ m + 2 * (R + 1) + b * (W + 3) → k + p * (W + 3) ≤ n + (W + 7 + 2 * (R + 1)) + b * (W + 3)
told_cost W R n m k p q b same l h = let f = ap (λ (j : ℕ). j * (W + 3)) same in omega arith

-- a walk that isn't at its end has passed fewer rows than there are
pub few_before : (N n : ℕ) (c : Content) (d : Option (ℕ × ℕ)) (from old at : ℕ) → eqb at old ≡ false → Few N n (arrived c d from old at) → n < N
few_before N n c d from old at e h = subst (λ (b : Bool). Few N n (cond b (ended c d from) (Comparing c d from old at 0))) e h
