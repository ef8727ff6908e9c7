-- Sums over places and over numbers, and how many Collects a history has.
use Rattle.std.proofs.Common.{◌≡◌, inl, inr, ℕ, zero, suc, ◌+◌, ◌*◌, ◌<◌, ◌≤◌, Bool, true, false, cond, List, [], ◌∷◌, ◌++◌, length, refl, ap, arith, eq-eqb}
use Rattle.std.specs.Prelude.{Contains, Some, slice_get, ◌==◌, ◌&&◌}
use Rattle.std.specs.List.{flat_map}
use Rattle.std.proofs.Math.Nat.{mul-le-mul_right}
use Rattle.history_core.specs.declared.entry.Entry.{Entry}
use Rattle.history_core.specs.Entry.{is_collect, key}
use Rattle.history_core.specs.Chronicle.{History}
use Rattle.history_core.proofs.Members.{contains_here, contains_there}
use Rattle.store_model.specs.Bases.{StaysBelow, collect_numbers}
use Rattle.store_model.specs.Machine.{In}
use Rattle.worker_crew.specs.Dealt.{times}
use Rattle.worker_crew.proofs.Dealing.{hit, times_cons, hit_same}
use Rattle.shared_desk.specs.Telling.{collects_by}

-- g 0 + .. + g (n - 1)
abbrev pub total : ℕ → (ℕ → ℕ) → ℕ
total zero g = 0
total (suc n) g = g 0 + total n (λ k. g (suc k))

pub total_most : (n : ℕ) (g h : ℕ → ℕ) → ((k : ℕ) → k < n → g k ≤ h k) → total n g ≤ total n h
total_most zero g h le = omega arith
total_most (suc n) g h le =
    let a = le 0 (omega arith) in
    let b = total_most n (λ k. g (suc k)) (λ k. h (suc k)) (λ k lt. le (suc k) (omega (arith, lt))) in
    omega (arith, a, b)

pub total_more : (n : ℕ) (g : ℕ → ℕ) → total n (λ k. g k + 1) ≡ total n g + n
total_more zero g = refl
total_more (suc n) g = let a = total_more n (λ k. g (suc k)) in omega (arith, a)

-- one of them is by m greater
pub total_at : (n x m : ℕ) (g h : ℕ → ℕ) → x < n → m + g x ≤ h x → ((k : ℕ) → k < n → g k ≤ h k) → m + total n g ≤ total n h
total_at zero x m g h lt at le = absurd (omega (arith, lt))
total_at (suc n) zero m g h lt at le =
    let b = total_most n (λ k. g (suc k)) (λ k. h (suc k)) (λ k l. le (suc k) (omega (arith, l))) in
    omega (arith, at, b)
total_at (suc n) (suc x) m g h lt at le =
    let a = le 0 (omega arith) in
    let b = total_at n x m (λ k. g (suc k)) (λ k. h (suc k)) (omega (arith, lt)) at (λ k l. le (suc k) (omega (arith, l))) in
    omega (arith, a, b)

-- f x for each x of a list
abbrev pub weigh : (ℕ → ℕ) → List ℕ → ℕ
weigh f [] = 0
weigh f (x ∷ xs) = f x + weigh f xs

pub weigh_append : (f : ℕ → ℕ) (xs ys : List ℕ) → weigh f (xs ++ ys) ≡ weigh f xs + weigh f ys
weigh_append f [] ys = omega arith
weigh_append f (x ∷ xs) ys = let a = weigh_append f xs ys in omega (arith, a)

pub weigh_hands : (f : ℕ → ℕ) (hands : List (List ℕ)) (g : ℕ → ℕ) → ((k : ℕ) (hand : List ℕ) → slice_get hands k ≡ Some hand → g k ≤ weigh f hand) → total (length hands) g ≤ weigh f (flat_map (λ hand. hand) hands)
weigh_hands f [] g each = omega arith
weigh_hands f (hand ∷ hands) g each =
    let a = each 0 hand refl in
    let b = weigh_hands f hands (λ k. g (suc k)) (λ k h at. each (suc k) h at) in
    let c = weigh_append f hand (flat_map (λ h. h) hands) in
    omega (arith, a, b, c)

more_often : (a b c : ℕ) → (1 + a) * c ≡ c + a * c
more_often a b c = grind arith

zero_or_more : (a b c : ℕ) → b ≡ a + c → (d : ℕ) → c * d ≤ b * d
zero_or_more a b c e d = mul-le-mul_right d (omega (arith, e))

once_most : (t c : ℕ) → t ≤ 1 → t * c ≤ c
once_most t c le = let a = mul-le-mul_right c le in let b : 1 * c ≡ c = omega arith in omega (arith, a, b)

-- each number as often as it is in the list
weigh_times : (n : ℕ) (f : ℕ → ℕ) (xs : List ℕ) → ((x : ℕ) → 0 < times x xs → x < n) → weigh f xs ≤ total n (λ i. times i xs * f i)
weigh_times n f [] below = omega arith
weigh_times n f (x ∷ xs) below =
    let here : times x (x ∷ xs) ≡ 1 + times x xs = (let a = times_cons x x xs in let b = hit_same x in omega (arith, a, b)) in
    let rest = weigh_times n f xs (λ y lt. below y (let a = times_cons y x xs in omega (arith, a, lt))) in
    let at : f x + times x xs * f x ≤ times x (x ∷ xs) * f x = (let a = ap (λ k. k * f x) here in let b = more_often (times x xs) 0 (f x) in omega (arith, a, b)) in
    let all = total_at n x (f x) (λ i. times i xs * f i) (λ i. times i (x ∷ xs) * f i) (below x (omega (arith, here))) at
    (λ k lt. zero_or_more (hit k x) (times k (x ∷ xs)) (times k xs) (times_cons k x xs) (f k)) in
    omega (arith, rest, all)

-- numbers below n, none of them twice
pub weigh_once : (n : ℕ) (f : ℕ → ℕ) (xs : List ℕ) → ((x : ℕ) → 0 < times x xs → x < n) → ((i : ℕ) → times i xs ≤ 1) → weigh f xs ≤ total n f
weigh_once n f xs below once =
    let a = weigh_times n f xs below in
    let b = total_most n (λ i. times i xs * f i) f (λ k lt. once_most (times k xs) (f k) (once k)) in
    omega (arith, a, b)

-- ---- Collects
here_counts : (b : Bool) (n m : ℕ) → (cond (n == n && b) 1 0) + m ≡ (cond b 1 0) + m
here_counts b n m = ap (λ (q : Bool). (cond (q && b) 1 0) + m) (eq-eqb n n refl)

numbers_long : (b : Bool) (n : ℕ) (ns : List ℕ) → length (cond b (n ∷ ns) ns) ≡ (cond b 1 0) + length ns
numbers_long true n ns = omega arith
numbers_long false n ns = omega arith

-- there are no more than all callers have
pub collects_most : (n : ℕ) (l : History) → ((y : ℕ × Entry) → Contains l y → y.0 < n) → length (collect_numbers l) ≤ total n (λ k. collects_by k l)
collects_most n [] below = omega arith
collects_most n (x ∷ xs) below =
    let long = numbers_long (is_collect x.1) (key x.1) (collect_numbers xs) in
    let rest = collects_most n xs (λ y c. below y (contains_there x xs y c)) in
    let all = total_at n x.0 (cond (is_collect x.1) 1 0) (λ k. collects_by k xs) (λ k. collects_by k (x ∷ xs)) (below x (contains_here x xs))
    (let e = here_counts (is_collect x.1) x.0 (collects_by x.0 xs) in omega (arith, e)) (λ k lt. omega arith) in
    omega (arith, long, rest, all)

-- ---- the number of a collection
pub stays_most : (first wide c top : ℕ) (ns : List ℕ) (n : ℕ) → StaysBelow first wide c ns → c + length ns ≤ top + 1 → In n ns → n + 1 ≤ first + top * wide
stays_most first wide c top [] n h le i = absurd i
stays_most first wide c top (x ∷ ns) n h le (inl e) =
    let a : c * wide ≤ top * wide = mul-le-mul_right wide (omega (arith, le)) in
    let b = h.0 in
    omega (arith, a, b, e)
stays_most first wide c top (x ∷ ns) n h le (inr i) = stays_most first wide (suc c) top ns n h.1 (omega (arith, le)) i
