-- Where the nodes of a term stand, one after another.
use Rattle.std.proofs.Common.{◌≡◌, ℕ, zero, suc, ◌+◌, ◌-◌, ◌<◌, ◌≤◌, List, [], ◌∷◌, ◌++◌, length, take, drop, get_or, min, refl, sym, ◌∙◌, ap, arith, subst, append_assoc, append-nil, Bool, true, false, inl, inr}
use Rattle.std.specs.Prelude.{replicate, if◌then◌else◌, nat_lt}
use Rattle.std.proofs.lemmas.Bool.{ltb-true, ltb-false}
use Rattle.std.proofs.lemmas.List.{length-append, length-take-le, length_push, take-append-drop, take_at, get_or_at, get_or-append_right, replicate_more}
use Rattle.term_model.specs.Tree.{Tree, Leaf, Node, Trees, End, More, count_of, is_ground, all_ground, IsGround}
use Rattle.term_model.proofs.Order.{both_hold}
use Rattle.rule_code.specs.declared.step.Step.{Step}
use Rattle.rule_code.specs.declared.step.Step.TheVariants.{Bound, Over, Test, Chosen, Last, Give}
use Rattle.rule_code.specs.Code.{further, code, code_all}
use Rattle.innermost.specs.Whole.{place_in}
use Rattle.innermost.proofs.Fitting.{further_cases}

-- so many numbers after one
abbrev pub counted : ℕ → ℕ → List ℕ
counted t zero = []
counted t (suc n) = (t + 1) ∷ counted (t + 1) n

pub length-counted : (t n : ℕ) → length (counted t n) ≡ n
length-counted t zero = refl
length-counted t (suc n) = ap (λ k. suc k) (length-counted (t + 1) n)

counted_at : (n t i : ℕ) → i < n → get_or (counted t n) i 0 ≡ t + 1 + i
counted_at zero t i l = absurd (omega (arith, l))
counted_at (suc n) t zero l = omega arith
counted_at (suc n) t (suc i) l = let h = counted_at n (t + 1) i (omega (arith, l)) in omega (arith, h)

abbrev pub total : List ℕ → ℕ
total [] = 0
total (x ∷ xs) = x + total xs

pub total-append : (xs ys : List ℕ) → total (xs ++ ys) ≡ total xs + total ys
total-append [] ys = omega arith
total-append (x ∷ xs) ys = let h = total-append xs ys in omega (arith, h)

pub total-ones : (n : ℕ) → total (replicate n 1) ≡ n
total-ones zero = refl
total-ones (suc n) = let h = total-ones n in omega (arith, h)

-- How far down the values stand, the true number where the code has the greatest.
abbrev pub Placed : List Step → List ℕ → Type 0
Placed [] ds = ds ≡ 0 ∷ []
Placed (Bound x d ∷ is) ds = ⊥
Placed (Over h n d ∷ is) ds = (t : ℕ) × (front : List ℕ) × (d ≡ min 4294967295 t) × (ds ≡ front ++ counted t n) × Placed is (front ++ t ∷ [])
Placed (Test e ∷ is) ds = ⊥
Placed (Chosen ∷ is) ds = ⊥
Placed (Last h n ∷ is) ds = ⊥
Placed (Give x ∷ is) ds = ⊥

further_is : (t : ℕ) → further (min 4294967295 t) ≡ min 4294967295 (t + 1)
further_is t = elim (further_cases (min 4294967295 t)) [ inl e ↦ omega (arith, e.0, e.1) | inr e ↦ omega (arith, e.0, e.1) ]

mutual
  code_placed : (p : Tree) (t : ℕ) (is : List Step) (ds : List ℕ) → is_ground p ≡ true → Placed is (ds ++ t ∷ []) → Placed (code p (min 4294967295 t) ++ is) ds
  code_placed (Leaf x) t is ds g rest = absurd (cc)
  code_placed (Node h ps) t is ds g rest =
      let d = min 4294967295 t in
      let over : Placed (Over h (count_of ps) d ∷ is) (ds ++ counted t (count_of ps)) = (t, ds, refl, refl, rest) in
      subst (λ js. Placed js ds) (sym (append_assoc (code_all ps d) (Over h (count_of ps) d ∷ []) is))
      (all_placed ps t (Over h (count_of ps) d ∷ is) ds g over)

  all_placed : (ps : Trees) (t : ℕ) (is : List Step) (ds : List ℕ) → all_ground ps ≡ true → Placed is (ds ++ counted t (count_of ps)) → Placed (code_all ps (min 4294967295 t) ++ is) ds
  all_placed End t is ds g rest = subst (Placed is) (append-nil ds) rest
  all_placed (More p ps) t is ds g rest =
      let b = both_hold (is_ground p) (all_ground ps) g in
      let one : count_of ps + 1 ≡ suc (count_of ps) = omega arith in
      let rest' : Placed is ((ds ++ (t + 1) ∷ []) ++ counted (t + 1) (count_of ps)) =
      subst (Placed is) (ap (λ n. ds ++ counted t n) one ∙ sym (append_assoc ds ((t + 1) ∷ []) (counted (t + 1) (count_of ps)))) rest in
      let all = all_placed ps (t + 1) is (ds ++ (t + 1) ∷ []) b.1 rest' in
      let both = code_placed p (t + 1) (code_all ps (min 4294967295 (t + 1)) ++ is) ds b.0 all in
      subst (λ js. Placed js ds) (sym (append_assoc (code p (min 4294967295 (t + 1))) (code_all ps (min 4294967295 (t + 1))) is)
      ∙ ap (λ d. (code p d ++ code_all ps d) ++ is) (sym (further_is t))) both

-- two ways to split a list
front_is : (xs ys zs ws : List ℕ) → xs ++ ys ≡ zs ++ ws → length xs ≡ length zs → xs ≡ zs
front_is xs ys zs ws e n = sym (take_at xs ys (length zs) n) ∙ ap (take (length zs)) e ∙ take_at zs ws (length zs) refl

module _ (is : List Step) (front back fr : List ℕ) (e t n : ℕ) (same : front ++ e ∷ back ≡ fr ++ counted t n) where
  sizes : length front + 1 + length back ≡ length fr + n
  sizes =
      let a = length-append front (e ∷ back) in
      let b = length-append fr (counted t n) in
      let c = length-counted t n in
      let d = ap length same in
      omega (arith, a, b, c, d)

  -- a value among the last ones
  among_last : length back < n → e ≡ t + (n - length back)
  among_last l =
      let i = length front - length fr in
      let low : length fr ≤ length front = omega (arith, sizes, l) in
      let inside : i < n = omega (arith, sizes, l) in
      let at = counted_at n t i inside in
      let is' : e ≡ get_or (counted t n) i 0 =
      sym (get_or_at front e back 0 (length front) refl) ∙ ap (λ xs. get_or xs (length front) 0) same ∙ get_or-append_right fr (counted t n) (length fr) (length front) 0 refl low in
      omega (arith, is', at, sizes, l)

  -- a value before them
  before_last : n ≤ length back → fr ≡ front ++ e ∷ take (length back - n) back
  before_last l =
      let j = length back - n in
      let b1 = take j back in
      let b2 = drop j back in
      let split : front ++ e ∷ back ≡ (front ++ e ∷ b1) ++ b2 = ap (λ xs. front ++ e ∷ xs) (sym (take-append-drop j back)) ∙ sym (append_assoc front (e ∷ b1) b2) in
      let c1 : length b1 ≡ j = length-take-le j back (omega arith) in
      let count : length (front ++ e ∷ b1) ≡ length fr = omega (arith, length-append front (e ∷ b1), c1, sizes, l) in
      sym (front_is (front ++ e ∷ b1) b2 fr (counted t n) (sym split ∙ same) count)

  regroup : n ≤ length back → fr ++ t ∷ [] ≡ front ++ e ∷ (take (length back - n) back ++ t ∷ [])
  regroup l = ap (λ xs. xs ++ t ∷ []) (before_last l) ∙ append_assoc front (e ∷ take (length back - n) back) (t ∷ [])

  regrouped : n ≤ length back → length (take (length back - n) back ++ t ∷ []) ≡ length back - n + 1
  regrouped l =
      let c : length (take (length back - n) back) ≡ length back - n = length-take-le (length back - n) back (omega arith) in
      omega (arith, length_push (take (length back - n) back) t, c)

-- the sum of a place is how far down it is
pub place_total : (is : List Step) (front back : List ℕ) (e : ℕ) → Placed is (front ++ e ∷ back) → total (place_in is (length back)) ≡ e
place_total [] front back e p = go front p
  where
    go : (fs : List ℕ) → fs ++ e ∷ back ≡ 0 ∷ [] → 0 ≡ e
    go [] q = (let h = ap (λ xs. get_or xs 0 0) q in omega (arith, h))
    go (f ∷ fs) q = (let h = ap length q in let k = length-append fs (e ∷ back) in absurd (omega (arith, h, k)))
place_total (Bound x d ∷ is) front back e p = absurd p
place_total (Over h n d ∷ is) front back e p =
    go (nat_lt (length back) n) refl
    (place_total is p.1 [] p.0 p.4)
    (λ l. place_total is front (take (length back - n) back ++ p.0 ∷ []) e (subst (Placed is) (regroup is front back p.1 e p.0 n p.3 l) p.4))
  where
    go : (b : Bool) → nat_lt (length back) n ≡ b → total (place_in is 0) ≡ p.0 → (n ≤ length back → total (place_in is (length (take (length back - n) back ++ p.0 ∷ []))) ≡ e) →
        total (if b then place_in is 0 ++ (n - length back) ∷ [] else place_in is (length back - n + 1)) ≡ e
    go true l one later =
        let i = among_last is front back p.1 e p.0 n p.3 (ltb-true (length back) n l) in
        let s = total-append (place_in is 0) ((n - length back) ∷ []) in
        omega (arith, i, s, one)
    go false l one later =
        let k = ltb-false (length back) n l in
        ap (λ j. total (place_in is j)) (sym (regrouped is front back p.1 e p.0 n p.3 k)) ∙ later k
place_total (Test c ∷ is) front back e p = absurd p
place_total (Chosen ∷ is) front back e p = absurd p
place_total (Last h n ∷ is) front back e p = absurd p
place_total (Give x ∷ is) front back e p = absurd p

-- the lowest value is a first argument all the way
pub first_place : (is : List Step) (back : List ℕ) (e : ℕ) → Placed is (e ∷ back) → place_in is (length back) ≡ replicate e 1
first_place [] back e p =
    let h = ap (λ xs. get_or xs 0 0) p in
    let z : 0 ≡ e = omega (arith, h) in
    ap (λ n. replicate n 1) z
first_place (Bound x d ∷ is) back e p = absurd p
first_place (Over h n d ∷ is) back e p =
    go (nat_lt (length back) n) refl
    (λ none. first_place is [] p.0 (subst (λ xs. Placed is (xs ++ p.0 ∷ [])) none p.4))
    (λ l. first_place is (take (length back - n) back ++ p.0 ∷ []) e (subst (Placed is) (regroup is [] back p.1 e p.0 n p.3 l) p.4))
  where
    empty : (xs : List ℕ) → length xs ≡ 0 → xs ≡ []
    empty [] q = refl
    empty (x ∷ xs) q = absurd (omega (arith, q))

    go : (b : Bool) → nat_lt (length back) n ≡ b → (p.1 ≡ [] → place_in is 0 ≡ replicate p.0 1) → (n ≤ length back → place_in is (length (take (length back - n) back ++ p.0 ∷ [])) ≡ replicate e 1) →
        (if b then place_in is 0 ++ (n - length back) ∷ [] else place_in is (length back - n + 1)) ≡ replicate e 1
    go true l one later =
        let k = ltb-true (length back) n l in
        let s = sizes is [] back p.1 e p.0 n p.3 in
        let none : p.1 ≡ [] = empty p.1 (omega (arith, s, k)) in
        let i = among_last is [] back p.1 e p.0 n p.3 k in
        let last : n - length back ≡ 1 = omega (arith, s, k) in
        let more : p.0 + 1 ≡ e = omega (arith, i, last) in
        ap (λ xs. xs ++ (n - length back) ∷ []) (one none) ∙ ap (λ j. replicate p.0 1 ++ j ∷ []) last ∙ replicate_more p.0 1 ∙ ap (λ j. replicate j 1) more
    go false l one later =
        let k = ltb-false (length back) n l in
        ap (place_in is) (sym (regrouped is [] back p.1 e p.0 n p.3 k)) ∙ later k
first_place (Test c ∷ is) back e p = absurd p
first_place (Chosen ∷ is) back e p = absurd p
first_place (Last h n ∷ is) back e p = absurd p
first_place (Give x ∷ is) back e p = absurd p

-- The value after another stands below the next argument, there in first arguments all the way.
pub record IsAfter (one other : List ℕ) : Type 0 where
  pub over : List ℕ
  pub argument : ℕ
  pub firsts : ℕ
  pub before : one ≡ over ++ argument ∷ []
  pub after : other ≡ (over ++ (argument + 1) ∷ []) ++ replicate firsts 1

pub next_place : (is : List Step) (front back : List ℕ) (a e : ℕ) → Placed is (front ++ a ∷ e ∷ back) → IsAfter (place_in is (length back + 1)) (place_in is (length back))
next_place [] front back a e p =
    let h = ap length p in
    let k = length-append front (a ∷ e ∷ back) in
    absurd (omega (arith, h, k))
next_place (Bound x d ∷ is) front back a e p = absurd p
next_place (Over h n d ∷ is) front back a e p =
    go (nat_lt (length back) n) refl (nat_lt (length back + 1) n) refl
    (λ f. next_place is front [] a p.0 (subst (Placed is) (ap (λ xs. xs ++ p.0 ∷ []) f ∙ append_assoc front (a ∷ []) (p.0 ∷ [])) p.4))
    (λ l. next_place is front (take (length back - n) back ++ p.0 ∷ []) a e (subst (Placed is) (later_is l) p.4))
  where
    t : ℕ
    t = p.0

    fr : List ℕ
    fr = p.1

    same : (front ++ a ∷ []) ++ e ∷ back ≡ fr ++ counted t n
    same = append_assoc front (a ∷ []) (e ∷ back) ∙ p.3

    later_is : n ≤ length back → fr ++ t ∷ [] ≡ front ++ a ∷ e ∷ (take (length back - n) back ++ t ∷ [])
    later_is l = regroup is (front ++ a ∷ []) back fr e t n same l ∙ append_assoc front (a ∷ []) (e ∷ (take (length back - n) back ++ t ∷ []))

    fr_is : n ≡ length back + 1 → fr ≡ front ++ a ∷ []
    fr_is l =
        let s = sizes is (front ++ a ∷ []) back fr e t n same in
        sym (front_is (front ++ a ∷ []) (e ∷ back) fr (counted t n) same (omega (arith, s, l)))

    go : (b : Bool) → nat_lt (length back) n ≡ b → (c : Bool) → nat_lt (length back + 1) n ≡ c →
        (fr ≡ front ++ a ∷ [] → IsAfter (place_in is 1) (place_in is 0)) →
        (n ≤ length back → IsAfter (place_in is (length (take (length back - n) back ++ t ∷ []) + 1)) (place_in is (length (take (length back - n) back ++ t ∷ [])))) →
        IsAfter (if c then place_in is 0 ++ (n - (length back + 1)) ∷ [] else place_in is (length back + 1 - n + 1)) (if b then place_in is 0 ++ (n - length back) ∷ [] else place_in is (length back - n + 1))
    go true l true m one later =
        let k = ltb-true (length back + 1) n m in
        let next : n - length back ≡ n - (length back + 1) + 1 = omega (arith, k) in
        record {
          over = place_in is 0;
          argument = n - (length back + 1);
          firsts = 0;
          before = refl;
          after = ap (λ j. place_in is 0 ++ j ∷ []) next ∙ sym (append-nil (place_in is 0 ++ (n - (length back + 1) + 1) ∷ []));
        }
    go true l false m one later =
        let k : n ≡ length back + 1 = omega (arith, ltb-true (length back) n l, ltb-false (length back + 1) n m) in
        let i = one (fr_is k) in
        let last : n - length back ≡ 1 = omega (arith, k) in
        let first : length back + 1 - n + 1 ≡ 1 = omega (arith, k) in
        record {
          over = i.over;
          argument = i.argument;
          firsts = i.firsts + 1;
          before = ap (place_in is) first ∙ i.before;
          after = ap (λ j. place_in is 0 ++ j ∷ []) last ∙ ap (λ xs. xs ++ 1 ∷ []) i.after
              ∙ append_assoc (i.over ++ (i.argument + 1) ∷ []) (replicate i.firsts 1) (1 ∷ [])
              ∙ ap (λ xs. (i.over ++ (i.argument + 1) ∷ []) ++ xs) (replicate_more i.firsts 1);
        }
    go false l true m one later = absurd (omega (arith, ltb-false (length back) n l, ltb-true (length back + 1) n m))
    go false l false m one later =
        let k = ltb-false (length back) n l in
        let i = later k in
        let c = regrouped is (front ++ a ∷ []) back fr e t n same k in
        let c' : length (take (length back - n) back ++ t ∷ []) + 1 ≡ length back + 1 - n + 1 = omega (arith, c, k) in
        record {
          over = i.over;
          argument = i.argument;
          firsts = i.firsts;
          before = ap (place_in is) (sym c') ∙ i.before;
          after = ap (place_in is) (sym c) ∙ i.after;
        }
next_place (Test c ∷ is) front back a e p = absurd p
next_place (Chosen ∷ is) front back a e p = absurd p
next_place (Last h n ∷ is) front back a e p = absurd p
next_place (Give x ∷ is) front back a e p = absurd p

-- the code of a term, from its beginning on
pub term_placed : (t : Tree) → IsGround t → Placed (code t 0) []
term_placed t g = subst (λ is. Placed is []) (append-nil (code t 0)) (code_placed t 0 [] [] g refl)

-- the numbers of the values, once so many steps are done
pub after_steps : (at : ℕ) (is : List Step) (ds : List ℕ) → Placed is ds → at < length is → (t : ℕ) × (front : List ℕ) × Placed (drop (at + 1) is) (front ++ t ∷ [])
after_steps at [] ds p l = absurd (omega (arith, l))
after_steps at (Bound x d ∷ is) ds p l = absurd p
after_steps zero (Over h n d ∷ is) ds p l = (p.0, p.1, p.4)
after_steps (suc at) (Over h n d ∷ is) ds p l =
    let r = after_steps at is (p.1 ++ p.0 ∷ []) p.4 (omega (arith, l)) in
    let e : suc (at + 1) ≡ suc at + 1 = omega arith in
    (r.0, r.1, subst (λ i. Placed (drop i (Over h n d ∷ is)) (r.1 ++ r.0 ∷ [])) e r.2)
after_steps at (Test c ∷ is) ds p l = absurd p
after_steps at (Chosen ∷ is) ds p l = absurd p
after_steps at (Last h n ∷ is) ds p l = absurd p
after_steps at (Give x ∷ is) ds p l = absurd p
