-- The chronicle is in order, and has the callers' entries and no others.
use Rattle.std.proofs.Common.{◌≡◌, ℕ, zero, suc, ◌+◌, ◌<◌, ◌≤◌, Bool, true, false, List, [], ◌∷◌, length, refl, ap, subst, arith, ◌⊎◌, inl, inr, ◌↔◌}
use Rattle.std.specs.Prelude.{Contains, if◌then◌else◌}
use Rattle.std.specs.List.{AllByRecursion}
use Rattle.std.proofs.lemmas.Bool.Decides.{nat_tests}
use Rattle.history_core.specs.Entry.{Entry, place}
use Rattle.history_core.specs.Chronicle.{History, precedes, put, later, put_all, put_each, chronicle, entries_of, IsNoted, InOrder}
use Rattle.history_core.proofs.Members.{contains_here, contains_there, contains_none, contains_cases, each_at}
use Rattle.history_core.proofs.Merge.{asym, through}

-- what holds of the entries and of the one put in
put_each_holds : (P : ℕ × Entry → Type 0) (x : ℕ × Entry) (l : History) → P x → AllByRecursion P l → AllByRecursion P (put x l)
put_each_holds P x [] p a = (p, tt)
put_each_holds P x (y ∷ ys) p a = go (precedes x y) (put_each_holds P x ys p a.1)
  where
    go : (b : Bool) → AllByRecursion P (put x ys) → AllByRecursion P (if b then x ∷ y ∷ ys else y ∷ put x ys)
    go true rest = (p, a)
    go false rest = (a.0, rest)

-- from its own place on, x goes before all
goes_before : (x y : ℕ × Entry) (ys : History) → precedes x y ≡ true → AllByRecursion (λ z. precedes z y ≡ false) ys → AllByRecursion (λ z. precedes x z ≡ true) ys
goes_before x y [] h a = tt
goes_before x y (z ∷ ys) h a = (through (place x.1) x.0 (place y.1) y.0 (place z.1) z.0 h a.0, goes_before x y ys h a.1)

goes_after : (x : ℕ × Entry) (ys : History) → AllByRecursion (λ z. precedes x z ≡ true) ys → AllByRecursion (λ z. precedes z x ≡ false) ys
goes_after x [] a = tt
goes_after x (z ∷ ys) a = (asym (place x.1) x.0 (place z.1) z.0 a.0, goes_after x ys a.1)

pub put_in_order : (x : ℕ × Entry) (l : History) → InOrder l → InOrder (put x l)
put_in_order x [] o = (tt, tt)
put_in_order x (y ∷ ys) o = go (precedes x y) refl (put_in_order x ys o.1)
  where
    go : (b : Bool) → precedes x y ≡ b → InOrder (put x ys) → InOrder (if b then x ∷ y ∷ ys else y ∷ put x ys)
    go true e rest = ((asym (place x.1) x.0 (place y.1) y.0 e, goes_after x ys (goes_before x y ys e o.0)), o)
    go false e rest = (put_each_holds (λ z. precedes z y ≡ false) x ys e o.0, rest)

pub all_in_order : (caller : ℕ) (es : List Entry) (l : History) → InOrder l → InOrder (put_all caller es l)
all_in_order caller [] l o = o
all_in_order caller (e ∷ es) l o = all_in_order caller es (put (caller, e) l) (put_in_order (caller, e) l o)

each_in_order : (caller : ℕ) (lists : List (List Entry)) (l : History) → InOrder l → InOrder (put_each caller lists l)
each_in_order caller [] l o = o
each_in_order caller (es ∷ lists) l o = each_in_order (suc caller) lists (put_all caller es l) (all_in_order caller es l o)

pub chronicle_in_order : (lists : List (List Entry)) → InOrder (chronicle lists)
chronicle_in_order lists = each_in_order 0 lists [] tt

pub later_each : (x : ℕ × Entry) (l : History) → InOrder l → AllByRecursion (λ z. precedes x z ≡ true) (later x l)
later_each x [] o = tt
later_each x (y ∷ ys) o = go (precedes x y) refl (later_each x ys o.1)
  where
    go : (b : Bool) → precedes x y ≡ b → AllByRecursion (λ z. precedes x z ≡ true) (later x ys) → AllByRecursion (λ z. precedes x z ≡ true) (if b then y ∷ ys else later x ys)
    go true e rest = (e, goes_before x y ys e o.0)
    go false e rest = rest

pub later_goes_after : (lists : List (List Entry)) (x y : ℕ × Entry) → Contains (later x (chronicle lists)) y → precedes x y ≡ true
later_goes_after lists x y c = each_at (λ z. precedes x z ≡ true) (later x (chronicle lists)) y (later_each x (chronicle lists) (chronicle_in_order lists)) c

pub later_is_part : (x : ℕ × Entry) (l : History) (y : ℕ × Entry) → Contains (later x l) y → Contains l y
later_is_part x [] y c = c
later_is_part x (z ∷ l) y c = go (precedes x z) c (λ d. contains_there z l y (later_is_part x l y d))
  where
    go : (b : Bool) → Contains (if b then z ∷ l else later x l) y → (Contains (later x l) y → Contains (z ∷ l) y) → Contains (z ∷ l) y
    go true d rest = d
    go false d rest = rest d

put_has : (x : ℕ × Entry) (l : History) (y : ℕ × Entry) → Contains (put x l) y → (x ≡ y) ⊎ Contains l y
put_has x [] y c = contains_cases x [] y c
put_has x (z ∷ l) y c = go (precedes x z) c (put_has x l y)
  where
    onward : (x ≡ y) ⊎ Contains l y → (x ≡ y) ⊎ Contains (z ∷ l) y
    onward (inl e) = inl e
    onward (inr d) = inr (contains_there z l y d)

    second : (z ≡ y) ⊎ Contains (put x l) y → (Contains (put x l) y → (x ≡ y) ⊎ Contains l y) → (x ≡ y) ⊎ Contains (z ∷ l) y
    second (inl e) rest = inr (subst (Contains (z ∷ l)) e (contains_here z l))
    second (inr d) rest = onward (rest d)

    go : (b : Bool) → Contains (if b then x ∷ z ∷ l else z ∷ put x l) y → (Contains (put x l) y → (x ≡ y) ⊎ Contains l y) → (x ≡ y) ⊎ Contains (z ∷ l) y
    go true d rest = contains_cases x (z ∷ l) y d
    go false d rest = second (contains_cases z (put x l) y d) rest

put_keeps : (x : ℕ × Entry) (l : History) (y : ℕ × Entry) → (x ≡ y) ⊎ Contains l y → Contains (put x l) y
put_keeps x [] y (inl e) = subst (Contains (x ∷ [])) e (contains_here x [])
put_keeps x [] y (inr d) = absurd (contains_none y d)
put_keeps x (z ∷ l) y h = go (precedes x z) (first h) (λ k. put_keeps x l y k)
  where
    first : (x ≡ y) ⊎ Contains (z ∷ l) y → (x ≡ y) ⊎ ((z ≡ y) ⊎ Contains l y)
    first (inl e) = inl e
    first (inr d) = inr (contains_cases z l y d)

    go : (b : Bool) → (x ≡ y) ⊎ ((z ≡ y) ⊎ Contains l y) → ((x ≡ y) ⊎ Contains l y → Contains (put x l) y) → Contains (if b then x ∷ z ∷ l else z ∷ put x l) y
    go true (inl e) rest = subst (Contains (x ∷ z ∷ l)) e (contains_here x (z ∷ l))
    go true (inr (inl e)) rest = contains_there x (z ∷ l) y (subst (Contains (z ∷ l)) e (contains_here z l))
    go true (inr (inr d)) rest = contains_there x (z ∷ l) y (contains_there z l y d)
    go false (inl e) rest = contains_there z (put x l) y (rest (inl e))
    go false (inr (inl e)) rest = subst (Contains (z ∷ put x l)) e (contains_here z (put x l))
    go false (inr (inr d)) rest = contains_there z (put x l) y (rest (inr d))

all_have : (caller : ℕ) (es : List Entry) (l : History) (y : ℕ × Entry) → Contains (put_all caller es l) y → ((caller ≡ y.0) × Contains es y.1) ⊎ Contains l y
all_have caller [] l y c = inr c
all_have caller (e ∷ es) l y c = go (all_have caller es (put (caller, e) l) y c)
  where
    last : ((caller, e) ≡ y) ⊎ Contains l y → ((caller ≡ y.0) × Contains (e ∷ es) y.1) ⊎ Contains l y
    last (inl same) = inl (ap (λ (z : ℕ × Entry). z.0) same, subst (Contains (e ∷ es)) (ap (λ (z : ℕ × Entry). z.1) same) (contains_here e es))
    last (inr d) = inr d

    go : ((caller ≡ y.0) × Contains es y.1) ⊎ Contains (put (caller, e) l) y → ((caller ≡ y.0) × Contains (e ∷ es) y.1) ⊎ Contains l y
    go (inl k) = inl (k.0, contains_there e es y.1 k.1)
    go (inr d) = last (put_has (caller, e) l y d)

all_keep : (caller : ℕ) (es : List Entry) (l : History) (y : ℕ × Entry) → ((caller ≡ y.0) × Contains es y.1) ⊎ Contains l y → Contains (put_all caller es l) y
all_keep caller [] l y (inl k) = absurd (contains_none y.1 k.1)
all_keep caller [] l y (inr d) = d
all_keep caller (e ∷ es) l y (inr d) = all_keep caller es (put (caller, e) l) y (inr (put_keeps (caller, e) l y (inr d)))
all_keep caller (e ∷ es) l y (inl k) = go (contains_cases e es y.1 k.1) (λ h. all_keep caller es (put (caller, e) l) y h)
  where
    go : (e ≡ y.1) ⊎ Contains es y.1 → (((caller ≡ y.0) × Contains es y.1) ⊎ Contains (put (caller, e) l) y → Contains (put_all caller es (put (caller, e) l)) y)
        → Contains (put_all caller es (put (caller, e) l)) y
    go (inl same) rest = let whole : (caller, e) ≡ y = (λ i. (k.0 i, same i)) in rest (inr (put_keeps (caller, e) l y (inl whole)))
    go (inr d) rest = rest (inl (k.0, d))

-- an entry of the k-th list from the first caller on
record NotedFrom (first : ℕ) (lists : List (List Entry)) (y : ℕ × Entry) : Type 0 where
  pub index : ℕ
  pub caller : y.0 ≡ first + index
  pub present : index < length lists
  pub own : Contains (entries_of lists index) y.1

each_have : (first : ℕ) (lists : List (List Entry)) (l : History) (y : ℕ × Entry) → Contains (put_each first lists l) y → NotedFrom first lists y ⊎ Contains l y
each_have first [] l y c = inr c
each_have first (es ∷ lists) l y c = go (each_have (suc first) lists (put_all first es l) y c)
  where
    here : ((first ≡ y.0) × Contains es y.1) ⊎ Contains l y → NotedFrom first (es ∷ lists) y ⊎ Contains l y
    here (inl k) = inl record { index = 0; caller = (let h : first ≡ y.0 = k.0 in omega arith); present = omega arith; own = k.1 }
    here (inr d) = inr d

    go : NotedFrom (suc first) lists y ⊎ Contains (put_all first es l) y → NotedFrom first (es ∷ lists) y ⊎ Contains l y
    go (inl k) = inl record { index = suc k.index; caller = (let h = k.caller in omega arith); present = (let h = k.present in omega arith); own = k.own }
    go (inr d) = here (all_have first es l y d)

each_keep : (first : ℕ) (lists : List (List Entry)) (l : History) (y : ℕ × Entry) → Contains l y → Contains (put_each first lists l) y
each_keep first [] l y c = c
each_keep first (es ∷ lists) l y c = each_keep (suc first) lists (put_all first es l) y (all_keep first es l y (inr c))

each_give : (first k : ℕ) (lists : List (List Entry)) (l : History) (y : ℕ × Entry) → y.0 ≡ first + k → k < length lists → Contains (entries_of lists k) y.1
    → Contains (put_each first lists l) y
each_give first k [] l y at less c = absurd (omega arith)
each_give first zero (es ∷ lists) l y at less c = each_keep (suc first) lists (put_all first es l) y (all_keep first es l y (inl (omega arith, c)))
each_give first (suc k) (es ∷ lists) l y at less c = each_give (suc first) k lists (put_all first es l) y (omega arith) (omega arith) c

pub noted_from_has : (lists : List (List Entry)) (y : ℕ × Entry) → Contains (chronicle lists) y → IsNoted lists y
noted_from_has lists y c = go (each_have 0 lists [] y c)
  where
    go : NotedFrom 0 lists y ⊎ Contains [] y → IsNoted lists y
    go (inl k) = let same : k.index ≡ y.0 = (let h = k.caller in omega arith) in record {
      present = subst (λ (n : ℕ). n < length lists) same k.present;
      own = subst (λ (n : ℕ). Contains (entries_of lists n) y.1) same k.own;
    }
    go (inr d) = absurd (contains_none y d)

pub has_the_noted : (lists : List (List Entry)) (y : ℕ × Entry) → Contains (chronicle lists) y ↔ IsNoted lists y
has_the_noted lists y = (noted_from_has lists y, λ n. each_give 0 y.0 lists [] y (omega arith) n.present n.own)

-- an own entry whose place is no higher goes not after
pub own_goes_before : (caller : ℕ) (d e : Entry) → place d ≤ place e → precedes (caller, e) (caller, d) ≡ false
own_goes_before caller d e h = grind (arith, nat_tests)
