-- The forest of specifications: what each includes first comes before it.
use Rattle.rec_includes.proofs.Common.{◌≡◌, ℕ, zero, suc, ◌<◌, Bool, true, false, cond, List, [], ◌∷◌, nat_eq, Option, Some, None, IfSome, refl, sym, subst, arith, length, get_or, ◌-◌, ◌++◌, append-nil, length-append, set, All, Contains, length-set, get_or-set_other, get_or-set_same, list_any, AllByRecursion, put, preorder, cut, Follows, parent_of, Leads, slice_get-get_or, Name, Specification, target, first_target, All-from_recursion}
use Rattle.std.specs.List.{IsDistinct}
use Rattle.rec_includes.proofs.Places.{place_in_front, below}
use Rattle.indexmap.proofs.CallerLemmas.{Contains-list_any}

-- ---- each number right after its parent: all numbers below a count are there, each once

pub same_number : (m n : ℕ) → nat_eq m n ≡ true → m ≡ n
same_number m n h = grind arith

-- what holds of all numbers holds with one more
put_all : (P : ℕ → Type 0) (o : Option ℕ) (n : ℕ) (ns : List ℕ) → P n → AllByRecursion P ns → AllByRecursion P (put o n ns)
put_all P None n ns p h = (p, h)
put_all P (Some q) n [] p h = tt
put_all P (Some q) n (m ∷ ms) p h = grind (arith, put_all P (Some q) n ms p h.1)

pub apart : (n : ℕ) (ns : List ℕ) → AllByRecursion (λ m. m < n) ns → AllByRecursion (λ m. nat_eq n m ≡ false) ns
apart n [] h = tt
apart n (m ∷ ms) h = grind (arith, h.0, apart n ms h.1)

one_more : (n : ℕ) (ns : List ℕ) → AllByRecursion (λ m. m < n) ns → AllByRecursion (λ m. m < suc n) ns
one_more n [] h = tt
one_more n (m ∷ ms) h = grind (arith, h.0, one_more n ms h.1)

put_distinct : (o : Option ℕ) (n : ℕ) (ns : List ℕ) → IsDistinct nat_eq ns → AllByRecursion (λ m. m < n) ns → IsDistinct nat_eq (put o n ns)
unfolding IsDistinct
put_distinct None n ns d l = (apart n ns l, d)
put_distinct (Some q) n [] d l = tt
put_distinct (Some q) n (m ∷ ms) d l = by (nat_eq q m) (put_distinct (Some q) n ms d.1 l.1)
  where
    by : (b : Bool) → IsDistinct nat_eq (put (Some q) n ms) → IsDistinct nat_eq (cond b (m ∷ n ∷ ms) (m ∷ put (Some q) n ms))
    by b r =
        let other : nat_eq m n ≡ false = grind (arith, l.0) in
        grind (arith, other, apart n ms l.1, put_all (λ y. nat_eq m y ≡ false) (Some q) n ms other d.0)

put_keeps : (t : ℕ → Bool) (o : Option ℕ) (n : ℕ) (ns : List ℕ) → list_any t ns ≡ true → list_any t (put o n ns) ≡ true
put_keeps t None n ns h = grind arith
put_keeps t (Some q) n [] h = h
put_keeps t (Some q) n (m ∷ ms) h = grind (arith, put_keeps t (Some q) n ms)

put_adds : (o : Option ℕ) (n : ℕ) (ns : List ℕ) → IfSome o (λ q. list_any (nat_eq q) ns ≡ true) → list_any (nat_eq n) (put o n ns) ≡ true
put_adds None n ns h = grind arith
put_adds (Some q) n [] h = h
put_adds (Some q) n (m ∷ ms) h = grind (arith, put_adds (Some q) n ms)

pub preorder_below : (parent : ℕ → Option ℕ) (n : ℕ) → AllByRecursion (λ m. m < n) (preorder parent n)
preorder_below parent zero = tt
preorder_below parent (suc n) = put_all (λ m. m < suc n) (parent n) n (preorder parent n) (omega arith) (one_more n (preorder parent n) (preorder_below parent n))

pub preorder_distinct : (parent : ℕ → Option ℕ) (n : ℕ) → IsDistinct nat_eq (preorder parent n)
unfolding IsDistinct
preorder_distinct parent zero = tt
preorder_distinct parent (suc n) = put_distinct (parent n) n (preorder parent n) (preorder_distinct parent n) (preorder_below parent n)

pub preorder_has : (parent : ℕ → Option ℕ) → ((n p : ℕ) → parent n ≡ Some p → p < n) → (n m : ℕ) → m < n → list_any (nat_eq m) (preorder parent n) ≡ true
preorder_has parent before zero m l = absurd (omega arith)
preorder_has parent before (suc n) m l = by (nat_eq m n) refl (λ k. preorder_has parent before n k)
  where
    by : (b : Bool) → nat_eq m n ≡ b → ((k : ℕ) → k < n → list_any (nat_eq k) (preorder parent n) ≡ true) → list_any (nat_eq m) (preorder parent (suc n)) ≡ true
    by true e r = grind (arith, same_number m n e, put_adds (parent n) n (preorder parent n), before n, r)
    by false e r = put_keeps (nat_eq m) (parent n) n (preorder parent n) (r m (grind arith))

-- ---- in this order a number's parent is on the path when its turn comes

-- the numbers of the first path are on the second, in the same order
data Within : List ℕ → List ℕ → Type 0 where
  none : Within [] []
  same : {x : ℕ} {xs ys : List ℕ} → Within xs ys → Within (x ∷ xs) (x ∷ ys)
  more : {y : ℕ} {xs ys : List ℕ} → Within xs ys → Within xs (y ∷ ys)

itself : (xs : List ℕ) → Within xs xs
itself [] = none
itself (x ∷ xs) = same (itself xs)

cut_one : (p : ℕ) {xs ys : List ℕ} → Within xs ys → Within (cut (Some p) xs) ys
cut_one p none = none
cut_one p (same {x = x} {xs = xs} {ys = ys} s) = grind (arith, same {x = x} s, more {y = x} (cut_one p s))
cut_one p (more s) = more (cut_one p s)

cut_both : (p : ℕ) {xs ys : List ℕ} → Within xs ys → Within (cut (Some p) xs) (cut (Some p) ys)
cut_both p none = none
cut_both p (same {x = x} {xs = xs} {ys = ys} s) = grind (arith, same {x = x} s, cut_both p s)
cut_both p (more {y = y} {xs = xs} {ys = ys} s) = grind (arith, more {y = y} (cut_one p s), cut_both p s)

any_within : (t : ℕ → Bool) {xs ys : List ℕ} → Within xs ys → list_any t xs ≡ true → list_any t ys ≡ true
any_within t none h = h
any_within t (same s) h = grind (arith, any_within t s)
any_within t (more s) h = grind (arith, any_within t s h)

-- a path that has more has the parents too
follows_within : (parent : ℕ → Option ℕ) (xs ys ns : List ℕ) → Within xs ys → Follows parent xs ns → Follows parent ys ns
follows_within parent xs ys [] s h = tt
follows_within parent xs ys (n ∷ ns) s h = by (parent n) h (λ vs ws. follows_within parent vs ws ns)
  where
    by : (o : Option ℕ) → IfSome o (λ p. list_any (nat_eq p) xs ≡ true) × Follows parent (n ∷ cut o xs) ns →
        ((vs ws : List ℕ) → Within vs ws → Follows parent vs ns → Follows parent ws ns) →
        IfSome o (λ p. list_any (nat_eq p) ys ≡ true) × Follows parent (n ∷ cut o ys) ns
    by None g r = g
    by (Some p) g r = (any_within (nat_eq p) s g.0, r (n ∷ cut (Some p) xs) (n ∷ cut (Some p) ys) (same (cut_both p s)) g.1)

follows_put : (parent : ℕ → Option ℕ) (n p : ℕ) (path ns : List ℕ) → parent n ≡ Some p → Follows parent path ns → Follows parent path (put (Some p) n ns)
follows_put parent n p path [] e h = tt
follows_put parent n p path (m ∷ ms) e h = by (nat_eq p m) refl (follows_put parent n p (m ∷ cut (parent m) path) ms e h.1)
  where
    by : (b : Bool) → nat_eq p m ≡ b → Follows parent (m ∷ cut (parent m) path) (put (Some p) n ms) → Follows parent path (cond b (m ∷ n ∷ ms) (m ∷ put (Some p) n ms))
    by true f r =
        let at = m ∷ cut (parent m) path in
        grind (arith, follows_within parent at (n ∷ at) ms (more (itself at)) h.1)
    by false f r = (h.0, r)

pub preorder_follows : (parent : ℕ → Option ℕ) (n : ℕ) → Follows parent [] (preorder parent n)
preorder_follows parent zero = tt
preorder_follows parent (suc n) = grind (arith, preorder_follows parent n, follows_within parent [] (n ∷ []) (preorder parent n) (more none), follows_put parent n)

-- what an entry includes comes before
target_before : (bytes : List ℕ) (headers : List Name) (number p : ℕ) (entry : Name) → target bytes headers number entry ≡ Some p → p < number
target_before bytes headers number p entry h = grind (arith, place_in_front)

pub first_before : (bytes : List ℕ) (headers : List Name) (number p : ℕ) (entries : List Name) → first_target bytes headers number entries ≡ Some p → p < number
first_before bytes headers number p [] h = absurd cc
first_before bytes headers number p (n ∷ ns) h = grind (arith, first_before bytes headers number p ns, target_before)

pub parent_before : (bytes : List ℕ) (headers : List Name) (specifications : List Specification) (n p : ℕ) → parent_of bytes headers specifications n ≡ Some p → p < n
parent_before bytes headers specifications n p e = grind (arith, first_before)

-- what a specification includes first, where it is the one at hand
pub parent_is : (bytes : List ℕ) (headers : List Name) (specifications : List Specification) (n : ℕ) (s : Specification) → n < length specifications →
    first_target bytes headers n (get_or specifications n s).includes ≡ parent_of bytes headers specifications n
parent_is bytes headers specifications n s l = grind (arith, slice_get-get_or)

pub all_before : (parent : Option ℕ) (n : ℕ) → ((p : ℕ) → parent ≡ Some p → p < n) → IfSome parent (λ p. p < n)
all_before parent n h = grind arith

-- ---- the order as a chain of links, each number's to the next

-- a link that none of these numbers has is written
leads_other : (next : List (Option ℕ)) (k : ℕ) (v at : Option ℕ) (ns : List ℕ) → AllByRecursion (λ y. nat_eq k y ≡ false) ns → Leads next at ns → Leads (set next k v) at ns
leads_other next k v at [] a h = h
leads_other next k v at (n ∷ ns) a h = grind (arith, leads_other next k v (get_or next n None) ns a.1 h.2, length-set, get_or-set_other)

-- a number is put first
pub leads_first : (next : List (Option ℕ)) (n : ℕ) (at : Option ℕ) (ns : List ℕ) → n < length next → AllByRecursion (λ m. m < n) ns → Leads next at ns →
    Leads (set next n at) (Some n) (n ∷ ns)
leads_first next n at ns l below h = grind (arith, length-set, get_or-set_same, leads_other, apart)

-- a number is put after the first
leads_here : (next : List (Option ℕ)) (n p : ℕ) (at : Option ℕ) (ns : List ℕ) → n < length next → p < n →
    AllByRecursion (λ y. nat_eq p y ≡ false) ns → AllByRecursion (λ m. m < n) ns → Leads next at (p ∷ ns) →
    Leads (set (set next n (get_or next p None)) p (Some n)) at (p ∷ n ∷ ns)
leads_here next n p at ns l m differ below h = grind (arith, length-set, get_or-set_other, get_or-set_same, leads_other, apart)

pub leads_after : (next : List (Option ℕ)) (n p : ℕ) (at : Option ℕ) (ns : List ℕ) → n < length next → p < n →
    IsDistinct nat_eq ns → AllByRecursion (λ m. m < n) ns → Leads next at ns →
    Leads (set (set next n (get_or next p None)) p (Some n)) at (put (Some p) n ns)
unfolding IsDistinct
leads_after next n p at [] l m d below h = h
leads_after next n p at (q ∷ qs) l m d below h = by (nat_eq p q) refl (leads_after next n p (get_or next q None) qs l m d.1 below.1 h.2)
  where
    by : (b : Bool) → nat_eq p q ≡ b → Leads (set (set next n (get_or next p None)) p (Some n)) (get_or next q None) (put (Some p) n qs) →
        Leads (set (set next n (get_or next p None)) p (Some n)) at (cond b (q ∷ n ∷ qs) (q ∷ put (Some p) n qs))
    by true e r =
        let is : q ≡ p = sym (same_number p q e) in
        let new = set (set next n (get_or next p None)) p (Some n) in
        let differ = subst (λ k. AllByRecursion (λ y. nat_eq k y ≡ false) qs) is d.0 in
        let there = subst (λ k. Leads next at (k ∷ qs)) is h in
        subst (λ k. Leads new at (k ∷ n ∷ qs)) (sym is) (leads_here next n p at qs l m differ below.1 there)
    by false e r = grind (arith, length-set, get_or-set_other, e, below.0)

-- a step over the links
pub leads_step : (next : List (Option ℕ)) (at : Option ℕ) (n : ℕ) (left : List ℕ) → Leads next at left → at ≡ Some n →
    (rest : List ℕ) × (left ≡ n ∷ rest) × (n < length next) × Leads next (get_or next n None) rest
leads_step next at n [] h e = absurd cc
leads_step next at n (m ∷ ms) h e = grind arith

pub leads_end : (next : List (Option ℕ)) (left : List ℕ) → Leads next None left → left ≡ []
leads_end next [] h = refl
leads_end next (m ∷ ms) h = let first = h.0 in absurd cc

-- where the links end, all is in order
pub all_there : (next : List (Option ℕ)) (at : Option ℕ) (order left all : List ℕ) → at ≡ None → Leads next at left → order ++ left ≡ all → order ≡ all
all_there next at order left all e h is = grind (arith, leads_end, append-nil)

pub one_less : (order new left rest all : List ℕ) (n : ℕ) → new ≡ order ++ n ∷ [] → left ≡ n ∷ rest → order ++ left ≡ all →
    length all - length new < length all - length order
one_less order new left rest all n pushed first is = grind (arith, length-append)

-- numbers in order: all below a count and no others, each once, and each where its parent is on the path
pub record IsOrder (parent : ℕ → Option ℕ) (count : ℕ) (ns : List ℕ) : Type 0 where
  pub all : (n : ℕ) → n < count → Contains ns n
  pub no_others : All (λ n. n < count) ns
  pub once : IsDistinct nat_eq ns
  pub near : Follows parent [] ns

preorder_is : (parent : ℕ → Option ℕ) → ((n p : ℕ) → parent n ≡ Some p → p < n) → (count : ℕ) → IsOrder parent count (preorder parent count)
preorder_is parent before count =
    let ns = preorder parent count in
    record {
      all = λ n l. Contains-list_any nat_eq same_number ns n (preorder_has parent before count n l);
      no_others = All-from_recursion (λ n. n < count) ns (preorder_below parent count);
      once = preorder_distinct parent count;
      near = preorder_follows parent count;
    }

-- where the links end, all numbers are in order
pub in_order : (bytes : List ℕ) (headers : List Name) (specifications : List Specification) (next : List (Option ℕ)) (at : Option ℕ) (order left : List ℕ) →
    at ≡ None → Leads next at left → order ++ left ≡ preorder (parent_of bytes headers specifications) (length specifications) →
    IsOrder (parent_of bytes headers specifications) (length specifications) order
in_order bytes headers specifications next at order left e h is =
    let parent = parent_of bytes headers specifications in
    let count = length specifications in
    subst (IsOrder parent count) (sym (all_there next at order left (preorder parent count) e h is)) (preorder_is parent (parent_before bytes headers specifications) count)
