-- What a visit, a row that no longer waits, the start and the end do to marking halfway.
use Rattle.std.proofs.Common.{◌≡◌, ◌≢◌, ℕ, zero, suc, ◌+◌, ◌-◌, ◌<◌, ◌⊎◌, inl, inr, Bool, true, false, List, [], ◌∷◌, ◌++◌, Some, length, take, drop, get_or, arith, refl, ap, sym, ◌∙◌, subst}
use Rattle.std.proofs.Math.ListN.{set}
use Rattle.std.specs.Prelude.{Contains, slice_get}
use Rattle.std.proofs.lemmas.Option.{slice_get_within, get_or_from_slice_get}
use Rattle.std.proofs.lemmas.List.{take_more, length-set, get_or-set_same, get_or-set_other}
use Rattle.std.proofs.lemmas.Bool.Decides.{eqb_tells}
use Rattle.std.proofs.lemmas.List.Elements.{Contains-append_left, Contains-push, Contains-push_cases}
use Rattle.term_model.specs.declared.Row.{Row}
use Rattle.mark_phase.specs.Reachable.{Reaches, itself, child, IsMarked, IsClosed, AddsReached}
use Rattle.mark_phase.specs.Steps.{Halfway, with_waiting}

decided : (m n : ℕ) → (m ≡ n) ⊎ (m ≢ n)
decided m n = elim (eqb_tells m n) [ inl t ↦ inl t.1 | inr t ↦ inr t.1 ]

row_same : (r q : Row) → r.0 ≡ q.0 → r ≡ q
row_same r q e = ap (λ (n : ℕ). let x : Row = record { 0 = n } in x) e

-- a mark more
marked-here : (m : List Bool) (q : Row) → q.0 < length m → IsMarked (set m q.0 true) q
marked-here m q h = get_or-set_same m q.0 true false h

marked-kept : (m : List Bool) (q r : Row) → q.0 < length m → IsMarked m r → IsMarked (set m q.0 true) r
marked-kept m q r h k =
    elim (decided r.0 q.0) [
      | inl e ↦ subst (λ n. get_or (set m q.0 true) n false ≡ true) (sym e) (marked-here m q h)
      | inr ne ↦ get_or-set_other m q.0 r.0 true false ne ∙ k
    ]

marked-cases : (m : List Bool) (q r : Row) → q.0 < length m → IsMarked (set m q.0 true) r → (r ≡ q) ⊎ IsMarked m r
marked-cases m q r h k =
    elim (decided r.0 q.0) [
      | inl e ↦ inl (row_same r q e)
      | inr ne ↦ inr (sym (get_or-set_other m q.0 r.0 true false ne) ∙ k)
    ]

-- who waits after a visit
waits-before : (b : Bool) (q r : Row) (pending : List Row) → Contains pending r → Contains (with_waiting b q pending) r
waits-before true q r pending h = h
waits-before false q r pending h = Contains-append_left pending (q ∷ []) r h

waits-cases : (b : Bool) (q r : Row) (pending : List Row) → Contains (with_waiting b q pending) r → Contains pending r ⊎ (q ≡ r)
waits-cases true q r pending h = inl h
waits-cases false q r pending h = Contains-push_cases pending q r h

waits-or_marked : (b : Bool) (q : Row) (pending : List Row) → (b ≡ true) ⊎ Contains (with_waiting b q pending) q
waits-or_marked true q pending = inl refl
waits-or_marked false q pending = inr (Contains-push pending q)

head_or_tail : (q r : Row) (left : List Row) → Contains (q ∷ left) r → (q ≡ r) ⊎ Contains left r
head_or_tail q r left (zero, h, e) = inl e
head_or_tail q r left (suc k, h, e) = inr (k, omega arith, e)

abbrev Shut : (Row → List Row) → List Bool → List Row → Row → List Row → Row → Row → Type 0
Shut children m pending current left r s = IsMarked m s ⊎ (Contains pending r ⊎ ((r ≡ current) × Contains left s))

shut_by_old : (children : Row → List Row) (m : List Bool) (pending : List Row) (row q : Row) (left : List Row) (r s : Row)
    → q.0 < length m → Shut children m pending row (q ∷ left) r s
    → Shut children (set m q.0 true) (with_waiting (get_or m q.0 false) q pending) row left r s
shut_by_old children m pending row q left r s h shut =
    elim shut [
      | inl ms ↦ inl (marked-kept m q s h ms)
      | inr o ↦ elim o [
        | inl w ↦ inr (inl (waits-before (get_or m q.0 false) q r pending w))
        | inr ea ↦ elim (head_or_tail q s left ea.1) [
          | inl e ↦ inl (subst (IsMarked (set m q.0 true)) e (marked-here m q h))
          | inr a ↦ inr (inr (ea.0, a))
        ]
      ]
    ]

-- the first of the children left is visited
pub visited : (children : Row → List Row) (root : Row) (old m : List Bool) (pending : List Row) (row q : Row) (left : List Row)
    → q.0 < length m
    → Halfway children root old m pending row (q ∷ left)
    → Halfway children root old (set m q.0 true) (with_waiting (get_or m q.0 false) q pending) row left
visited children root old m pending row q left h half =
    let b = get_or m q.0 false in
    let here : Reaches children root q = half.ahead q (0, omega arith, refl) in
    record {
      rows = length-set m q.0 true ∙ half.rows;
      kept = λ r k. marked-kept m q r h (half.kept r k);
      only = λ r k. elim (marked-cases m q r h k) [
        | inl e ↦ inr (subst (Reaches children root) (sym e) here)
        | inr k' ↦ half.only r k'
      ];
      waiting = λ r w. elim (waits-cases b q r pending w) [
        | inl w' ↦ half.waiting r w'
        | inr e ↦ subst (Reaches children root) e here
      ];
      row = half.row;
      ahead = λ r a. half.ahead r (suc a.0, omega arith, a.2);
      begun = elim half.begun [
        | inl k ↦ inl (marked-kept m q root h k)
        | inr a ↦ elim (head_or_tail q root left a) [
          | inl e ↦ inl (subst (IsMarked (set m q.0 true)) e (marked-here m q h))
          | inr a' ↦ inr a'
        ]
      ];
      closed = λ r s k c. elim (marked-cases m q r h k) [
        | inl e ↦ elim (waits-or_marked b q pending) [
          | inl bt ↦ shut_by_old children m pending row q left r s h (half.closed r s (subst (IsMarked m) (sym e) bt) c)
          | inr w ↦ inr (inl (subst (Contains (with_waiting b q pending)) (sym e) w))
        ]
        | inr k' ↦ shut_by_old children m pending row q left r s h (half.closed r s k' c)
      ];
    }

none_in : {A : Type 0} (x : A) → Contains [] x → ⊥
none_in x h = absurd (omega arith)

-- the last row that waits is taken, and its children are ahead
pub popped : (children : Row → List Row) (root : Row) (old m : List Bool) (pending : List Row) (current row : Row)
    → Halfway children root old m (pending ++ row ∷ []) current []
    → Halfway children root old m pending row (children row)
popped children root old m pending current row half =
    let here : Reaches children root row = half.waiting row (Contains-push pending row) in
    record {
      rows = half.rows;
      kept = half.kept;
      only = half.only;
      waiting = λ r w. half.waiting r (Contains-append_left pending (row ∷ []) r w);
      row = here;
      ahead = λ q a. child here a;
      begun = elim half.begun [ inl k ↦ inl k | inr a ↦ absurd (none_in root a) ];
      closed = λ r s k c. elim (half.closed r s k c) [
        | inl ms ↦ inl ms
        | inr o ↦ elim o [
          | inl w ↦ elim (Contains-push_cases pending row r w) [
            | inl w' ↦ inr (inl w')
            | inr e ↦ inr (inr (sym e, subst (λ (x : Row). Contains (children x) s) (sym e) c))
          ]
          | inr ea ↦ absurd (none_in s ea.1)
        ]
      ];
    }

-- with no children ahead it doesn't matter whose they were
pub idle : (children : Row → List Row) (root : Row) (old m : List Bool) (pending : List Row) (current : Row)
    → Halfway children root old m pending current [] → Halfway children root old m pending root []
idle children root old m pending current half =
    record {
      rows = half.rows;
      kept = half.kept;
      only = half.only;
      waiting = half.waiting;
      row = itself;
      ahead = half.ahead;
      begun = half.begun;
      closed = λ r s k c. elim (half.closed r s k c) [
        | inl ms ↦ inl ms
        | inr o ↦ elim o [ inl w ↦ inr (inl w) | inr ea ↦ absurd (none_in s ea.1) ]
      ];
    }

-- at the start the root is ahead
pub ahead_of_all : (children : Row → List Row) (root : Row) (old : List Bool) → IsClosed children old → Halfway children root old old [] root (root ∷ [])
ahead_of_all children root old closed =
    record {
      rows = refl;
      kept = λ r k. k;
      only = λ r k. inl k;
      waiting = λ r w. absurd (none_in r w);
      row = itself;
      ahead = λ q a. elim (head_or_tail root q [] a) [
        | inl e ↦ subst (Reaches children root) e itself
        | inr n ↦ absurd (none_in q n)
      ];
      begun = inr (0, omega arith, refl);
      closed = λ r s k c. inl (closed r s k c);
    }

reached_marked : (children : Row → List Row) (root : Row) (old m : List Bool) → Halfway children root old m [] root [] → {r : Row} → Reaches children root r → IsMarked m r
reached_marked children root old m half itself = elim half.begun [ inl k ↦ k | inr a ↦ absurd (none_in root a) ]
reached_marked children root old m half (child {r = r} {q = q} p c) =
    elim (half.closed r q (reached_marked children root old m half p) c) [
      | inl k ↦ k
      | inr o ↦ elim o [ inl w ↦ absurd (none_in r w) | inr ea ↦ absurd (none_in q ea.1) ]
    ]

-- when none waits, what is reached is marked
pub finished : (children : Row → List Row) (root : Row) (old m : List Bool) → Halfway children root old m [] root [] → AddsReached children root old m
finished children root old m half =
    record {
      rows = half.rows;
      kept = half.kept;
      reached = λ r p. reached_marked children root old m half p;
      only = half.only;
    }

-- an element at a place
pub contains_at : {A : Type 0} (xs : List A) (k : ℕ) (x : A) → slice_get xs k ≡ Some x → Contains xs x
contains_at xs k x e = (k, slice_get_within xs k x e, get_or_from_slice_get xs k x x e)

some_same : {A : Type 0} (x y : A) → Some x ≡ Some y → x ≡ y
some_same x y e = cc

pub drop_at : {A : Type 0} (xs : List A) (k : ℕ) (x : A) → slice_get xs k ≡ Some x → drop k xs ≡ x ∷ drop (k + 1) xs
drop_at [] k x e = absurd (let h = slice_get_within [] k x e in omega arith)
drop_at (y ∷ xs) zero x e = ap (λ z. z ∷ xs) (some_same y x e)
drop_at (y ∷ xs) (suc k) x e = let s : suc k + 1 ≡ suc (k + 1) = omega arith in drop_at xs k x e ∙ rw s refl

-- the rows that wait, with the last apart
pub one_less : (xs : List Row) (n : ℕ) (d : Row) → 0 < n → n - 1 < length xs → take n xs ≡ take (n - 1) xs ++ get_or xs (n - 1) d ∷ []
one_less xs n d h k =
    let e : n ≡ n - 1 + 1 = omega arith in
    ap (λ m. take m xs) e ∙ take_more xs (n - 1) d k

pub last_waits : (xs : List Row) (n : ℕ) (d : Row) → 0 < n → n - 1 < length xs → Contains (take n xs) (get_or xs (n - 1) d)
last_waits xs n d h k = rw (one_less xs n d h k) (Contains-push (take (n - 1) xs) (get_or xs (n - 1) d))

same_reach : (c d : Row → List Row) (root : Row) → ((r : Row) → d r ≡ c r) → {r : Row} → Reaches c root r → Reaches d root r
same_reach c d root e itself = itself
same_reach c d root e (child {r = r} {q = q} p h) =
    child (same_reach c d root e p) (subst (λ (xs : List Row). Contains xs q) (sym (e r)) h)

-- children that are the same as functions of the row
pub same_halfway : (c d : Row → List Row) (root : Row) (old m : List Bool) (pending : List Row) (row : Row) (left : List Row)
    → ((r : Row) → d r ≡ c r) → Halfway c root old m pending row left → Halfway d root old m pending row left
same_halfway c d root old m pending row left e half =
    let reach : (r : Row) → Reaches c root r → Reaches d root r = λ r p. same_reach c d root e p in
    record {
      rows = half.rows;
      kept = half.kept;
      only = λ r k. elim (half.only r k) [ inl o ↦ inl o | inr p ↦ inr (reach r p) ];
      waiting = λ r w. reach r (half.waiting r w);
      row = reach row half.row;
      ahead = λ q a. reach q (half.ahead q a);
      begun = half.begun;
      closed = λ r s k h. half.closed r s k (subst (λ (xs : List Row). Contains xs s) (e r) h);
    }
