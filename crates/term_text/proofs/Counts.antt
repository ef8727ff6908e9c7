-- One row's count more.
use Rattle.std.proofs.Common.{◌≡◌, ◌≢◌, ℕ, zero, suc, ◌+◌, ◌<◌, ◌≤◌, ◌⊎◌, inl, inr, List, [], ◌∷◌, ◌++◌, Some, length, take, get_or, refl, ap, sym, ◌∙◌, subst, arith}
use Rattle.std.proofs.Math.ListN.{set}
use Rattle.std.proofs.Math.Nat.{min-eq_left, min-eq_right}
use Rattle.std.specs.Prelude.{slice_get, sum_by, min}
use Rattle.std.proofs.lemmas.Option.{slice_get_within, get_or_from_slice_get}
use Rattle.std.proofs.lemmas.List.{take_more, get_or-set_same, get_or-set_other}
use Rattle.std.proofs.lemmas.List.Sums.{sum_by_push}
use Rattle.std.proofs.lemmas.Bool.{cases_lt}
use Rattle.std.proofs.lemmas.Bool.Decides.{eqb_tells, leb_tells}
use Rattle.term_model.specs.declared.Row.{Row}
use Rattle.term_model.specs.Tree.{Tree, nodes, arguments}
use Rattle.terms_api.specs.Terms.{Store, HasTree, IsHeld, IsSound, tree_at}
use Rattle.terms_api.proofs.Callers.{has-held}
use Rattle.std.proofs.Math.Seq.{take-length}
use Rattle.term_text.specs.Sizes.{saturated}
use Rattle.term_text.specs.Tally.{count_at, IsCounted, HasCount, CountedBefore, counted_rows}
use Rattle.term_text.proofs.Shapes.{some_same, nodes-arguments}

pub same_number : (m n : ℕ) → (m ≡ n) ⊎ (m ≢ n)
same_number m n = elim (eqb_tells m n) [ inl t ↦ inl t.1 | inr t ↦ inr t.1 ]

pub row_same : (r q : Row) → r.0 ≡ q.0 → r ≡ q
row_same r q e = ap (λ (n : ℕ). let x : Row = record { 0 = n } in x) e

-- the row's count is set, and others are as before
pub count_here : (counts : List ℕ) (r : Row) (v : ℕ) → r.0 < length counts → count_at (set counts r.0 v) r ≡ v
count_here counts r v h = get_or-set_same counts r.0 v 0 h

pub count_else : (counts : List ℕ) (r q : Row) (v : ℕ) → q.0 ≢ r.0 → count_at (set counts r.0 v) q ≡ count_at counts q
count_else counts r q v ne = get_or-set_other counts r.0 q.0 v 0 ne

pub counted_here : (counts : List ℕ) (r : Row) (v : ℕ) → r.0 < length counts → 0 < v → IsCounted (set counts r.0 v) r
counted_here counts r v h some = let e = count_here counts r v h in omega (arith, e)

pub counted_kept : (counts : List ℕ) (r q : Row) (v : ℕ) → r.0 < length counts → 0 < v → IsCounted counts q → IsCounted (set counts r.0 v) q
counted_kept counts r q v h some k =
    elim (same_number q.0 r.0) [
      | inl e ↦ subst (IsCounted (set counts r.0 v)) (sym (row_same q r e)) (counted_here counts r v h some)
      | inr ne ↦ (let e = count_else counts r q v ne in omega (arith, e, k))
    ]

pub counted_cases : (counts : List ℕ) (r q : Row) (v : ℕ) → IsCounted (set counts r.0 v) q → (q ≡ r) ⊎ ((q.0 ≢ r.0) × IsCounted counts q)
counted_cases counts r q v k =
    elim (same_number q.0 r.0) [
      | inl e ↦ inl (row_same q r e)
      | inr ne ↦ inr (ne, (let e = count_else counts r q v ne in omega (arith, e, k)))
    ]

pub has_count_kept : (s : Store) (counts : List ℕ) (r : Row) (v : ℕ) (t : Tree) → r.0 < length counts → 0 < v → HasCount s counts t → HasCount s (set counts r.0 v) t
has_count_kept s counts r v t h some x = (x.0, x.1, counted_kept counts r x.0 v h some x.2)

pub before_kept : (s : Store) (counts : List ℕ) (r q : Row) (v n : ℕ) → r.0 < length counts → 0 < v → CountedBefore s counts q n → CountedBefore s (set counts r.0 v) q n
before_kept s counts r q v n h some before = λ j t k e. has_count_kept s counts r v t h some (before j t k e)

-- one more argument is counted
pub before_more : (s : Store) (counts : List ℕ) (row child : Row) (n : ℕ) → CountedBefore s counts row n
    → slice_get (arguments (tree_at s row)) n ≡ Some (tree_at s child) → HasTree s child (tree_at s child) → IsCounted counts child
    → CountedBefore s counts row (n + 1)
before_more s counts row child n before at has counted = λ j t k e.
    elim (same_number j n) [
      | inl same ↦ (let f : Some t ≡ Some (tree_at s child) = sym e ∙ ap (slice_get (arguments (tree_at s row))) same ∙ at in
          subst (HasCount s counts) (sym (some_same t (tree_at s child) f)) (child, has, counted))
      | inr ne ↦ before j t (omega arith) e
    ]

pub none_counted : (counts : List ℕ) (q : Row) → length counts ≤ q.0 → count_at counts q ≡ 0
none_counted counts q h = past counts q.0 h
  where
    past : (cs : List ℕ) (i : ℕ) → length cs ≤ i → get_or cs i 0 ≡ 0
    past [] i h = refl
    past (c ∷ cs) zero h = absurd (omega arith)
    past (c ∷ cs) (suc i) h = past cs i (omega arith)

-- none is counted in a list that is filled up with 0
pub none_filled : (old new : List ℕ) (n : ℕ) → length new ≡ n → ((r : Row) → count_at old r ≡ 0)
    → ((k : ℕ) → k < n → k < length old → get_or new k 0 ≡ get_or old k 0)
    → ((k : ℕ) → length old ≤ k → k < n → get_or new k 0 ≡ 0) → (r : Row) → count_at new r ≡ 0
none_filled old new n size none same more r =
    elim (cases_lt r.0 n) [
      | inl below ↦ elim (cases_lt r.0 (length old)) [
        | inl there ↦ same r.0 below there ∙ none r
        | inr past ↦ more r.0 past below
      ]
      | inr past ↦ none_counted new r (omega (arith, size, past))
    ]

-- how many rows are counted
pub counted_bound : (counts : List ℕ) → counted_rows counts ≤ length counts
counted_bound [] = omega arith
counted_bound (zero ∷ counts) = let rest = counted_bound counts in omega (arith, rest)
counted_bound (suc n ∷ counts) = let rest = counted_bound counts in omega (arith, rest)

pub counted_more : (counts : List ℕ) (i v : ℕ) → i < length counts → get_or counts i 0 ≡ 0 → 0 < v → counted_rows (set counts i v) ≡ counted_rows counts + 1
counted_more [] i v h e some = absurd (omega arith)
counted_more (c ∷ counts) i zero h e some = absurd (omega arith)
counted_more (zero ∷ counts) zero (suc v) h e some = refl
counted_more (suc c ∷ counts) zero (suc v) h e some = absurd (omega (arith, e))
counted_more (zero ∷ counts) (suc i) (suc v) h e some = counted_more counts i (suc v) (omega arith) e some
counted_more (suc c ∷ counts) (suc i) (suc v) h e some = ap (λ n. n + 1) (counted_more counts i (suc v) (omega arith) e some)

-- sums as far as they count
sum_capped : (m a b : ℕ) → min (min a m + min b m) m ≡ min (a + b) m
sum_capped m a b =
    elim (leb_tells a m) [
      | inl la ↦ elim (leb_tells b m) [
        | inl lb ↦ ap (λ n. min n m) (ap (λ n. n + min b m) (min-eq_left la.1) ∙ ap (λ n. a + n) (min-eq_left lb.1))
        | inr gb ↦ full (min a m) (min b m) (a + b) (let e : min b m ≡ m = min-eq_right {n = m} {m = b} (omega (arith, gb.1)) in omega (arith, e)) (omega (arith, gb.1))
      ]
      | inr ga ↦ full (min a m) (min b m) (a + b) (let e : min a m ≡ m = min-eq_right {n = m} {m = a} (omega (arith, ga.1)) in omega (arith, e)) (omega (arith, ga.1))
    ]
  where
    full : (x y z : ℕ) → m ≤ x + y → m ≤ z → min (x + y) m ≡ min z m
    full x y z h k = min-eq_right {n = m} {m = x + y} h ∙ sym (min-eq_right {n = m} {m = z} k)

pub saturated_sum : (a b : ℕ) → saturated (saturated a + saturated b) ≡ saturated (a + b)
saturated_sum a b = sum_capped 18446744073709551615 a b

pub some_saturated : (n : ℕ) → 0 < n → 0 < saturated n
some_saturated n h =
    elim (leb_tells n 18446744073709551615) [
      | inl le ↦ (let e : saturated n ≡ n = min-eq_left le.1 in omega (arith, e))
      | inr gt ↦ (let e : saturated n ≡ 18446744073709551615 = min-eq_right {n = 18446744073709551615} {m = n} (omega (arith, gt.1)) in omega (arith, e))
    ]

-- an argument's nodes are added
pub sum_more : (xs : List Tree) (j : ℕ) (t : Tree) → slice_get xs j ≡ Some t → sum_by nodes (take (j + 1) xs) ≡ sum_by nodes (take j xs) + nodes t
sum_more xs j t at =
    let there : get_or xs j t ≡ t = get_or_from_slice_get xs j t t at in
    let more : take (j + 1) xs ≡ take j xs ++ t ∷ [] = take_more xs j t (slice_get_within xs j t at) ∙ ap (λ x. take j xs ++ x ∷ []) there in
    ap (sum_by nodes) more ∙ sum_by_push nodes (take j xs) t

-- the count of an argument that is counted is exact
pub argument_exact : (s : Store) (counts : List ℕ) (row child : Row) (j n : ℕ) → IsSound s
    → ((r : Row) → IsCounted counts r → count_at counts r ≡ saturated (nodes (tree_at s r)))
    → CountedBefore s counts row n → j < n → slice_get (arguments (tree_at s row)) j ≡ Some (tree_at s child) → IsHeld s child
    → count_at counts child ≡ saturated (nodes (tree_at s child))
argument_exact s counts row child j n sound exact all lt at held =
    let x = all j (tree_at s child) lt at in
    let same = sound.one_row x.0 child (tree_at s child) x.1 (has-held s child held) in
    exact child (subst (IsCounted counts) same x.2)

-- an argument's nodes are added to the sum
pub sum_goes_on : (s : Store) (row child : Row) (j now count new : ℕ)
    → now ≡ saturated (sum_by nodes (take j (arguments (tree_at s row))) + 1)
    → count ≡ saturated (nodes (tree_at s child)) → slice_get (arguments (tree_at s row)) j ≡ Some (tree_at s child)
    → new ≡ saturated (now + count)
    → new ≡ saturated (sum_by nodes (take (j + 1) (arguments (tree_at s row))) + 1)
sum_goes_on s row child j now count new a b at e =
    let xs = arguments (tree_at s row) in
    let before = sum_by nodes (take j xs) in
    let n = nodes (tree_at s child) in
    let more = sum_more xs j (tree_at s child) at in
    let swap : before + 1 + n ≡ sum_by nodes (take (j + 1) xs) + 1 = omega (arith, more) in
    e ∙ ap (λ m. saturated (m + count)) a ∙ ap (λ m. saturated (saturated (before + 1) + m)) b
    ∙ saturated_sum (before + 1) n ∙ ap saturated swap

pub sum_ends : (s : Store) (row : Row) (j now : ℕ) → now ≡ saturated (sum_by nodes (take j (arguments (tree_at s row))) + 1)
    → j ≡ length (arguments (tree_at s row)) → now ≡ saturated (nodes (tree_at s row))
sum_ends s row j now a e =
    let xs = arguments (tree_at s row) in
    let whole : take j xs ≡ xs = ap (λ n. take n xs) e ∙ take-length xs in
    a ∙ ap (λ ys. saturated (sum_by nodes ys + 1)) whole ∙ ap saturated (sym (nodes-arguments (tree_at s row)))

pub any_default : {A : Type 0} (xs : List A) (i : ℕ) (d e : A) → i < length xs → get_or xs i d ≡ get_or xs i e
any_default [] i d e h = absurd (omega arith)
any_default (x ∷ xs) zero d e h = refl
any_default (x ∷ xs) (suc i) d e h = any_default xs i d e (omega arith)

pub counted_below : (counts : List ℕ) (r : Row) → IsCounted counts r → r.0 < length counts
counted_below counts r k =
    elim (leb_tells (length counts) r.0) [
      | inl past ↦ absurd (let none = none_counted counts r past.1 in omega (arith, none, k))
      | inr within ↦ within.1
    ]

pub none_rows : (counts : List ℕ) → ((i : ℕ) → get_or counts i 0 ≡ 0) → counted_rows counts ≡ 0
none_rows [] none = refl
none_rows (zero ∷ counts) none = none_rows counts (λ i. none (suc i))
none_rows (suc n ∷ counts) none = absurd (let e : suc n ≡ 0 = none 0 in omega arith)
