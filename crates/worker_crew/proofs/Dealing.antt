-- Each step of the draws keeps their rule.
use Rattle.std.proofs.Common.{◌≡◌, ◌≢◌, ℕ, zero, suc, ◌+◌, ◌%◌, ◌^◌, ◌<◌, ◌≤◌, ◌⊎◌, ◌==◌, eq-eqb, ne_eqb, cond, List, [], ◌∷◌, ◌++◌, length, get_or, set, sum_by, nat_lt, refl, sym, ap, subst, ◌∙◌, inl, inr, ⊎_elim, arith, length-set, zero-add, get_or-set_same, All}
use mathlib.Core.Logic.{dite}
use mathlib.Core.Option.{none, some, some-injective, some-ne-none}
use native.Mathlib.Decide.{ℕ_discrete}
use lib.ListN.{get_elem?}
use native.Mathlib.Nat.{mod-eq_of_lt}
use Rattle.std.proofs.lemmas.Bool.{lt-ltb, le-ltb, cases_lt}
use Rattle.std.proofs.lemmas.List.Elements.{All-head, All-tail, All-from_get_or}
use Rattle.std.proofs.lemmas.List.Sums.{sum_by-append, sum_by-set}
use Rattle.atomic_table.specs.Table.{State, Me, keeps, step, stepped, Allows, Splits, Joins, opening}
use Rattle.atomic_table.proofs.Lists.{at_set, at_snoc, set_again, set_else}
use Rattle.worker_crew.specs.declared.draws.Drawn.{Drawn}
use Rattle.worker_crew.specs.declared.draws.Extent.{Extent}
use Rattle.worker_crew.specs.Dealt.{times, once_below, IsDealt, drew, Draws, Looks, one_less, one_share, joined, spent, undrawn, IsInOne}

-- a view that is there is at its place
pub there : {A : Type 0} (l : List A) (i : ℕ) (a d : A) → get_elem? l i ≡ some a → (i < length l) × (get_or l i d ≡ a)
there [] i a d e = absurd (some-ne-none a (sym e))
there (x ∷ xs) zero a d e = (omega arith, some-injective x a e)
there (x ∷ xs) (suc i) a d e = let r = there xs i a d e in let lt = r.0 in (omega arith, r.1)

-- a sum over all but one that changed
pub sum_set : {A : Type 0} (f : A → ℕ) (l : List A) (i : ℕ) (a b : A) → get_elem? l i ≡ some a → sum_by f (set l i b) + f a ≡ sum_by f l + f b
sum_set f l i a b e =
    let t = there l i a b e in
    subst (λ (y : _). sum_by f (set l i b) + f y ≡ sum_by f l + f b) t.1 (sum_by-set f l i b b t.0)

pub sum_cons : {A : Type 0} (f : A → ℕ) (x : A) (xs : List A) → sum_by f (x ∷ xs) ≡ f x + sum_by f xs
sum_cons f x xs = sum_by-append f (x ∷ []) xs ∙ ap (λ n. n + sum_by f xs) (zero-add (f x))

pub sum_snoc : {A : Type 0} (f : A → ℕ) (x : A) (xs : List A) → sum_by f (xs ++ x ∷ []) ≡ sum_by f xs + f x
sum_snoc f x xs = sum_by-append f xs (x ∷ []) ∙ ap (λ n. sum_by f xs + n) (zero-add (f x))

-- a sum is no more than another where each part is no more
pub sum_most : {A : Type 0} (f g : A → ℕ) (l : List A) → ((k : ℕ) (a : A) → get_elem? l k ≡ some a → f a ≤ g a) → sum_by f l ≤ sum_by g l
sum_most f g [] h = omega arith
sum_most f g (x ∷ xs) h =
    let first : f x ≤ g x = h 0 x refl in
    let rest = sum_most f g xs (λ k a e. h (suc k) a e) in
    let p = sum_cons f x xs in let q = sum_cons g x xs in omega arith

pub sum_none : {A : Type 0} (f : A → ℕ) (l : List A) → ((k : ℕ) (a : A) → get_elem? l k ≡ some a → f a ≡ 0) → sum_by f l ≡ 0
sum_none f [] h = refl
sum_none f (x ∷ xs) h =
    let first : f x ≡ 0 = h 0 x refl in
    let rest = sum_none f xs (λ k a e. h (suc k) a e) in
    let p = sum_cons f x xs in omega arith

-- where a sum is 0 each part is
pub none_of_sum : {A : Type 0} (f : A → ℕ) (l : List A) → sum_by f l ≡ 0 → (k : ℕ) (a : A) → get_elem? l k ≡ some a → f a ≡ 0
none_of_sum f [] h k a e = absurd (some-ne-none a (sym e))
none_of_sum f (x ∷ xs) h zero a e = let p = sum_cons f x xs in let q : f x ≡ 0 = omega arith in subst (λ (y : _). f y ≡ 0) (some-injective x a e) q
none_of_sum f (x ∷ xs) h (suc k) a e = let p = sum_cons f x xs in none_of_sum f xs (omega arith) k a e

pub each_set : {A : Type 0} (P : A → Type 0) (l : List A) (i : ℕ) (w : A) → ((k : ℕ) (v : A) → get_elem? l k ≡ some v → P v) → P w →
    (k : ℕ) (v : A) → get_elem? (set l i w) k ≡ some v → P v
each_set P l i w h new k v e = ⊎_elim (λ t. subst P t.1 new) (λ t. h k v t.1) (at_set l i k w v e)

pub each_snoc : {A : Type 0} (P : A → Type 0) (l : List A) (w : A) → ((k : ℕ) (v : A) → get_elem? l k ≡ some v → P v) → P w →
    (k : ℕ) (v : A) → get_elem? (l ++ w ∷ []) k ≡ some v → P v
each_snoc P l w h new k v e = ⊎_elim (λ t. h k v t) (λ t. subst P t new) (at_snoc l w v k e)

-- a part is no more than the sum
pub part_most : {A : Type 0} (f : A → ℕ) (l : List A) (k : ℕ) (a : A) → get_elem? l k ≡ some a → f a ≤ sum_by f l
part_most f [] k a e = absurd (some-ne-none a (sym e))
part_most f (x ∷ xs) zero a e = let p = sum_cons f x xs in let q = ap f (some-injective x a e) in omega arith
part_most f (x ∷ xs) (suc k) a e = let p = sum_cons f x xs in let q = part_most f xs k a e in omega arith

-- whether a number is the one found
abbrev pub hit : ℕ → ℕ → ℕ
hit x n = cond (n == x) 1 0

pub times_snoc : (x n : ℕ) (xs : List ℕ) → times x (xs ++ n ∷ []) ≡ times x xs + hit x n
times_snoc x n xs = sum_snoc (λ y. cond (y == x) 1 0) n xs

pub times_cons : (x n : ℕ) (xs : List ℕ) → times x (n ∷ xs) ≡ hit x n + times x xs
times_cons x n xs = sum_cons (λ y. cond (y == x) 1 0) n xs

pub times_append : (x : ℕ) (xs ys : List ℕ) → times x (xs ++ ys) ≡ times x xs + times x ys
times_append x xs ys = sum_by-append (λ y. cond (y == x) 1 0) xs ys

pub hit_same : (x : ℕ) → hit x x ≡ 1
hit_same x = ap (λ b. cond b 1 0) (eq-eqb x x refl)

pub hit_other : (x n : ℕ) → n ≢ x → hit x n ≡ 0
hit_other x n ne = ap (λ b. cond b 1 0) (ne_eqb n x ne)

pub below_yes : (n x : ℕ) → x < n → once_below n x ≡ 1
below_yes n x h = ap (λ b. cond b 1 0) (lt-ltb x n h)

pub below_no : (n x : ℕ) → n ≤ x → once_below n x ≡ 0
below_no n x h = ap (λ b. cond b 1 0) (le-ltb x n h)

-- what is there once is below
pub is_below : (n x : ℕ) → 0 < once_below n x → x < n
is_below n x h = ⊎_elim (λ lt. lt) (λ le. let z = below_no n x le in absurd (omega arith)) (cases_lt x n)

-- one more number is below the next
one_more : (n x : ℕ) → once_below n x + hit x n ≡ once_below (n + 1) x
one_more n x = ⊎_elim
    (λ (lt : x < n). let a = below_yes n x lt in let b = hit_other x n (λ e. omega arith) in let c = below_yes (n + 1) x (omega arith) in omega arith)
    (λ (le : n ≤ x). dite (ℕ_discrete n x)
    (λ e. let a = below_no n x le in let b : hit x n ≡ 1 = ap (hit x) e ∙ hit_same x in let c = below_yes (n + 1) x (omega arith) in omega arith)
    (λ ne. let a = below_no n x le in let b = hit_other x n ne in let c = below_no (n + 1) x (omega arith) in omega arith))
    (cases_lt x n)

-- a number of a list is in it
pub is_in : (xs : List ℕ) (k : ℕ) → k < length xs → 0 < times (get_or xs k 0) xs
is_in [] k h = absurd (omega arith)
is_in (x ∷ xs) zero h = let a = times_cons x x xs in let b = hit_same x in omega arith
is_in (x ∷ xs) (suc k) h = let y : ℕ = get_or xs k 0 in let a = times_cons y x xs in let b = is_in xs k (omega arith) in omega arith

-- where a draw is past the end or not
step_to : (n e p : ℕ) (P : ℕ → Type 0) → (n < e → P p) → (e ≤ n → P (p + 1)) → P (cond (nat_lt n e) p (p + 1))
step_to n e p P inside outside = ⊎_elim
    (λ h. subst (λ b. P (cond b p (p + 1))) (sym (lt-ltb n e h)) (inside h))
    (λ h. subst (λ b. P (cond b p (p + 1))) (sym (le-ltb n e h)) (outside h)) (cases_lt n e)

-- what two numbers come to, where the shares of one are none and all are there
module _ (about : Extent) (s : State (Unit {0}) Drawn) (holds : IsDealt about s) (id : ℕ) (v : Drawn) (at : get_elem? s.views id ≡ some v) where
  abbrev word : ℕ
  word = get_or s.words 0 0

  abbrev after : Drawn
  after = drew v word

  abbrev views : List Drawn
  views = set s.views id after

  -- all that was drawn is below the word
  above : All (λ x. x < word) v.numbers
  above = All-from_get_or (λ x. x < word) v.numbers 0 (λ k h.
      let y : ℕ = get_or v.numbers k 0 in
      let a : 0 < times y v.numbers = is_in v.numbers k h in
      let b : times y v.numbers ≤ sum_by (λ (u : Drawn). times y u.numbers) s.views = part_most (λ (u : Drawn). times y u.numbers) s.views id v at in
      let c : sum_by (λ (u : Drawn). times y u.numbers) s.views ≡ once_below word y = holds.once y in
      is_below word y (omega arith))

  module _ (share : v.past < v.shares) where
    past_most : after.past ≤ v.shares
    past_most = step_to word v.end v.past (λ p. p ≤ v.shares) (λ _. omega arith) (λ _. omega arith)

    past_each : (k : ℕ) (u : Drawn) → get_elem? views k ≡ some u → u.past ≤ u.shares
    past_each = each_set (λ (u : Drawn). u.past ≤ u.shares) s.views id after holds.past past_most

    shares_same : sum_by (λ (u : Drawn). u.shares) views ≡ about.shares
    shares_same = let a = sum_set (λ (u : Drawn). u.shares) s.views id v after at in let b = holds.shares in omega arith

    word_most : word + 1 ≤ about.end + sum_by (λ (u : Drawn). u.past) views
    word_most =
        let new : ℕ = sum_by (λ (u : Drawn). u.past) views in
        let old : ℕ = sum_by (λ (u : Drawn). u.past) s.views in
        let a : new + v.past ≡ old + after.past = sum_set (λ (u : Drawn). u.past) s.views id v after at in
        let b : word ≤ about.end + old = holds.word in
        let c : v.end ≡ about.end = holds.end id v at (omega arith) in
        step_to word v.end v.past (λ p. new + v.past ≡ old + p → word + 1 ≤ about.end + new) (λ lt e. omega arith) (λ le e. omega arith) a

    word_fits : word + 1 < 2 ^ 64
    word_fits =
        let a : sum_by (λ (u : Drawn). u.past) views ≤ sum_by (λ (u : Drawn). u.shares) views = sum_most (λ (u : Drawn). u.past) (λ (u : Drawn). u.shares) views past_each in
        let b = shares_same in let c = word_most in let d = holds.fits in omega arith

    new_word : get_or (set s.words 0 ((word + 1) % 2 ^ 64)) 0 0 ≡ word + 1
    new_word = let one = holds.one_word in get_or-set_same s.words 0 ((word + 1) % 2 ^ 64) 0 (omega arith) ∙ mod-eq_of_lt word_fits

    once_each : (x : ℕ) → sum_by (λ (u : Drawn). times x u.numbers) views ≡ once_below (word + 1) x
    once_each x =
        let a = sum_set (λ (u : Drawn). times x u.numbers) s.views id v after at in
        let b = times_snoc x word v.numbers in let c = holds.once x in let d = one_more word x in omega arith

    pub draw_keeps : IsDealt about (record { words = set s.words 0 ((word + 1) % 2 ^ 64); homes = s.homes; views = views })
    draw_keeps = record {
      one_word = length-set s.words 0 ((word + 1) % 2 ^ 64) ∙ holds.one_word;
      once = λ x. once_each x ∙ ap (λ n. once_below n x) (sym new_word);
      shares = shares_same;
      idle = each_set (λ (u : Drawn). u.shares ≡ 0 → u.numbers ≡ []) s.views id after holds.idle (λ unshared. absurd (omega arith));
      end = each_set (λ (u : Drawn). 0 < u.shares → u.end ≡ about.end) s.views id after holds.end (λ h. holds.end id v at h);
      past = past_each;
      word = subst (λ n. n ≤ about.end + sum_by (λ (u : Drawn). u.past) views) (sym new_word) word_most;
      fits = holds.fits;
    }

-- what a draw owes
pub draw_allowed : (about : Extent) (slots id : ℕ) (me : Me (Unit {0}) Drawn) → me.1 ≡ [] → me.0.past < me.0.shares →
    Allows (IsDealt about) slots id me 0 (λ n. (n + 1) % 2 ^ 64) (Draws (step slots 0 1 0 none) me)
draw_allowed about slots id me empty share = λ s holds homes at fits. (
  drew me.0 (get_or s.words 0 0),
  keeps,
  tt,
  draw_keeps about s holds id me.0 at share,
  (ap (λ c. (drew me.0 (get_or s.words 0 0), c)) empty, above about s holds id me.0 at),
)

-- one who has all shares has all numbers
pub whole : (about : Extent) (s : State (Unit {0}) Drawn) → IsDealt about s → (id : ℕ) (v : Drawn) → get_elem? s.views id ≡ some v → v.shares ≡ about.shares →
    (x : ℕ) → times x v.numbers ≡ once_below (get_or s.words 0 0) x
whole about s holds id v at all x =
    let others : List Drawn = set s.views id spent in
    let a = sum_set (λ (u : Drawn). u.shares) s.views id v spent at in
    let nothing : sum_by (λ (u : Drawn). u.shares) others ≡ 0 = let b = holds.shares in omega arith in
    let idle : (k : ℕ) (u : Drawn) → get_elem? others k ≡ some u → u.shares ≡ 0 → u.numbers ≡ [] =
    each_set (λ (u : Drawn). u.shares ≡ 0 → u.numbers ≡ []) s.views id spent holds.idle (λ _. refl) in
    let zero_each : sum_by (λ (u : Drawn). times x u.numbers) others ≡ 0 =
    sum_none (λ (u : Drawn). times x u.numbers) others (λ k u e. ap (times x) (idle k u e (none_of_sum (λ (u : Drawn). u.shares) others nothing k u e))) in
    let b = sum_set (λ (u : Drawn). times x u.numbers) s.views id v spent at in
    let c = holds.once x in omega arith

first_again : (l : List ℕ) → length l ≡ 1 → set l 0 (get_or l 0 0) ≡ l
first_again [] one = absurd (omega arith)
first_again (x ∷ xs) one = refl

pub look_allowed : (about : Extent) (slots id : ℕ) (me : Me (Unit {0}) Drawn) → me.0.shares ≡ about.shares →
    Allows (IsDealt about) slots id me 0 (λ n. n) (Looks (step slots 0 0 0 none) me)
look_allowed about slots id me all = λ s holds homes at fits.
    (me.0, keeps, tt, kept s holds at, (refl, whole about s holds id me.0 at all))
  where
    kept : (s : State (Unit {0}) Drawn) → IsDealt about s → get_elem? s.views id ≡ some me.0 →
        IsDealt about (stepped s 0 (get_or s.words 0 0) id me.1 me.0 keeps)
    kept s holds at =
        let same_words : set s.words 0 (get_or s.words 0 0) ≡ s.words = first_again s.words holds.one_word in
        let same_views : set s.views id me.0 ≡ s.views = set_again s.views id me.0 at in
        subst (λ ws. IsDealt about (record { words = ws; homes = s.homes; views = set s.views id me.0 })) (sym same_words)
        (subst (λ vs. IsDealt about (record { words = s.words; homes = s.homes; views = vs })) (sym same_views) holds)

-- one share is cut off a seat that has drawn nothing
pub cut_allowed : (about : Extent) (id : ℕ) (v : Drawn) → 0 < v.shares → v.numbers ≡ [] → v.past ≡ 0 → Splits (IsDealt about) id v (one_less v) (one_share v)
cut_allowed about id v share undrawn_yet past = λ s holds at.
    let mid : List Drawn = set s.views id (one_less v) in
    record {
      one_word = holds.one_word;
      once = λ x.
          let a = sum_set (λ (u : Drawn). times x u.numbers) s.views id v (one_less v) at in
          let b = sum_snoc (λ (u : Drawn). times x u.numbers) (one_share v) mid in
          let c = holds.once x in omega arith;
      shares =
          let a = sum_set (λ (u : Drawn). u.shares) s.views id v (one_less v) at in
          let b = sum_snoc (λ (u : Drawn). u.shares) (one_share v) mid in
          let c = holds.shares in omega arith;
      idle = each_snoc (λ (u : Drawn). u.shares ≡ 0 → u.numbers ≡ []) mid (one_share v)
          (each_set (λ (u : Drawn). u.shares ≡ 0 → u.numbers ≡ []) s.views id (one_less v) holds.idle (λ _. undrawn_yet)) (λ _. refl);
      end = each_snoc (λ (u : Drawn). 0 < u.shares → u.end ≡ about.end) mid (one_share v)
          (each_set (λ (u : Drawn). 0 < u.shares → u.end ≡ about.end) s.views id (one_less v) holds.end (λ _. holds.end id v at share)) (λ _. holds.end id v at share);
      past = each_snoc (λ (u : Drawn). u.past ≤ u.shares) mid (one_share v)
          (each_set (λ (u : Drawn). u.past ≤ u.shares) s.views id (one_less v) holds.past (omega (arith, past))) (omega arith);
      word =
          let a = sum_set (λ (u : Drawn). u.past) s.views id v (one_less v) at in
          let b = sum_snoc (λ (u : Drawn). u.past) (one_share v) mid in
          let c = holds.word in omega arith;
      fits = holds.fits;
    }

-- a seat that has a share is joined to another
pub join_allowed : (about : Extent) (id : ℕ) (v : Drawn) (other : ℕ) (w : Drawn) → 0 < w.shares → Joins (IsDealt about) id v other w (joined v w) spent
join_allowed about id v other w share = λ s holds at apart at_other.
    let mid : List Drawn = set s.views id (joined v w) in
    let old_other : get_elem? s.views other ≡ some w = sym (set_else s.views id other (joined v w) apart) ∙ at_other in
    let end : w.end ≡ about.end = holds.end other w old_other share in
    record {
      one_word = holds.one_word;
      once = λ x.
          let a = sum_set (λ (u : Drawn). times x u.numbers) s.views id v (joined v w) at in
          let b = sum_set (λ (u : Drawn). times x u.numbers) mid other w spent at_other in
          let c = times_append x v.numbers w.numbers in
          let d = holds.once x in omega arith;
      shares =
          let a = sum_set (λ (u : Drawn). u.shares) s.views id v (joined v w) at in
          let b = sum_set (λ (u : Drawn). u.shares) mid other w spent at_other in
          let c = holds.shares in omega arith;
      idle = each_set (λ (u : Drawn). u.shares ≡ 0 → u.numbers ≡ []) mid other spent
          (each_set (λ (u : Drawn). u.shares ≡ 0 → u.numbers ≡ []) s.views id (joined v w) holds.idle (λ unshared. absurd (omega arith))) (λ _. refl);
      end = each_set (λ (u : Drawn). 0 < u.shares → u.end ≡ about.end) mid other spent
          (each_set (λ (u : Drawn). 0 < u.shares → u.end ≡ about.end) s.views id (joined v w) holds.end (λ _. end)) (λ h. absurd (omega arith));
      past = each_set (λ (u : Drawn). u.past ≤ u.shares) mid other spent
          (each_set (λ (u : Drawn). u.past ≤ u.shares) s.views id (joined v w) holds.past
          (let a = holds.past id v at in let b = holds.past other w old_other in omega arith)) (omega arith);
      word =
          let a = sum_set (λ (u : Drawn). u.past) s.views id v (joined v w) at in
          let b = sum_set (λ (u : Drawn). u.past) mid other w spent at_other in
          let c = holds.word in omega arith;
      fits = holds.fits;
    }

-- nothing is drawn at the start
pub opens : (about : Extent) → about.end + about.shares < 2 ^ 64 → IsDealt about (opening (0 ∷ []) [] (undrawn about))
opens about fits = record {
  one_word = refl;
  once = λ x. sym (below_no 0 x (omega arith));
  shares = zero-add about.shares;
  idle = each_one (λ (u : Drawn). u.shares ≡ 0 → u.numbers ≡ []) (undrawn about) (λ _. refl);
  end = each_one (λ (u : Drawn). 0 < u.shares → u.end ≡ about.end) (undrawn about) (λ _. refl);
  past = each_one (λ (u : Drawn). u.past ≤ u.shares) (undrawn about) (omega arith);
  word = omega arith;
  fits = fits;
}
  where
    each_one : (P : Drawn → Type 0) (w : Drawn) → P w → (k : ℕ) (v : Drawn) → get_elem? (w ∷ []) k ≡ some v → P v
    each_one P w h zero v e = subst P (some-injective w v e) h
    each_one P w h (suc k) v e = absurd (some-ne-none v (sym e))

-- where a sum is one, one part is, and no other is anything
pub sum_one : {A : Type 0} (f : A → ℕ) (l : List A) → sum_by f l ≡ 1 →
    (k : ℕ) × (a : A) × (get_elem? l k ≡ some a) × (f a ≡ 1) × ((j : ℕ) (b : A) → get_elem? l j ≡ some b → j ≢ k → f b ≡ 0)
sum_one f [] h = absurd (omega arith)
sum_one f (x ∷ xs) h = ⊎_elim
    (λ (first : f x ≡ 1).
    let p = sum_cons f x xs in let rest : sum_by f xs ≡ 0 = omega arith in
    (0, x, refl, first, others_none x xs rest))
    (λ (first : f x ≡ 0).
    let p = sum_cons f x xs in let found = sum_one f xs (omega arith) in
    (suc found.0, found.1, found.2, found.3, shifted x xs found.0 first found.4))
    (first_is (f x) (let p = sum_cons f x xs in omega arith))
  where
    first_is : (n : ℕ) → n ≤ 1 → (n ≡ 1) ⊎ (n ≡ 0)
    first_is zero h = inr refl
    first_is (suc n) h = inl (omega arith)

    others_none : (x : _) (xs : List _) → sum_by f xs ≡ 0 → (j : ℕ) (b : _) → get_elem? (x ∷ xs) j ≡ some b → j ≢ 0 → f b ≡ 0
    others_none x xs rest zero b e ne = absurd (ne refl)
    others_none x xs rest (suc j) b e ne = none_of_sum f xs rest j b e

    shifted : (x : _) (xs : List _) (k : ℕ) → f x ≡ 0 → ((j : ℕ) (b : _) → get_elem? xs j ≡ some b → j ≢ k → f b ≡ 0) →
        (j : ℕ) (b : _) → get_elem? (x ∷ xs) j ≡ some b → j ≢ suc k → f b ≡ 0
    shifted x xs k first rest zero b e ne = ap f (sym (some-injective x b e)) ∙ first
    shifted x xs k first rest (suc j) b e ne = rest j b e (λ same. ne (ap suc same))

pub in_one : (about : Extent) (s : State (Unit {0}) Drawn) → IsDealt about s → (x : ℕ) → x < get_or s.words 0 0 → IsInOne x s.views
in_one about s holds x below =
    let found = sum_one (λ (v : Drawn). times x v.numbers) s.views (holds.once x ∙ below_yes (get_or s.words 0 0) x below) in
    record { place = found.0; view = found.1; at = found.2; once = found.3; others = found.4 }

-- what is above isn't there
pub times_none : (n : ℕ) (xs : List ℕ) → All (λ x. n < x) xs → times n xs ≡ 0
times_none n [] h = refl
times_none n (x ∷ xs) h =
    let a : n < x = All-head (λ y. n < y) x xs h in
    let b = times_none n xs (All-tail (λ y. n < y) x xs h) in
    let c = hit_other n x (λ e. omega arith) in
    let d = times_cons n x xs in omega arith
