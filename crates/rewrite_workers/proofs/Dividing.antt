-- A hand of numbers that rises is known by what is in it.
use Rattle.std.proofs.Common.{◌≡◌, ◌≢◌, ℕ, zero, suc, ◌+◌, ◌<◌, ◌≤◌, cond, true, List, [], ◌∷◌, length, map, get_or, nat_lt, sum_by, eq-eqb, ne_eqb, refl, sym, ap, subst, ◌∙◌, ⊎_elim, add-zero, arith, All}
use mathlib.Core.Logic.{dite}
use native.Mathlib.Decide.{ℕ_discrete}
use Rattle.std.specs.List.{flat_map}
use Rattle.std.proofs.lemmas.Bool.{lt-ltb, le-ltb, ltb-true, cases_lt}
use Rattle.std.proofs.lemmas.List.Elements.{All-nil, All-head, All-tail, All-cons, All-weaker, All-filter, filter_passes}
use Rattle.std.proofs.lemmas.List.Concat.{flat_map-cons}
use Rattle.term_model.specs.Tree.{Tree, Leaf}
use Rattle.worker_crew.specs.Dealt.{times}
use Rattle.work_order.specs.Lined.{drawn_by}
use Rattle.work_order.specs.Works.{term_at}
use Rattle.work_order.specs.Drawn.{Rises, numbered}
use Rattle.rewrite_workers.specs.Worked.{of_terms}
use Rattle.worker_crew.proofs.Dealing.{hit, times_cons, times_append, hit_same, hit_other, sum_cons, times_none}

-- all that is no less than a number that isn't there is above it
pub all_next : (n : ℕ) (xs : List ℕ) → All (λ x. n ≤ x) xs → times n xs ≡ 0 → All (λ x. n + 1 ≤ x) xs
all_next n [] h none_there = All-nil (λ x. n + 1 ≤ x)
all_next n (x ∷ xs) h none_there =
    let a : n ≤ x = All-head (λ y. n ≤ y) x xs h in
    let d = times_cons n x xs in
    let ne : x ≢ n = (λ e. let same : hit n x ≡ 1 = ap (hit n) e ∙ hit_same n in omega arith) in
    All-cons (λ y. n + 1 ≤ y) x xs (omega arith) (all_next n xs (All-tail (λ y. n ≤ y) x xs h) (omega arith))

-- of a hand of numbers no less than one that is there, it is the first
first_is : (n x : ℕ) (xs : List ℕ) → n ≤ x → All (λ j. x < j) xs → 0 < times n (x ∷ xs) → x ≡ n
first_is n x xs least rises there = dite (ℕ_discrete x n) (λ e. e)
    (λ ne.
    let a = times_none n xs (All-weaker (λ j. x < j) (λ j. n < j) (λ j h. omega arith) xs rises) in
    let b = hit_other n x ne in
    let c = times_cons n x xs in absurd (omega arith))

none_of : (n : ℕ) → (0 < n → ⊥) → n ≡ 0
none_of zero h = refl
none_of (suc n) h = absurd (h (omega arith))

module _ (terms : List Tree) (k : ℕ) where
  -- who drew the terms from place o on
  pub record Parts (o : ℕ) (ws : List ℕ) (ts : List Tree) (hand : List ℕ) : Type 0 where
    pub long : length ws ≡ length ts
    pub rises : Rises hand
    pub least : All (λ i. o ≤ i) hand
    pub most : All (λ i. i < o + length ts) hand
    pub at : (j : ℕ) → j < length ts → get_or ts j (Leaf 0) ≡ term_at terms (o + j)
    pub there : (j : ℕ) → j < length ws → get_or ws j 0 ≡ k → 0 < times (o + j) hand
    pub here : (j : ℕ) → j < length ws → 0 < times (o + j) hand → get_or ws j 0 ≡ k

  tail_at : (o : ℕ) (t : Tree) (ts : List Tree) → ((j : ℕ) → j < suc (length ts) → get_or (t ∷ ts) j (Leaf 0) ≡ term_at terms (o + j)) →
      (j : ℕ) → j < length ts → get_or ts j (Leaf 0) ≡ term_at terms (o + 1 + j)
  tail_at o t ts at j h = at (suc j) (omega arith) ∙ ap (term_at terms) (let e : o + suc j ≡ o + 1 + j = omega arith in e)

  pub drawn_hand : (o : ℕ) (ws : List ℕ) (ts : List Tree) (hand : List ℕ) → Parts o ws ts hand → drawn_by k ws ts ≡ numbered terms hand
  drawn_hand o [] ts [] p = refl
  drawn_hand o [] ts (x ∷ xs) p =
      let a : o ≤ x = All-head (λ i. o ≤ i) x xs p.least in
      let b : x < o + length ts = All-head (λ i. i < o + length ts) x xs p.most in
      let c = p.long in absurd (omega arith)
  drawn_hand o (w ∷ ws) [] hand p = let c = p.long in absurd (omega arith)
  drawn_hand o (w ∷ ws) (t ∷ ts) hand p = dite (ℕ_discrete w k) (mine (λ xs q. drawn_hand (o + 1) ws ts xs q) hand p) (other (λ xs q. drawn_hand (o + 1) ws ts xs q) hand p)
    where
      -- the term at o is in the hand
      mine : ((xs : List ℕ) → Parts (o + 1) ws ts xs → drawn_by k ws ts ≡ numbered terms xs) → (hand : List ℕ) → Parts o (w ∷ ws) (t ∷ ts) hand → w ≡ k → drawn_by k (w ∷ ws) (t ∷ ts) ≡ numbered terms hand
      mine again [] p e = let a : 0 < 0 = p.there 0 (omega arith) e in absurd (omega arith)
      mine again (x ∷ xs) p e =
          let there : 0 < times o (x ∷ xs) = subst (λ n. 0 < times n (x ∷ xs)) (add-zero o) (p.there 0 (omega arith) e) in
          let least : o ≤ x = All-head (λ i. o ≤ i) x xs p.least in
          let same : x ≡ o = first_is o x xs least p.rises.0 there in
          let first : t ≡ term_at terms x = p.at 0 (omega arith) ∙ ap (term_at terms) (add-zero o ∙ sym same) in
          let rest : drawn_by k ws ts ≡ numbered terms xs = again xs (record {
            long = let c = p.long in omega arith;
            rises = p.rises.1;
            least = All-weaker (λ j. x < j) (λ j. o + 1 ≤ j) (λ j h. omega arith) xs p.rises.0;
            most = All-weaker (λ i. i < o + suc (length ts)) (λ i. i < o + 1 + length ts) (λ i h. omega arith) xs (All-tail (λ i. i < o + suc (length ts)) x xs p.most);
            at = tail_at o t ts p.at;
            there = λ j h e'. let a : 0 < times (o + suc j) (x ∷ xs) = p.there (suc j) (omega arith) e' in let b = times_cons (o + suc j) x xs in
                let c = hit_other (o + suc j) x (λ z. omega arith) in
                subst (λ n. 0 < times n xs) (let z : o + suc j ≡ o + 1 + j = omega arith in z) (let d : 0 < times (o + suc j) xs = omega arith in d);
            here = λ j h there'. p.here (suc j) (omega arith) (let b = times_cons (o + suc j) x xs in
                let d : 0 < times (o + suc j) xs = subst (λ n. 0 < times n xs) (let z : o + 1 + j ≡ o + suc j = omega arith in z) there' in omega arith);
          }) in
          ap (λ b. cond b (t ∷ drawn_by k ws ts) (drawn_by k ws ts)) (eq-eqb w k e)
          ∙ (ap (λ u. u ∷ drawn_by k ws ts) first ∙ ap (λ (us : List Tree). term_at terms x ∷ us) rest)

      -- it isn't
      other : ((xs : List ℕ) → Parts (o + 1) ws ts xs → drawn_by k ws ts ≡ numbered terms xs) → (hand : List ℕ) → Parts o (w ∷ ws) (t ∷ ts) hand → w ≢ k → drawn_by k (w ∷ ws) (t ∷ ts) ≡ numbered terms hand
      other again hand p ne =
          let away : times o hand ≡ 0 = none_of (times o hand) (λ there. ne (p.here 0 (omega arith) (subst (λ n. 0 < times n hand) (sym (add-zero o)) there))) in
          ap (λ b. cond b (t ∷ drawn_by k ws ts) (drawn_by k ws ts)) (ne_eqb w k ne)
          ∙ again hand (record {
            long = let c = p.long in omega arith;
            rises = p.rises;
            least = all_next o hand p.least away;
            most = All-weaker (λ i. i < o + suc (length ts)) (λ i. i < o + 1 + length ts) (λ i h. omega arith) hand p.most;
            at = tail_at o t ts p.at;
            there = λ j h e. subst (λ n. 0 < times n hand) (let z : o + suc j ≡ o + 1 + j = omega arith in z) (p.there (suc j) (omega arith) e);
            here = λ j h there. p.here (suc j) (omega arith) (subst (λ n. 0 < times n hand) (let z : o + 1 + j ≡ o + suc j = omega arith in z) there);
          })

-- the numbers of terms are numbers of terms
pub terms_below : (count : ℕ) (xs : List ℕ) → All (λ i. i < count) (of_terms count xs)
terms_below count xs = All-weaker (λ i. nat_lt i count ≡ true) (λ i. i < count) (λ i h. ltb-true i count h) (of_terms count xs) (filter_passes (λ i. nat_lt i count) xs)

-- and they rise where all do
pub terms_rise : (count : ℕ) (xs : List ℕ) → Rises xs → Rises (of_terms count xs)
terms_rise count [] r = tt
terms_rise count (x ∷ xs) r = ⊎_elim
    (λ (lt : x < count). subst Rises (sym (ap (λ b. cond b (x ∷ of_terms count xs) (of_terms count xs)) (lt-ltb x count lt)))
    (All-filter (λ i. nat_lt i count) (λ j. x < j) xs r.0, terms_rise count xs r.1))
    (λ (le : count ≤ x). subst Rises (sym (ap (λ b. cond b (x ∷ of_terms count xs) (of_terms count xs)) (le-ltb x count le))) (terms_rise count xs r.1))
    (cases_lt x count)

-- a number of a term is there as often
pub times_of_terms : (count i : ℕ) (xs : List ℕ) → i < count → times i (of_terms count xs) ≡ times i xs
times_of_terms count i [] h = refl
times_of_terms count i (x ∷ xs) h = ⊎_elim
    (λ (lt : x < count). ap (λ b. times i (cond b (x ∷ of_terms count xs) (of_terms count xs))) (lt-ltb x count lt)
    ∙ (let a = times_cons i x (of_terms count xs) in let b = times_cons i x xs in let c = times_of_terms count i xs h in omega arith))
    (λ (le : count ≤ x). ap (λ b. times i (cond b (x ∷ of_terms count xs) (of_terms count xs))) (le-ltb x count le)
    ∙ (let b = times_cons i x xs in let c = times_of_terms count i xs h in let d = hit_other i x (λ e. omega arith) in omega arith))
    (cases_lt x count)

-- and any number no more often
pub times_most : (count i : ℕ) (xs : List ℕ) → times i (of_terms count xs) ≤ times i xs
times_most count i [] = omega arith
times_most count i (x ∷ xs) = ⊎_elim
    (λ (lt : x < count). subst (λ n. n ≤ times i (x ∷ xs)) (sym (ap (λ b. times i (cond b (x ∷ of_terms count xs) (of_terms count xs))) (lt-ltb x count lt)))
    (let a = times_cons i x (of_terms count xs) in let b = times_cons i x xs in let c = times_most count i xs in omega arith))
    (λ (le : count ≤ x). subst (λ n. n ≤ times i (x ∷ xs)) (sym (ap (λ b. times i (cond b (x ∷ of_terms count xs) (of_terms count xs))) (le-ltb x count le)))
    (let b = times_cons i x xs in let c = times_most count i xs in omega arith))
    (cases_lt x count)

-- several lists together
pub times_flat : {A : Type 0} (f : A → List ℕ) (i : ℕ) (ys : List A) → times i (flat_map (λ h. h) (map f ys)) ≡ sum_by (λ y. times i (f y)) ys
times_flat f i [] = refl
times_flat f i (y ∷ ys) =
    ap (times i) (flat_map-cons (λ h. h) (f y) (map f ys)) ∙ (times_append i (f y) (flat_map (λ h. h) (map f ys))
    ∙ (ap (λ n. times i (f y) + n) (times_flat f i ys) ∙ sym (sum_cons (λ z. times i (f z)) y ys)))
