-- A chain has no more rows than there are, so a walk passes no more.
use Rattle.std.proofs.Common.{◌≡◌, ℕ, ◌<◌, ◌≤◌, eqb, Bool, true, false, ◌||◌, List, [], ◌∷◌, ◌++◌, length, refl, sym, ap, ◌∙◌, subst, arith, append_assoc, length-append, true≢false}
use Rattle.std.specs.List.{AllByRecursion, IsDistinct, list_any}
use Rattle.std.proofs.lemmas.Map.Steps.{length-le_from_distinct_below}
use Rattle.store_model.specs.Words.{Place, Bucket, RowWords, row_at}
use Rattle.store_model.specs.Calls.{Content}
use Rattle.store_model.specs.Machine.{Sizes, Each}
use Rattle.store_model.specs.Meaning.{Meaning, Linked}
use Rattle.store_model.specs.Invariant.{ChainsHold}
use Rattle.store_model.specs.Seats.{Walks, Walked}
use Rattle.store_model.proofs.Basics.{each_map, eqb_is}
use Rattle.store_model.proofs.Chains.{linked_once, linked_right}

cases : {A : Type 0} (b : Bool) → (b ≡ true → A) → (b ≡ false → A) → A
cases true f g = f refl
cases false f g = g refl

module _ (row : ℕ → RowWords) where
  -- a row stands but once
  not_after : (r : ℕ) (rs : List ℕ) → Linked row (row r).next rs → (before rest : List ℕ) → rs ≡ before ++ rest → AllByRecursion (λ y. eqb r y ≡ false) rest
  not_after r rs h before [] e = tt
  not_after r rs h before (y ∷ ys) e = (
    cases (eqb r y)
        (λ same. let is : y ≡ r = sym (eqb_is r y same) in
        let again : rs ≡ before ++ (r ∷ ys) = e ∙ ap (λ (q : ℕ). before ++ (q ∷ ys)) is in
        let short : rs ≡ ys = linked_once row (row r).next rs ys h (linked_right row (row r).next before r ys (subst (Linked row (row r).next) again h)) in
        let a = ap (λ (zs : List ℕ). length zs) again in
        let b = ap (λ (zs : List ℕ). length zs) short in
        let c = length-append before (r ∷ ys) in
        absurd (omega arith))
        (λ not. not),
    not_after r rs h (before ++ (y ∷ [])) ys (e ∙ sym (append_assoc before (y ∷ []) ys)),
  )

  pub distinct : (at : ℕ) (xs : List ℕ) → Linked row at xs → IsDistinct eqb xs
  unfolding IsDistinct
  distinct at [] h = tt
  distinct at (r ∷ rs) h = (not_after r rs h.1 [] rs refl, distinct (row r).next rs h.1)

or_right : (a b : Bool) → (a || b) ≡ true → a ≡ false → b ≡ true
or_right true b h e = absurd (true≢false e)
or_right false b h e = h

each_below : (n q : ℕ) (xs : List ℕ) → Each (λ r. r < n) xs → list_any (eqb q) xs ≡ true → q < n
each_below n q [] h e = absurd (true≢false (sym e))
each_below n q (x ∷ xs) h e = cases (eqb q x)
    (λ same. subst (λ (r : ℕ). r < n) (sym (eqb_is q x same)) h.0)
    (λ not. each_below n q xs h.1 (or_right (eqb q x) (list_any (eqb q) xs) e not))

pub chain_few : (z : Sizes) (w : Place → ℕ) (m : Meaning) → ChainsHold z w m → (b : ℕ) → length (m.chain b) ≤ z.rows
chain_few z w m h b = length-le_from_distinct_below (m.chain b) z.rows (distinct (row_at w) (w (Bucket b)) (m.chain b) (h.linked b))
    (λ q e. each_below z.rows q (m.chain b) (each_map _ _ (m.chain b) (λ r s. h.below r s.live) (h.standing b)) e)

module _ (row : ℕ → RowWords) (chain : List ℕ) (c : Content) where
  pub walks_few : (from old at n : ℕ) → Walks row chain c from old at n → n < length chain
  walks_few from old at n h =
      let a = ap (λ (zs : List ℕ). length zs) h.chain_is in
      let b = length-append h.fresh (h.walked ++ (h.here ∷ (h.todo ++ h.settled))) in
      let d = length-append h.walked (h.here ∷ (h.todo ++ h.settled)) in
      let e = length-append h.todo h.settled in
      let f = h.count in omega arith

  pub walked_few : (from n : ℕ) → Walked row chain c from n → n ≤ length chain
  walked_few from n h = let a = ap (λ (zs : List ℕ). length zs) h.chain_is in let b = length-append h.fresh h.settled in let f = h.count in omega arith
