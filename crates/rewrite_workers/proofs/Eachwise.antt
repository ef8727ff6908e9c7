-- What is told of each desk and its share, by place.
use Rattle.std.proofs.Common.{◌≡◌, ℕ, zero, suc, ◌+◌, ◌<◌, ◌≤◌, List, [], ◌∷◌, length, sum_by, refl, sym, ap, subst, ◌∙◌, arith, All}
use Rattle.std.specs.Prelude.{Some, slice_get}
use lib.ListN.{get_elem?}
use mathlib.Core.Option.{some}
use Rattle.std.proofs.lemmas.Option.{slice_get_within}
use Rattle.std.proofs.lemmas.List.Elements.{All-nil, All-cons, All-get_or}
use Rattle.rewrite_workers.specs.Desks.{EachDesk}
use Rattle.rewrite_workers.specs.Shares.{EachShare}
use Rattle.worker_crew.proofs.Dealing.{there, sum_none, sum_cons}
use Rattle.worker_crew.proofs.Finding.{same_some}

pub all_elem : {A : Type 0} (P : A → Type 0) (xs : List A) (k : ℕ) (a : A) → All P xs → get_elem? xs k ≡ some a → P a
all_elem P xs k a all e = let t = there xs k a a e in subst P t.1 (All-get_or P xs k a t.0 all)

pub sum_none_all : {A : Type 0} (f : A → ℕ) (xs : List A) → All (λ a. f a ≡ 0) xs → sum_by f xs ≡ 0
sum_none_all f xs all = sum_none f xs (λ k a e. all_elem (λ b. f b ≡ 0) xs k a all e)

pub part_of_all : {A : Type 0} (f : A → ℕ) (xs : List A) (k : ℕ) (a : A) → slice_get xs k ≡ Some a → f a ≤ sum_by f xs
part_of_all f [] k a e = let h = slice_get_within [] k a e in absurd (omega arith)
part_of_all f (x ∷ xs) zero a e = let p = sum_cons f x xs in let q = ap f (same_some x a e) in omega arith
part_of_all f (x ∷ xs) (suc k) a e = let p = sum_cons f x xs in let q = part_of_all f xs k a e in omega arith

-- two places have no more than all
pub two_parts : {A : Type 0} (f : A → ℕ) (xs : List A) (j k : ℕ) (a b : A) → slice_get xs j ≡ Some a → slice_get xs k ≡ Some b → (j ≡ k → ⊥) → f a + f b ≤ sum_by f xs
two_parts f [] j k a b e h ne = let z = slice_get_within [] j a e in absurd (omega arith)
two_parts f (x ∷ xs) zero zero a b e h ne = absurd (ne refl)
two_parts f (x ∷ xs) zero (suc k) a b e h ne = let p = sum_cons f x xs in let q = ap f (same_some x a e) in let r = part_of_all f xs k b h in omega arith
two_parts f (x ∷ xs) (suc j) zero a b e h ne = let p = sum_cons f x xs in let q = ap f (same_some x b h) in let r = part_of_all f xs j a e in omega arith
two_parts f (x ∷ xs) (suc j) (suc k) a b e h ne = let p = sum_cons f x xs in let r = two_parts f xs j k a b e h (λ z. ne (ap suc z)) in omega arith

module _ {D E : Type 0} (P : D → D → E → E → Type 0) where
  -- a desk and its share, before and after
  pub record Place (ds es : List D) (xs ys : List E) (k : ℕ) : Type 0 where
    pub d : D
    pub e : D
    pub x : E
    pub y : E
    pub at_d : slice_get ds k ≡ Some d
    pub at_e : slice_get es k ≡ Some e
    pub at_x : slice_get xs k ≡ Some x
    pub at_y : slice_get ys k ≡ Some y
    pub holds : P d e x y

  pub lengths : (ds es : List D) (xs ys : List E) → EachShare P ds es xs ys → (length es ≡ length ds) × (length xs ≡ length ds) × (length ys ≡ length ds)
  lengths [] [] [] [] h = (refl, refl, refl)
  lengths [] [] [] (y ∷ ys) h = absurd h
  lengths [] [] (x ∷ xs) ys h = absurd h
  lengths [] (e ∷ es) xs ys h = absurd h
  lengths (d ∷ ds) [] xs ys h = absurd h
  lengths (d ∷ ds) (e ∷ es) [] ys h = absurd h
  lengths (d ∷ ds) (e ∷ es) (x ∷ xs) [] h = absurd h
  lengths (d ∷ ds) (e ∷ es) (x ∷ xs) (y ∷ ys) h = let r = lengths ds es xs ys h.1 in (ap suc r.0, ap suc r.1, ap suc r.2)

  pub place_at : (ds es : List D) (xs ys : List E) → EachShare P ds es xs ys → (k : ℕ) → k < length ds → Place ds es xs ys k
  place_at [] es xs ys h k lt = absurd (omega arith)
  place_at (d ∷ ds) [] xs ys h k lt = absurd h
  place_at (d ∷ ds) (e ∷ es) [] ys h k lt = absurd h
  place_at (d ∷ ds) (e ∷ es) (x ∷ xs) [] h k lt = absurd h
  place_at (d ∷ ds) (e ∷ es) (x ∷ xs) (y ∷ ys) h zero lt = record { d = d; e = e; x = x; y = y; at_d = refl; at_e = refl; at_x = refl; at_y = refl; holds = h.0 }
  place_at (d ∷ ds) (e ∷ es) (x ∷ xs) (y ∷ ys) h (suc k) lt =
      let p = place_at ds es xs ys h.1 k (omega arith) in
      record { d = p.d; e = p.e; x = p.x; y = p.y; at_d = p.at_d; at_e = p.at_e; at_x = p.at_x; at_y = p.at_y; holds = p.holds }

  -- what holds of each share after, and of each desk
  pub all_after : (Q : E → Type 0) → ((d e : D) (x y : E) → P d e x y → Q y) → (ds es : List D) (xs ys : List E) → EachShare P ds es xs ys → All Q ys
  all_after Q q [] [] [] [] h = All-nil Q
  all_after Q q [] [] [] (y ∷ ys) h = absurd h
  all_after Q q [] [] (x ∷ xs) ys h = absurd h
  all_after Q q [] (e ∷ es) xs ys h = absurd h
  all_after Q q (d ∷ ds) [] xs ys h = absurd h
  all_after Q q (d ∷ ds) (e ∷ es) [] ys h = absurd h
  all_after Q q (d ∷ ds) (e ∷ es) (x ∷ xs) [] h = absurd h
  all_after Q q (d ∷ ds) (e ∷ es) (x ∷ xs) (y ∷ ys) h = All-cons Q y ys (q d e x y h.0) (all_after Q q ds es xs ys h.1)

  pub all_desks : (Q : D → Type 0) → ((d e : D) (x y : E) → P d e x y → Q e) → (ds es : List D) (xs ys : List E) → EachShare P ds es xs ys → All Q es
  all_desks Q q [] [] [] [] h = All-nil Q
  all_desks Q q [] [] [] (y ∷ ys) h = absurd h
  all_desks Q q [] [] (x ∷ xs) ys h = absurd h
  all_desks Q q [] (e ∷ es) xs ys h = absurd h
  all_desks Q q (d ∷ ds) [] xs ys h = absurd h
  all_desks Q q (d ∷ ds) (e ∷ es) [] ys h = absurd h
  all_desks Q q (d ∷ ds) (e ∷ es) (x ∷ xs) [] h = absurd h
  all_desks Q q (d ∷ ds) (e ∷ es) (x ∷ xs) (y ∷ ys) h = All-cons Q e es (q d e x y h.0) (all_desks Q q ds es xs ys h.1)

  -- what holds of each desk by its place
  pub each_desk : (Q : ℕ → D → D → Type 0) (ds es : List D) (xs ys : List E) → EachShare P ds es xs ys →
      ((k : ℕ) (p : Place ds es xs ys k) → Q k p.d p.e) → EachDesk Q ds es
  each_desk Q ds es xs ys h q = (
    (lengths ds es xs ys h).0,
    λ k d e at_d at_e.
        let p = place_at ds es xs ys h k (slice_get_within ds k d at_d) in
        subst (λ z. Q k z e) (same_some p.d d (sym p.at_d ∙ at_d)) (subst (λ z. Q k p.d z) (same_some p.e e (sym p.at_e ∙ at_e)) (q k p)),
  )

-- nothing changed
pub each_unchanged : {D : Type 0} (Q : ℕ → D → D → Type 0) (ds : List D) → ((k : ℕ) (d : D) → slice_get ds k ≡ Some d → Q k d d) → EachDesk Q ds ds
each_unchanged Q ds q = (refl, λ k d e at_d at_e. subst (λ z. Q k d z) (same_some d e (sym at_d ∙ at_e)) (q k d at_d))
