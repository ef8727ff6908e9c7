-- The names whose marks are set, ascending.
use Rattle.std.proofs.Common.{◌≡◌, ℕ, zero, suc, ◌+◌, ◌<◌, ◌≤◌, Bool, true, false, List, [], ◌∷◌, length, drop, refl, sym, ap, ◌∙◌, subst, arith, inl, inr, ◌↔◌}
use Rattle.std.specs.Prelude.{Contains}
use Rattle.std.specs.List.{AllByRecursion}
use Rattle.std.proofs.lemmas.List.{drop_more}
use Rattle.history_core.specs.Entry.{IsAscending}
use Rattle.history_core.specs.Slots.{is_marked}
use Rattle.history_core.specs.Marking.{marked_names}
use Rattle.history_core.proofs.Members.{contains_here, contains_there, contains_none, contains_cases, each_from, each_at}

pub marked_step : (marks : List Bool) (n : ℕ) → n < length marks → is_marked marks n ≡ true → marked_names n (drop n marks) ≡ n ∷ marked_names (suc n) (drop (n + 1) marks)
marked_step marks n less on =
    ap (marked_names n) (drop_more marks n false less) ∙ ap (λ (b : Bool). marked_names n (b ∷ drop (n + 1) marks)) on

pub first_same : (a b : ℕ) (xs ys : List ℕ) → a ∷ xs ≡ b ∷ ys → a ≡ b
first_same a b xs ys e = cc

pub rest_same : (a b : ℕ) (xs ys : List ℕ) → a ∷ xs ≡ b ∷ ys → xs ≡ ys
rest_same a b xs ys e = cc

pub not_none : (b : ℕ) (ys xs : List ℕ) → xs ≡ [] → xs ≡ b ∷ ys → ⊥
not_none b ys xs a e = cc

-- the n-th mark, counted from first on
in_marked : (first : ℕ) (marks : List Bool) (n : ℕ) → is_marked marks n ≡ true → Contains (marked_names first marks) (first + n)
in_marked first [] n on = absurd (cc)
in_marked first (true ∷ marks) zero on = let here : first ≡ first + 0 = omega arith in subst (Contains (marked_names first (true ∷ marks))) here (contains_here first (marked_names (suc first) marks))
in_marked first (false ∷ marks) zero on = absurd (cc)
in_marked first (true ∷ marks) (suc n) on =
    let at : suc first + n ≡ first + suc n = omega arith in
    subst (Contains (marked_names first (true ∷ marks))) at (contains_there first (marked_names (suc first) marks) (suc first + n) (in_marked (suc first) marks n on))
in_marked first (false ∷ marks) (suc n) on =
    let at : suc first + n ≡ first + suc n = omega arith in subst (Contains (marked_names (suc first) marks)) at (in_marked (suc first) marks n on)

of_marked : (first : ℕ) (marks : List Bool) (n : ℕ) → Contains (marked_names first marks) n → (k : ℕ) × (first + k ≡ n) × (is_marked marks k ≡ true)
of_marked first [] n c = absurd (contains_none n c)
of_marked first (true ∷ marks) n c = elim (contains_cases first (marked_names (suc first) marks) n c) [
  | inl same ↦ (0, (let here : first + 0 ≡ first = omega arith in here ∙ same), refl)
  | inr later ↦ (let at = of_marked (suc first) marks n later in (suc at.0, (let is : suc first + at.0 ≡ n = at.1 in omega arith), at.2))
]
of_marked first (false ∷ marks) n c = let at = of_marked (suc first) marks n c in (suc at.0, (let is : suc first + at.0 ≡ n = at.1 in omega arith), at.2)

marked_ascend : (first : ℕ) (marks : List Bool) → IsAscending (marked_names first marks)
marked_ascend first [] = tt
marked_ascend first (true ∷ marks) = (
  each_from (λ m. first < m) (marked_names (suc first) marks) (λ m c. let at = of_marked (suc first) marks m c in let is : suc first + at.0 ≡ m = at.1 in omega arith),
  marked_ascend (suc first) marks,
)
marked_ascend first (false ∷ marks) = marked_ascend (suc first) marks

-- ascending lists of the same names are equal
ascending_same : (xs ys : List ℕ) → IsAscending xs → IsAscending ys → ((n : ℕ) → Contains xs n → Contains ys n) → ((n : ℕ) → Contains ys n → Contains xs n) → xs ≡ ys
ascending_same [] [] a b f g = refl
ascending_same [] (y ∷ ys) a b f g = absurd (contains_none y (g y (contains_here y ys)))
ascending_same (x ∷ xs) [] a b f g = absurd (contains_none x (f x (contains_here x xs)))
ascending_same (x ∷ xs) (y ∷ ys) a b f g = ap (λ (n : ℕ). n ∷ xs) heads ∙ ap (λ ns. y ∷ ns) (ascending_same xs ys a.1 b.1 fs gs)
  where
    least : (p q : ℕ) (ps : List ℕ) → AllByRecursion (λ m. q < m) ps → Contains (q ∷ ps) p → q ≤ p
    least p q ps all c = elim (contains_cases q ps p c) [ inl same ↦ omega arith | inr later ↦ (let h = each_at (λ m. q < m) ps p all later in omega arith) ]

    heads : x ≡ y
    heads = let one = least x y ys b.0 (f x (contains_here x xs)) in let two = least y x xs a.0 (g y (contains_here y ys)) in omega arith

    apart : (p q : ℕ) → p < q → p ≡ q → ⊥
    apart p q less same = omega arith

    fs : (n : ℕ) → Contains xs n → Contains ys n
    fs n c = elim (contains_cases y ys n (f n (contains_there x xs n c))) [
      | inl same ↦ absurd (apart x n (each_at (λ m. x < m) xs n a.0 c) (heads ∙ same))
      | inr later ↦ later
    ]

    gs : (n : ℕ) → Contains ys n → Contains xs n
    gs n c = elim (contains_cases x xs n (g n (contains_there y ys n c))) [
      | inl same ↦ absurd (apart y n (each_at (λ m. y < m) ys n b.0 c) (sym heads ∙ same))
      | inr later ↦ later
    ]

-- these are the marked names, ascending, exactly where they ascend and are the marked ones
pub marked_exactly : (names : List ℕ) (marks : List Bool) → (names ≡ marked_names 0 marks) ↔ (IsAscending names × ((n : ℕ) → Contains names n ↔ (is_marked marks n ≡ true)))
marked_exactly names marks = (there, back)
  where
    of : (n : ℕ) → Contains (marked_names 0 marks) n → is_marked marks n ≡ true
    of n c = let at = of_marked 0 marks n c in let is : at.0 ≡ n = (let e : 0 + at.0 ≡ n = at.1 in omega arith) in subst (λ (k : ℕ). is_marked marks k ≡ true) is at.2

    into : (n : ℕ) → is_marked marks n ≡ true → Contains (marked_names 0 marks) n
    into n on = let at : 0 + n ≡ n = omega arith in subst (Contains (marked_names 0 marks)) at (in_marked 0 marks n on)

    there : names ≡ marked_names 0 marks → IsAscending names × ((n : ℕ) → Contains names n ↔ (is_marked marks n ≡ true))
    there same = subst (λ (ns : List ℕ). IsAscending ns × ((n : ℕ) → Contains ns n ↔ (is_marked marks n ≡ true))) (sym same) (marked_ascend 0 marks, λ n. (of n, into n))

    back : IsAscending names × ((n : ℕ) → Contains names n ↔ (is_marked marks n ≡ true)) → names ≡ marked_names 0 marks
    back k = ascending_same names (marked_names 0 marks) k.0 (marked_ascend 0 marks) (λ n c. into n ((k.1 n).0 c)) (λ n c. (k.1 n).1 (of n c))
