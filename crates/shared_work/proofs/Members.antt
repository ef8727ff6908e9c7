-- The terms that a worker drew are among all terms, and so are the trees that they build.
use Rattle.std.proofs.Common.{◌≡◌, ◌⊎◌, inl, inr, ℕ, zero, suc, ◌<◌, ◌==◌, Bool, true, false, List, [], ◌∷◌, length, refl, sym, subst, arith}
use Rattle.std.specs.Prelude.{All, Contains, if◌then◌else◌}
use Rattle.std.specs.List.{flat_map}
use Rattle.std.proofs.lemmas.List.Elements.{All-head, All-tail, All-contains, Contains-append_left, Contains-append_right, Contains-append_cases, Contains-get_or}
use Rattle.term_model.specs.Tree.{Tree, Leaf}
use Rattle.rewrite_model.specs.Rule.{Rule}
use Rattle.term_lines.specs.Strategies.{built_by}
use Rattle.term_lines.proofs.Lists.{within}
use Rattle.settings.specs.declared.parts.Settings.{Settings}
use Rattle.work_order.specs.Drawn.{numbered}
use Rattle.work_order.specs.Lined.{drawn_by}
use Rattle.work_order.specs.Works.{term_at, strategy_of, remembers_results, built_of, AreBuilt}

one_of_none : {A : Type 0} (x : A) → Contains [] x → ⊥
one_of_none x (k, l, e) = omega (arith, l)

-- an element of a list is its first, or one of the others
pub first_or_other : {A : Type 0} (y : A) (xs : List A) (x : A) → Contains (y ∷ xs) x → (y ≡ x) ⊎ Contains xs x
first_or_other y xs x (zero, l, e) = inl e
first_or_other y xs x (suc k, l, e) = inr (k, omega (arith, l), e)

other_of : {A : Type 0} (y : A) (xs : List A) (x : A) → Contains xs x → Contains (y ∷ xs) x
other_of y xs x c = Contains-append_right (y ∷ []) xs x c

first_of : {A : Type 0} (y : A) (xs : List A) (x : A) → y ≡ x → Contains (y ∷ xs) x
first_of y xs x e = (0, omega arith, e)

-- an element of joined lists is in one of them
in_some : {A B : Type 0} (f : A → List B) (xs : List A) (y : B) → Contains (flat_map f xs) y → (x : A) × Contains xs x × Contains (f x) y
in_some f [] y c = absurd (one_of_none y c)
in_some f (x ∷ xs) y c = elim (Contains-append_cases (f x) (flat_map f xs) y c) [
  | inl here ↦ (x, first_of x xs x refl, here)
  | inr more ↦ let q = in_some f xs y more in (q.0, other_of x xs q.0 q.1, q.2)
]

in_all : {A B : Type 0} (f : A → List B) (xs : List A) (x : A) (y : B) → Contains xs x → Contains (f x) y → Contains (flat_map f xs) y
in_all f [] x y c here = absurd (one_of_none x c)
in_all f (z ∷ xs) x y c here = elim (first_or_other z xs x c) [
  | inl e ↦ Contains-append_left (f z) (flat_map f xs) y (subst (λ w. Contains (f w) y) (sym e) here)
  | inr more ↦ Contains-append_right (f z) (flat_map f xs) y (in_all f xs x y more here)
]

-- what some of the terms build all of them build
pub built_by_all : (s : Settings) (rules : List Rule) (some all : List Tree) → ((t : Tree) → Contains some t → Contains all t)
    → (u : Tree) → Contains (built_of s rules some) u → Contains (built_of s rules all) u
built_by_all s rules some all within u c =
    let q = in_some (λ t. built_by (strategy_of s.command) rules t s.fuel s.depth) some u c in
    in_all (λ t. built_by (strategy_of s.command) rules t s.fuel s.depth) all q.0 u (within q.0 q.1) q.2

-- what was built of some terms is some of what they build
pub built_within : (s : Settings) (rules : List Rule) (drawn trees : List Tree) → AreBuilt s rules drawn [] trees → (t : Tree) → Contains trees t → Contains (built_of s rules drawn) t
built_within s rules drawn trees are t c =
    All-contains (Contains (built_of s rules drawn)) trees t (within rules s.fuel s.depth (strategy_of s.command) (remembers_results s rules) drawn [] trees are) c

pub numbered_within : (terms : List Tree) (drawn : List ℕ) → All (λ i. i < length terms) drawn → (t : Tree) → Contains (numbered terms drawn) t → Contains terms t
numbered_within terms [] below t c = absurd (one_of_none t c)
numbered_within terms (i ∷ is) below t c = elim (first_or_other (term_at terms i) (numbered terms is) t c) [
  | inl e ↦ subst (Contains terms) e (Contains-get_or terms i (Leaf 0) (All-head (λ j. j < length terms) i is below))
  | inr more ↦ numbered_within terms is (All-tail (λ j. j < length terms) i is below) t more
]

pub drawn_within : (k : ℕ) (workers : List ℕ) (terms : List Tree) (t : Tree) → Contains (drawn_by k workers terms) t → Contains terms t
drawn_within k [] terms t c = absurd (one_of_none t c)
drawn_within k (w ∷ ws) [] t c = absurd (one_of_none t c)
drawn_within k (w ∷ ws) (u ∷ us) t c = by (w == k) c (drawn_within k ws us t)
  where
    by : (b : Bool) → Contains (if b then u ∷ drawn_by k ws us else drawn_by k ws us) t → (Contains (drawn_by k ws us) t → Contains us t) → Contains (u ∷ us) t
    by true here rest = elim (first_or_other u (drawn_by k ws us) t here) [
      | inl e ↦ first_of u us t e
      | inr more ↦ other_of u us t (rest more)
    ]
    by false here rest = other_of u us t (rest here)
