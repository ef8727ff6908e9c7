-- How many different trees a list has.
use Rattle.std.proofs.Common.{◌≡◌, ℕ, suc, ◌+◌, ◌≤◌, List, [], ◌∷◌, length, refl, sym, ◌∙◌, ap, arith, true, false, Bool, ◌⊎◌, inl, inr}
use Rattle.std.specs.Prelude.{if◌then◌else◌, Contains}
use Rattle.std.specs.List.Sorted.{IsPermutation}
use Rattle.std.proofs.lemmas.List.Sorted.{Contains-permutation, IsPermutation-sym}
use Rattle.term_model.specs.Tree.{Tree, tree_eq, among, distinct}
use Rattle.term_model.specs.Laws.{IsWithoutRepetition}
use Rattle.term_model.proofs.Equality.{tree_eq_sound, among_here, among_there, among_cases, contains_from_among, among_from_contains}

-- two tests that hold together are equal
pub same_test : (a b : Bool) → (a ≡ true → b ≡ true) → (b ≡ true → a ≡ true) → a ≡ b
same_test true b f g = sym (f refl)
same_test false true f g = g refl
same_test false false f g = refl

abbrev pub without : Tree → List Tree → List Tree
without t [] = []
without t (u ∷ us) = if tree_eq t u then without t us else u ∷ without t us

-- what is left without a tree is what it was, but for that tree
pub kept_without : (t x : Tree) (us : List Tree) → among x us ≡ true → tree_eq t x ≡ false → among x (without t us) ≡ true
kept_without t x [] h n = h
kept_without t x (u ∷ us) h n = go (tree_eq t u) refl (among_cases x u us h) (λ i. kept_without t x us i n)
  where
    go : (b : Bool) → tree_eq t u ≡ b → (x ≡ u) ⊎ (among x us ≡ true) → (among x us ≡ true → among x (without t us) ≡ true) → among x (if b then without t us else u ∷ without t us) ≡ true
    go true e (inl i) rest = let f : tree_eq t x ≡ true = ap (tree_eq t) i ∙ e in cc
    go true e (inr i) rest = rest i
    go false e (inl i) rest = among_here x u (without t us) i
    go false e (inr i) rest = among_there x u (without t us) (rest i)

only_without : (t x : Tree) (us : List Tree) → among x (without t us) ≡ true → among x us ≡ true
only_without t x [] h = h
only_without t x (u ∷ us) h = go (tree_eq t u) h (only_without t x us)
  where
    go : (b : Bool) → among x (if b then without t us else u ∷ without t us) ≡ true → (among x (without t us) ≡ true → among x us ≡ true) → among x (u ∷ us) ≡ true
    go true h' rest = among_there x u us (rest h')
    go false h' rest = elim (among_cases x u (without t us) h') [ inl e ↦ among_here x u us e | inr i ↦ among_there x u us (rest i) ]

abbrev one_if : Bool → ℕ
one_if true = 1
one_if false = 0

-- a tree of the list counts once
counted_once : (t : Tree) (us : List Tree) → distinct us ≡ one_if (among t us) + distinct (without t us)
counted_once t [] = refl
counted_once t (u ∷ us) = go (tree_eq t u) refl (counted_once t us)
  where
    here : (b : Bool) (rest : ℕ) → distinct us ≡ one_if b + rest → (if b then distinct us else distinct us + 1) ≡ 1 + rest
    here true rest e = e
    here false rest e = omega (arith, e)

    there : (b a : Bool) (rest : ℕ) → distinct us ≡ one_if a + rest → (if b then distinct us else distinct us + 1) ≡ one_if a + (if b then rest else rest + 1)
    there true a rest e = e
    there false a rest e = omega (arith, e)

    go : (b : Bool) → tree_eq t u ≡ b → distinct us ≡ one_if (among t us) + distinct (without t us) → distinct (u ∷ us) ≡ one_if (if b then true else among t us) + distinct (if b then without t us else u ∷ without t us)
    go true e ih =
        let same : among t us ≡ among u us = ap (λ v. among v us) (tree_eq_sound t u e) in
        here (among u us) (distinct (without t us)) (ih ∙ ap (λ b. one_if b + distinct (without t us)) same)
    go false e ih =
        let same : among u us ≡ among u (without t us) = same_test (among u us) (among u (without t us)) (λ h. kept_without t u us h e) (only_without t u us) in
        there (among u us) (among t us) (distinct (without t us)) ih
        ∙ ap (λ (b : Bool). one_if (among t us) + (if b then distinct (without t us) else distinct (without t us) + 1)) same

part : (ts us : List Tree) → ((x : Tree) → among x ts ≡ true → among x us ≡ true) → distinct ts ≤ distinct us
part [] us h = omega arith
part (t ∷ ts) us h = go (among t ts) refl (part ts us) (part ts (without t us))
  where
    go : (b : Bool) → among t ts ≡ b → (((x : Tree) → among x ts ≡ true → among x us ≡ true) → distinct ts ≤ distinct us) → (((x : Tree) → among x ts ≡ true → among x (without t us) ≡ true) → distinct ts ≤ distinct (without t us)) → (if b then distinct ts else distinct ts + 1) ≤ distinct us
    go true e all less = all (λ x i. h x (among_there x t ts i))
    go false e all less =
        let rest : distinct ts ≤ distinct (without t us) = less (λ x i. kept_without t x us (h x (among_there x t ts i)) (other x i)) in
        let one : distinct us ≡ 1 + distinct (without t us) = counted_once t us ∙ ap (λ b. one_if b + distinct (without t us)) (h t (among_here t t ts refl)) in
        omega (arith, rest, one)
      where
        other : (x : Tree) → among x ts ≡ true → tree_eq t x ≡ false
        other x i = no (tree_eq t x) refl
          where
            no : (b : Bool) → tree_eq t x ≡ b → b ≡ false
            no true q = let f : among t ts ≡ true = ap (λ v. among v ts) (tree_eq_sound t x q) ∙ i in cc
            no false q = refl

pub distinct_of_part : (ts us : List Tree) → ((t : Tree) → Contains ts t → Contains us t) → distinct ts ≤ distinct us
distinct_of_part ts us h = part ts us (λ x i. among_from_contains x us (h x (contains_from_among x ts i)))

pub distinct_in_any_order : (ts us : List Tree) → IsPermutation ts us → distinct ts ≡ distinct us
distinct_in_any_order ts us p =
    let a = distinct_of_part ts us (λ t. Contains-permutation ts us t p) in
    let b = distinct_of_part us ts (λ t. Contains-permutation us ts t (IsPermutation-sym ts us p)) in
    omega (arith, a, b)

-- the first of different trees is not among the others
first_is_new : (t : Tree) (ts : List Tree) → IsWithoutRepetition (t ∷ ts) → among t ts ≡ true → ⊥
first_is_new t ts p i =
    let c = contains_from_among t ts i in
    p 0 (suc c.0) t (omega arith) (omega (arith, c.1)) (sym c.2)

pub distinct_without_repetition : (ts : List Tree) → IsWithoutRepetition ts → distinct ts ≡ length ts
distinct_without_repetition [] p = refl
distinct_without_repetition (t ∷ ts) p =
    go (among t ts) refl (distinct_without_repetition ts (λ i j d a b. p (suc i) (suc j) d (omega (arith, a)) (omega (arith, b))))
  where
    go : (b : Bool) → among t ts ≡ b → distinct ts ≡ length ts → (if b then distinct ts else distinct ts + 1) ≡ length (t ∷ ts)
    go true e rest = absurd (first_is_new t ts p e)
    go false e rest = omega (arith, rest)

pub distinct_is_bounded : (ts : List Tree) → distinct ts ≤ length ts
distinct_is_bounded [] = omega arith
distinct_is_bounded (t ∷ ts) = go (among t ts) (distinct_is_bounded ts)
  where
    go : (b : Bool) → distinct ts ≤ length ts → (if b then distinct ts else distinct ts + 1) ≤ length (t ∷ ts)
    go true h = omega (arith, h)
    go false h = omega (arith, h)
