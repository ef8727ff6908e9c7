-- The tests of equality and membership are exact.
use Rattle.std.proofs.Common.{◌≡◌, zero, suc, List, [], ◌∷◌, refl, sym, ◌∙◌, ap, arith, true, false, Bool, eq-eqb, ◌↔◌, ◌⊎◌, inl, inr}
use Rattle.std.specs.Prelude.{if◌then◌else◌, Contains}
use Rattle.std.proofs.lemmas.Bool.{eqb-true}
use Rattle.term_model.specs.Tree.{Tree, Leaf, Node, Trees, End, More, head_eq, tree_eq, trees_eq, among}
use Rattle.term_model.specs.declared.Head.{Head}
use Rattle.term_model.specs.declared.Head.TheVariants.{App, Int, Nil, Cons}
use Rattle.term_model.proofs.Order.{both_hold}

pub head_eq_refl : (h : Head) → head_eq h h ≡ true
head_eq_refl (App f) = eq-eqb f.0 f.0 refl
head_eq_refl (Int n) = eq-eqb n n refl
head_eq_refl Nil = refl
head_eq_refl Cons = refl

pub head_eq_sound : (h g : Head) → head_eq h g ≡ true → h ≡ g
head_eq_sound (App f) (App g) e = ap (λ n. App (record { 0 = n })) (eqb-true f.0 g.0 e)
head_eq_sound (App f) (Int n) e = cc
head_eq_sound (App f) Nil e = cc
head_eq_sound (App f) Cons e = cc
head_eq_sound (Int m) (App g) e = cc
head_eq_sound (Int m) (Int n) e = ap Int (eqb-true m n e)
head_eq_sound (Int m) Nil e = cc
head_eq_sound (Int m) Cons e = cc
head_eq_sound Nil (App g) e = cc
head_eq_sound Nil (Int n) e = cc
head_eq_sound Nil Nil e = refl
head_eq_sound Nil Cons e = cc
head_eq_sound Cons (App g) e = cc
head_eq_sound Cons (Int n) e = cc
head_eq_sound Cons Nil e = cc
head_eq_sound Cons Cons e = refl

mutual
  pub tree_eq_refl : (t : Tree) → tree_eq t t ≡ true
  tree_eq_refl (Leaf x) = eq-eqb x x refl
  tree_eq_refl (Node h ts) = rw (head_eq_refl h) (trees_eq_refl ts)

  trees_eq_refl : (ts : Trees) → trees_eq ts ts ≡ true
  trees_eq_refl End = refl
  trees_eq_refl (More t ts) = rw (tree_eq_refl t) (trees_eq_refl ts)

mutual
  pub tree_eq_sound : (t u : Tree) → tree_eq t u ≡ true → t ≡ u
  tree_eq_sound (Leaf x) (Leaf y) e = ap Leaf (eqb-true x y e)
  tree_eq_sound (Leaf x) (Node g us) e = cc
  tree_eq_sound (Node h ts) (Leaf y) e = cc
  tree_eq_sound (Node h ts) (Node g us) e =
      let p = both_hold (head_eq h g) (trees_eq ts us) e in
      ap (λ k. Node k ts) (head_eq_sound h g p.0) ∙ ap (Node g) (trees_eq_sound ts us p.1)

  trees_eq_sound : (ts us : Trees) → trees_eq ts us ≡ true → ts ≡ us
  trees_eq_sound End End e = refl
  trees_eq_sound End (More u us) e = cc
  trees_eq_sound (More t ts) End e = cc
  trees_eq_sound (More t ts) (More u us) e =
      let p = both_hold (tree_eq t u) (trees_eq ts us) e in
      ap (λ v. More v ts) (tree_eq_sound t u p.0) ∙ ap (More u) (trees_eq_sound ts us p.1)

pub tree_eq_same : (t u : Tree) → t ≡ u → tree_eq t u ≡ true
tree_eq_same t u e = ap (tree_eq t) (sym e) ∙ tree_eq_refl t

pub equality_is_exact : (t u : Tree) → (tree_eq t u ≡ true) ↔ (t ≡ u)
equality_is_exact t u = (tree_eq_sound t u, tree_eq_same t u)

pub among_here : (t u : Tree) (us : List Tree) → t ≡ u → among t (u ∷ us) ≡ true
among_here t u us e = ap (λ (b : Bool). if b then true else among t us) (tree_eq_same t u e)

pub among_there : (t u : Tree) (us : List Tree) → among t us ≡ true → among t (u ∷ us) ≡ true
among_there t u us h = go (tree_eq t u)
  where
    go : (b : Bool) → (if b then true else among t us) ≡ true
    go true = refl
    go false = h

pub among_cases : (t u : Tree) (us : List Tree) → among t (u ∷ us) ≡ true → (t ≡ u) ⊎ (among t us ≡ true)
among_cases t u us h = go (tree_eq t u) refl h
  where
    go : (b : Bool) → tree_eq t u ≡ b → (if b then true else among t us) ≡ true → (t ≡ u) ⊎ (among t us ≡ true)
    go true e h' = inl (tree_eq_sound t u e)
    go false e h' = inr h'

pub contains_from_among : (t : Tree) (ts : List Tree) → among t ts ≡ true → Contains ts t
contains_from_among t [] h = cc
contains_from_among t (u ∷ us) h = go (among_cases t u us h) (contains_from_among t us)
  where
    go : (t ≡ u) ⊎ (among t us ≡ true) → (among t us ≡ true → Contains us t) → Contains (u ∷ us) t
    go (inl e) rest = (0, omega arith, sym e)
    go (inr h') rest =
        let c = rest h' in
        (suc c.0, omega (arith, c.1), c.2)

pub among_from_contains : (t : Tree) (ts : List Tree) → Contains ts t → among t ts ≡ true
among_from_contains t [] (k, l, e) = absurd (omega arith)
among_from_contains t (u ∷ us) (zero, l, e) = among_here t u us (sym e)
among_from_contains t (u ∷ us) (suc k, l, e) = among_there t u us (among_from_contains t us (k, omega arith, e))

pub among_is_exact : (t : Tree) (ts : List Tree) → (among t ts ≡ true) ↔ Contains ts t
among_is_exact t ts = (contains_from_among t ts, among_from_contains t ts)
