-- The steps of a tree are exactly those of the relation.
use Rattle.std.proofs.Common.{◌≡◌, ℕ, zero, suc, ◌<◌, List, [], ◌∷◌, length, get_or, map, Option, Some, None, refl, sym, ap, subst, arith, ⊎_elim, ◌⊎◌, inl, inr}
use Rattle.std.specs.Prelude.{Contains, ◌↔◌}
use Rattle.std.proofs.lemmas.List.Elements.{Contains-append_left, Contains-append_right, Contains-append_cases}
use Rattle.term_model.specs.Tree.{Tree, Leaf, Node, Trees, End, More}
use Rattle.rewrite_model.specs.Rule.{Rule}
use Rattle.rewrite_model.specs.Matching.{match_of, if_matched, instance}
use Rattle.rewrite_model.specs.Step.{Step, at_root, inside, StepIn, here, there, IsNormalForm}
use Rattle.rewrite_model.specs.Steps.{steps_by, steps_at_root, steps_of, steps_in}

none_contained : {X P : Type 0} (x : X) → Contains [] x → P
none_contained x c = let l = c.1 in absurd (omega arith)

pub first_stands : {X : Type 0} (x : X) (xs : List X) → Contains (x ∷ xs) x
first_stands x xs = (0, omega arith, refl)

pub later_stands : {X : Type 0} (x z : X) (xs : List X) → Contains xs z → Contains (x ∷ xs) z
later_stands x z xs c = let l = c.1 in (suc c.0, omega arith, c.2)

at_place : {X : Type 0} (x z : X) (xs : List X) (k : ℕ) → k < length (x ∷ xs) → get_or (x ∷ xs) k z ≡ z → (x ≡ z) ⊎ Contains xs z
at_place x z xs zero l e = inl e
at_place x z xs (suc k) l e = inr (k, omega arith, e)

first_or_later : {X : Type 0} (x z : X) (xs : List X) → Contains (x ∷ xs) z → (x ≡ z) ⊎ Contains xs z
first_or_later x z xs c = at_place x z xs c.0 c.1 c.2

mapped_stands : {X Y : Type 0} (f : X → Y) (xs : List X) (x : X) → Contains xs x → Contains (map f xs) (f x)
mapped_stands f [] x c = none_contained x c
mapped_stands f (y ∷ ys) x c = ⊎_elim
    (λ e. subst (λ w. Contains (f y ∷ map f ys) w) (ap f e) (first_stands (f y) (map f ys)))
    (λ d. later_stands (f y) (f x) (map f ys) (mapped_stands f ys x d))
    (first_or_later y x ys c)

record Origin {X Y : Type 0} (f : X → Y) (xs : List X) (y : Y) : Type 0 where
  from : X
  stands : Contains xs from
  is : f from ≡ y

origin : {X Y : Type 0} (f : X → Y) (xs : List X) (y : Y) → Contains (map f xs) y → Origin f xs y
origin f [] y c = none_contained y c
origin f (x ∷ xs) y c = ⊎_elim
    (λ e. record { from = x; stands = first_stands x xs; is = e })
    (λ d. let o = origin f xs y d in record { from = o.from; stands = later_stands x o.from xs o.stands; is = o.is })
    (first_or_later (f x) y (map f xs) c)

no_element : {X : Type 0} (xs : List X) → ((x : X) → Contains xs x → ⊥) → xs ≡ []
no_element [] n = refl
no_element (x ∷ xs) n = absurd (n x (first_stands x xs))

matched_stands : (r : Rule) (t : Tree) (bound : List Tree) → match_of r.left t ≡ Some bound → Contains (steps_by r t) (instance r.right bound)
matched_stands r t bound m = subst (λ o. Contains (if_matched o [] (λ b. instance r.right b ∷ [])) (instance r.right bound)) (sym m) (first_stands (instance r.right bound) [])

root_stands : (rs : List Rule) (r : Rule) (t : Tree) (bound : List Tree) → Contains rs r → match_of r.left t ≡ Some bound → Contains (steps_at_root rs t) (instance r.right bound)
root_stands [] r t bound c m = none_contained r c
root_stands (q ∷ rs) r t bound c m = ⊎_elim
    (λ e. Contains-append_left (steps_by q t) (steps_at_root rs t) (instance r.right bound) (subst (λ (p : Rule). Contains (steps_by p t) (instance r.right bound)) (sym e) (matched_stands r t bound m)))
    (λ d. Contains-append_right (steps_by q t) (steps_at_root rs t) (instance r.right bound) (root_stands rs r t bound d m))
    (first_or_later q r rs c)

module _ (rules : List Rule) where
  rule_steps : (r : Rule) → Contains rules r → (t u : Tree) → Contains (steps_by r t) u → Step rules t u
  rule_steps r c t u h = go (match_of r.left t) refl h
    where
      go : (o : Option (List Tree)) → match_of r.left t ≡ o → Contains (if_matched o [] (λ b. instance r.right b ∷ [])) u → Step rules t u
      go None m d = none_contained u d
      go (Some bound) m d = ⊎_elim
          (λ e. subst (λ w. Step rules t w) e (at_root r c m))
          (λ n. none_contained u n)
          (first_or_later (instance r.right bound) u [] d)

  root_steps : (rs : List Rule) → ((r : Rule) → Contains rs r → Contains rules r) → (t u : Tree) → Contains (steps_at_root rs t) u → Step rules t u
  root_steps [] part t u c = none_contained u c
  root_steps (r ∷ rs) part t u c = ⊎_elim
      (λ d. rule_steps r (part r (first_stands r rs)) t u d)
      (λ d. root_steps rs (λ q e. part q (later_stands r q rs e)) t u d)
      (Contains-append_cases (steps_by r t) (steps_at_root rs t) u c)

  mutual
    are_steps : (t u : Tree) → Contains (steps_of rules t) u → Step rules t u
    are_steps (Leaf x) u c = root_steps rules (λ r d. d) (Leaf x) u c
    are_steps (Node h ts) u c = ⊎_elim
        (λ d. root_steps rules (λ r e. e) (Node h ts) u d)
        (λ d. let o = origin (λ us. Node h us) (steps_in rules ts) u d in subst (λ w. Step rules (Node h ts) w) o.is (inside (are_steps_in ts o.from o.stands)))
        (Contains-append_cases (steps_at_root rules (Node h ts)) (map (λ us. Node h us) (steps_in rules ts)) u c)

    are_steps_in : (ts us : Trees) → Contains (steps_in rules ts) us → StepIn rules ts us
    are_steps_in End us c = none_contained us c
    are_steps_in (More t ts) us c = ⊎_elim
        (λ d. let o = origin (λ u. More u ts) (steps_of rules t) us d in subst (λ w. StepIn rules (More t ts) w) o.is (here (are_steps t o.from o.stands)))
        (λ d. let o = origin (λ vs. More t vs) (steps_in rules ts) us d in subst (λ w. StepIn rules (More t ts) w) o.is (there (are_steps_in ts o.from o.stands)))
        (Contains-append_cases (map (λ u. More u ts) (steps_of rules t)) (map (λ vs. More t vs) (steps_in rules ts)) us c)

  root_first : (t u : Tree) → Contains (steps_at_root rules t) u → Contains (steps_of rules t) u
  root_first (Leaf x) u c = c
  root_first (Node h ts) u c = Contains-append_left (steps_at_root rules (Node h ts)) (map (λ us. Node h us) (steps_in rules ts)) u c

  mutual
    steps_stand : {t u : Tree} → Step rules t u → Contains (steps_of rules t) u
    steps_stand (at_root {t = t} {bound = b} r c m) = root_first t (instance r.right b) (root_stands rules r t b c m)
    steps_stand (inside {h = h} {ts = ts} {us = us} s) =
        Contains-append_right (steps_at_root rules (Node h ts)) (map (λ vs. Node h vs) (steps_in rules ts)) (Node h us) (mapped_stands (λ vs. Node h vs) (steps_in rules ts) us (steps_in_stand s))

    steps_in_stand : {ts us : Trees} → StepIn rules ts us → Contains (steps_in rules ts) us
    steps_in_stand (here {t = t} {u = u} {ts = ts} s) =
        Contains-append_left (map (λ v. More v ts) (steps_of rules t)) (map (λ vs. More t vs) (steps_in rules ts)) (More u ts) (mapped_stands (λ v. More v ts) (steps_of rules t) u (steps_stand s))
    steps_in_stand (there {t = t} {ts = ts} {us = us} s) =
        Contains-append_right (map (λ v. More v ts) (steps_of rules t)) (map (λ vs. More t vs) (steps_in rules ts)) (More t us) (mapped_stands (λ vs. More t vs) (steps_in rules ts) us (steps_in_stand s))

  pub steps_are_all : (t u : Tree) → Contains (steps_of rules t) u ↔ Step rules t u
  steps_are_all t u = (are_steps t u, λ s. steps_stand s)

  pub normal_has_none : (t : Tree) → IsNormalForm rules t ↔ (steps_of rules t ≡ [])
  normal_has_none t =
      (λ n. no_element (steps_of rules t) (λ u c. n u (are_steps t u c)), λ e u s. none_contained u (subst (λ xs. Contains xs u) e (steps_stand s)))
