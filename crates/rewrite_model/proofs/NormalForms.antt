-- Steps at a root and in arguments, and normal forms.
use Rattle.std.proofs.Common.{◌≡◌, ℕ, zero, suc, List, [], ◌∷◌, ◌++◌, get_or, Some, None, refl, sym, ◌∙◌, ap, subst, arith}
use Rattle.std.specs.Prelude.{All, Contains}
use Rattle.std.proofs.lemmas.List.Elements.{All-contains, Contains-append_right}
use Rattle.std.proofs.lemmas.Option.{same_Some, option_and_then_some}
use Rattle.term_model.specs.Tree.{Tree, Leaf, Node, Trees, End, More, head_eq, tree_eq}
use Rattle.term_model.specs.declared.Head.{Head}
use Rattle.rewrite_model.specs.Rule.{Rule, IsNode}
use Rattle.rewrite_model.specs.Matching.{bind, match_from, match_all, match_of, instance, instances, tree_at}
use Rattle.rewrite_model.specs.Step.{Step, at_root, inside, StepIn, here, there, Reaches, none, more, IsNormalForm}
use Rattle.rewrite_model.proofs.Matches.{chosen, mapped, if_some}

-- no rule of a list matches a tree
abbrev pub NoneMatches : List Rule → Tree → Type 0
NoneMatches rs t = All (λ (r : Rule). match_of r.left t ≡ None) rs

pub first_contained : (front rs : List Rule) (r : Rule) → Contains (front ++ r ∷ rs) r
first_contained front rs r = Contains-append_right front (r ∷ rs) r (0, omega arith, refl)

module _ (rules : List Rule) where
  pub data ReachesIn : Trees → Trees → Type 0 where
    none_in : {ts : Trees} → ReachesIn ts ts
    more_in : {ts us vs : Trees} → StepIn rules ts us → ReachesIn us vs → ReachesIn ts vs

  abbrev pub NormalIn : Trees → Type 0
  NormalIn End = Unit {0}
  NormalIn (More t ts) = IsNormalForm rules t × NormalIn ts

  abbrev pub NormalAll : List Tree → Type 0
  NormalAll [] = Unit {0}
  NormalAll (t ∷ ts) = IsNormalForm rules t × NormalAll ts

  pub reaches_both : {t u v : Tree} → Reaches rules t u → Reaches rules u v → Reaches rules t v
  reaches_both none q = q
  reaches_both (more s p) q = more s (reaches_both p q)

  pub reach_both : {t u v : Trees} → ReachesIn t u → ReachesIn u v → ReachesIn t v
  reach_both none_in q = q
  reach_both (more_in s p) q = more_in s (reach_both p q)

  pub all_inside : {ts us : Trees} (h : Head) → ReachesIn ts us → Reaches rules (Node h ts) (Node h us)
  all_inside h none_in = none
  all_inside h (more_in s p) = more (inside s) (all_inside h p)

  pub all_here : {t u : Tree} (ts : Trees) → Reaches rules t u → ReachesIn (More t ts) (More u ts)
  all_here ts none = none_in
  all_here ts (more s p) = more_in (here s) (all_here ts p)

  pub all_there : {ts us : Trees} (t : Tree) → ReachesIn ts us → ReachesIn (More t ts) (More t us)
  all_there t none_in = none_in
  all_there t (more_in s p) = more_in (there s) (all_there t p)

  -- arguments are normal forms where none of them has a step
  no_step_in : (ts us : Trees) → NormalIn ts → StepIn rules ts us → ⊥
  no_step_in End us n x = elim x [ ]
  no_step_in (More t ts) us n (here {u = u} s) = n.0 u s
  no_step_in (More t ts) us n (there {us = vs} s) = no_step_in ts vs n.1 s

  args_normal : (h : Head) (ts : Trees) → ((us : Trees) → StepIn rules ts us → ⊥) → NormalIn ts
  args_normal h End n = tt
  args_normal h (More t ts) n = (λ u s. n (More u ts) (here s), args_normal h ts (λ us s. n (More t us) (there s)))

  pub inside_normal : (h : Head) (ts : Trees) → IsNormalForm rules (Node h ts) → NormalIn ts
  inside_normal h ts n = args_normal h ts (λ us s. n (Node h us) (inside s))

  no_root_step : (t : Tree) (r : Rule) (bound : List Tree) → NoneMatches rules t → Contains rules r → match_of r.left t ≡ Some bound → ⊥
  no_root_step t r bound n c m =
      let e : match_of r.left t ≡ None = All-contains (λ (q : Rule). match_of q.left t ≡ None) rules r n c in
      cc

  -- a node is a normal form where no rule matches it and its arguments are normal forms
  pub node_normal : (h : Head) (ts : Trees) → NormalIn ts → NoneMatches rules (Node h ts) → IsNormalForm rules (Node h ts)
  node_normal h ts n e u s = go (Node h ts) u s refl
    where
      go : (t v : Tree) → Step rules t v → t ≡ Node h ts → ⊥
      go t v (at_root {bound = b} r c m) w = no_root_step (Node h ts) r b e c (ap (match_of r.left) (sym w) ∙ m)
      go t v (inside {ts = vs} {us = us} d) w = let k : vs ≡ ts = cc in no_step_in ts us n (subst (λ xs. StepIn rules xs us) k d)

  pub leaf_normal : (x : ℕ) → NoneMatches rules (Leaf x) → IsNormalForm rules (Leaf x)
  leaf_normal x e u s = go (Leaf x) u s refl
    where
      go : (t v : Tree) → Step rules t v → t ≡ Leaf x → ⊥
      go t v (at_root {bound = b} r c m) w = no_root_step (Leaf x) r b e c (ap (match_of r.left) (sym w) ∙ m)
      go t v (inside d) w = cc

  -- what a left side binds is normal where the arguments of the tree that it matches are
  bind_normal : (x : ℕ) (t : Tree) (before bound : List Tree) → IsNormalForm rules t → NormalAll before → bind x t before ≡ Some bound → NormalAll bound
  bind_normal zero t [] bound n b h = subst NormalAll (same_Some (t ∷ []) bound h) (n, tt)
  bind_normal (suc x) t [] bound n b h = cc
  bind_normal zero t (u ∷ us) bound n b h = subst NormalAll (chosen (tree_eq u t) (u ∷ us) bound h).1 b
  bind_normal (suc x) t (u ∷ us) bound n b h =
      let m = mapped u (bind x t us) bound h in
      subst NormalAll m.2 (b.0, bind_normal x t us m.0 n b.1 m.1)

  mutual
    match_normal : (p t : Tree) (before bound : List Tree) → IsNormalForm rules t → NormalAll before → match_from p t before ≡ Some bound → NormalAll bound
    match_normal (Leaf x) t before bound n b h = bind_normal x t before bound n b h
    match_normal (Node f ps) (Leaf y) before bound n b h = cc
    match_normal (Node f ps) (Node g ts) before bound n b h = matches_normal ps ts before bound (inside_normal g ts n) b (if_some (head_eq f g) (match_all ps ts before) bound h).1

    matches_normal : (ps ts : Trees) (before bound : List Tree) → NormalIn ts → NormalAll before → match_all ps ts before ≡ Some bound → NormalAll bound
    matches_normal End End before bound n b h = subst NormalAll (same_Some before bound h) b
    matches_normal End (More t ts) before bound n b h = cc
    matches_normal (More p ps) End before bound n b h = cc
    matches_normal (More p ps) (More t ts) before bound n b h = option_and_then_some (λ m. match_all ps ts m) (match_from p t before) bound h (λ mid e e'.
        matches_normal ps ts mid bound n.1 (match_normal p t before mid n.0 b e) e')

  pub root_match_normal : (p : Tree) (h : Head) (ts : Trees) (bound : List Tree) → IsNode p → NormalIn ts → match_of p (Node h ts) ≡ Some bound → NormalAll bound
  root_match_normal (Leaf x) h ts bound i n e = absurd i
  root_match_normal (Node f ps) h ts bound i n e = matches_normal ps ts [] bound n tt (if_some (head_eq f h) (match_all ps ts []) bound e).1

  -- a variable by itself is a normal form where no left side is a variable
  node_no_leaf : (x : ℕ) (p : Tree) → IsNode p → match_of p (Leaf x) ≡ None
  node_no_leaf x (Leaf y) i = absurd i
  node_no_leaf x (Node f ps) i = refl

  pub variable_normal : All (λ (r : Rule). IsNode r.left) rules → (x : ℕ) → IsNormalForm rules (Leaf x)
  variable_normal nodes x = leaf_normal x (λ k r l. node_no_leaf x _ (nodes k r l))

  pub tree_normal : All (λ (r : Rule). IsNode r.left) rules → (x : ℕ) (bound : List Tree) → NormalAll bound → IsNormalForm rules (tree_at x bound)
  tree_normal nodes x bound n = go x bound n
    where
      go : (y : ℕ) (ts : List Tree) → NormalAll ts → IsNormalForm rules (get_or ts y (Leaf x))
      go y [] k = variable_normal nodes x
      go zero (t ∷ ts) k = k.0
      go (suc y) (t ∷ ts) k = go y ts k.1

mutual
  pub no_instance : (t : Tree) → instance t [] ≡ t
  no_instance (Leaf x) = refl
  no_instance (Node h ts) = ap (Node h) (no_instances ts)

  no_instances : (ts : Trees) → instances ts [] ≡ ts
  no_instances End = refl
  no_instances (More t ts) = ap (λ u. More u (instances ts [])) (no_instance t) ∙ ap (More t) (no_instances ts)
