-- What is left to walk through falls.
use Rattle.std.proofs.Common.{◌≡◌, ℕ, zero, suc, ◌+◌, ◌*◌, ◌≤◌, List, [], ◌∷◌, ◌++◌, drop, refl, sym, ◌∙◌, ap, arith, Some}
use Rattle.std.specs.Prelude.{slice_get}
use Rattle.std.proofs.lemmas.Option.{same_Some}
use Rattle.term_model.specs.Tree.{Tree, Leaf, Node, Trees, End, More, list_of, arguments, nodes, nodes_all}
use Rattle.terms_api.specs.Terms.{Store, tree_at}
use Rattle.innermost.specs.declared.spots.Spot.{Spot}
use Rattle.innermost.specs.Walking.{nodes_of, left_of}

pub left_push : (s : Store) (fs : List Spot) (f : Spot) → left_of s (fs ++ f ∷ []) ≡ left_of s fs + (1 + 2 * nodes_of (drop f.argument (arguments (tree_at s f.row))))
left_push s [] f = omega arith
left_push s (g ∷ gs) f = let h = left_push s gs f in omega (arith, h)

nodes_list : (ts : Trees) → nodes_of (list_of ts) ≡ nodes_all ts
nodes_list End = refl
nodes_list (More t ts) = ap (λ n. nodes t + n) (nodes_list ts)

pub nodes_arguments : (t : Tree) → nodes_of (arguments t) + 1 ≤ nodes t
nodes_arguments (Leaf x) = omega arith
nodes_arguments (Node h ts) = let e = nodes_list ts in omega (arith, e)

pub nodes_drop : (ts : List Tree) (a : ℕ) (t : Tree) → slice_get ts a ≡ Some t → nodes_of (drop a ts) ≡ nodes t + nodes_of (drop (a + 1) ts)
nodes_drop [] a t e = absurd (cc)
nodes_drop (u ∷ us) zero t e = ap (λ v. nodes v + nodes_of us) (same_Some u t e)
nodes_drop (u ∷ us) (suc a) t e = nodes_drop us a t e ∙ (let k : a + 1 ≡ suc a = omega arith in ap (λ n. nodes t + nodes_of (drop n us)) k) ∙ more u us a t
  where
    more : (v : Tree) (vs : List Tree) (b : ℕ) (w : Tree) → nodes w + nodes_of (drop (suc b) vs) ≡ nodes w + nodes_of (drop (suc b + 1) (v ∷ vs))
    more v vs b w = let k : suc b + 1 ≡ suc (suc b) = omega arith in ap (λ n. nodes w + nodes_of (drop n (v ∷ vs))) (sym k)
