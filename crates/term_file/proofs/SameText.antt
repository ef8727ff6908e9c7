-- The same terms have one text, whatever numbers their symbols have.
use Rattle.std.proofs.Common.{◌≡◌, ℕ, List, [], ◌∷◌, ◌++◌, slice_get, Option, refl, ap, codes}
use Rattle.std.specs.Prelude.{unwrap_or, decimal}
use Rattle.std.specs.Option.{option_map}
use Rattle.symbol_pool.specs.Pool.{Named}
use Rattle.term_model.specs.declared.Symbol.{Symbol}
use Rattle.term_model.specs.declared.Head.{Head}
use Rattle.term_model.specs.declared.Head.TheVariants.{App, Int, Nil, Cons}
use Rattle.term_model.specs.Tree.{Tree, Leaf, Node, Trees, End, More}
use Rattle.tree_text.specs.Text.{text_by, in_parentheses, after_commas, elements, further_elements}
use Rattle.tree_text.specs.Canonical.{spelled_name, spelling, canonical_lines}
use Rattle.term_file.specs.NamedTree.{named_head, named_tree, named_trees, AreSame}

module _ (names others : List Named) where
  abbrev S : Symbol → List ℕ
  S = spelling names

  abbrev R : Symbol → List ℕ
  R = spelling others

  spelled_same : (f g : Symbol) → slice_get names f.0 ≡ slice_get others g.0 → S f ≡ R g
  spelled_same f g e = ap (λ (o : Option Named). spelled_name (unwrap_or (option_map (λ s. s.name) o) [])) e

  node_same : (h g : Head) (ts us : Trees) → named_head names h ≡ named_head others g → in_parentheses S ts ≡ in_parentheses R us → elements S ts ≡ elements R us → text_by S (Node h ts) ≡ text_by R (Node g us)
  node_same (App f) (App g) ts us e p q =
      let same : slice_get names f.0 ≡ slice_get others g.0 = cc in
      let n = spelled_same f g same in
      λ i. n i ++ p i
  node_same (App f) (Int w) ts us e p q = absurd cc
  node_same (App f) Nil ts us e p q = absurd cc
  node_same (App f) Cons ts us e p q = absurd cc
  node_same (Int v) (App g) ts us e p q = absurd cc
  node_same (Int v) (Int w) ts us e p q = let same : v ≡ w = cc in ap decimal same
  node_same (Int v) Nil ts us e p q = absurd cc
  node_same (Int v) Cons ts us e p q = absurd cc
  node_same Nil (App g) ts us e p q = absurd cc
  node_same Nil (Int w) ts us e p q = absurd cc
  node_same Nil Nil ts us e p q = refl
  node_same Nil Cons ts us e p q = absurd cc
  node_same Cons (App g) ts us e p q = absurd cc
  node_same Cons (Int w) ts us e p q = absurd cc
  node_same Cons Nil ts us e p q = absurd cc
  node_same Cons Cons ts us e p q = λ i. codes "[" ++ q i ++ codes "]"

  rest_same : (h g : Head) (ts us : Trees) → named_head names h ≡ named_head others g → elements S ts ≡ elements R us → further_elements S (Node h ts) ≡ further_elements R (Node g us)
  rest_same (App f) (App g) ts us e q = refl
  rest_same (App f) (Int w) ts us e q = refl
  rest_same (App f) Nil ts us e q = refl
  rest_same (App f) Cons ts us e q = absurd cc
  rest_same (Int v) (App g) ts us e q = refl
  rest_same (Int v) (Int w) ts us e q = refl
  rest_same (Int v) Nil ts us e q = refl
  rest_same (Int v) Cons ts us e q = absurd cc
  rest_same Nil (App g) ts us e q = refl
  rest_same Nil (Int w) ts us e q = refl
  rest_same Nil Nil ts us e q = refl
  rest_same Nil Cons ts us e q = absurd cc
  rest_same Cons (App g) ts us e q = absurd cc
  rest_same Cons (Int w) ts us e q = absurd cc
  rest_same Cons Nil ts us e q = absurd cc
  rest_same Cons Cons ts us e q = λ i. codes "," ++ q i

  mutual
    text_same : (t u : Tree) → named_tree names t ≡ named_tree others u → text_by S t ≡ text_by R u
    text_same (Leaf x) (Leaf y) e = refl
    text_same (Leaf x) (Node g us) e = absurd cc
    text_same (Node h ts) (Leaf y) e = absurd cc
    text_same (Node h ts) (Node g us) e =
        let heads : named_head names h ≡ named_head others g = cc in
        let args : named_trees names ts ≡ named_trees others us = cc in
        node_same h g ts us heads (parens_same ts us args) (elements_same ts us args)

    further_same : (t u : Tree) → named_tree names t ≡ named_tree others u → further_elements S t ≡ further_elements R u
    further_same (Leaf x) (Leaf y) e = refl
    further_same (Leaf x) (Node g us) e = absurd cc
    further_same (Node h ts) (Leaf y) e = absurd cc
    further_same (Node h ts) (Node g us) e =
        let heads : named_head names h ≡ named_head others g = cc in
        let args : named_trees names ts ≡ named_trees others us = cc in
        rest_same h g ts us heads (elements_same ts us args)

    parens_same : (ts us : Trees) → named_trees names ts ≡ named_trees others us → in_parentheses S ts ≡ in_parentheses R us
    parens_same End End e = refl
    parens_same End (More u us) e = absurd cc
    parens_same (More t ts) End e = absurd cc
    parens_same (More t ts) (More u us) e =
        let first : named_tree names t ≡ named_tree others u = cc in
        let rest : named_trees names ts ≡ named_trees others us = cc in
        let p = text_same t u first in
        let q = commas_same ts us rest in
        λ i. codes "(" ++ p i ++ q i ++ codes ")"

    commas_same : (ts us : Trees) → named_trees names ts ≡ named_trees others us → after_commas S ts ≡ after_commas R us
    commas_same End End e = refl
    commas_same End (More u us) e = absurd cc
    commas_same (More t ts) End e = absurd cc
    commas_same (More t ts) (More u us) e =
        let first : named_tree names t ≡ named_tree others u = cc in
        let rest : named_trees names ts ≡ named_trees others us = cc in
        let p = text_same t u first in
        let q = commas_same ts us rest in
        λ i. codes "," ++ p i ++ q i

    elements_same : (ts us : Trees) → named_trees names ts ≡ named_trees others us → elements S ts ≡ elements R us
    elements_same End End e = refl
    elements_same End (More u us) e = absurd cc
    elements_same (More t ts) End e = absurd cc
    elements_same (More t End) (More u End) e = refl
    elements_same (More t End) (More u (More w us)) e = absurd cc
    elements_same (More t (More v ts)) (More u End) e = absurd cc
    elements_same (More t (More v End)) (More u (More w End)) e =
        let first : named_tree names t ≡ named_tree others u = cc in
        let rest : named_tree names v ≡ named_tree others w = cc in
        let p = text_same t u first in
        let q = further_same v w rest in
        λ i. p i ++ q i
    elements_same (More t (More v End)) (More u (More w (More y us))) e = absurd cc
    elements_same (More t (More v (More x ts))) (More u (More w End)) e = absurd cc
    elements_same (More t (More v (More x ts))) (More u (More w (More y us))) e = refl

  pub lines_same : (ts us : List Tree) → AreSame names ts others us → canonical_lines names ts ≡ canonical_lines others us
  lines_same [] [] e = refl
  lines_same [] (u ∷ us) e = absurd cc
  lines_same (t ∷ ts) [] e = absurd cc
  lines_same (t ∷ ts) (u ∷ us) e =
      let first : named_tree names t ≡ named_tree others u = cc in
      let rest : AreSame names ts others us = cc in
      let p = text_same t u first in
      let q = lines_same ts us rest in
      λ i. p i ++ 10 ∷ q i
