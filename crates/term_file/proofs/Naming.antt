-- Trees over two lists of names are told apart alike where their named trees are the same.
use Rattle.std.proofs.Common.{◌≡◌, ℕ, ◌+◌, ◌<◌, true, List, [], ◌∷◌, ◌++◌, length, slice_get, refl, sym, ap, ◌∙◌}
use Rattle.std.specs.Prelude.{if◌then◌else◌}
use Rattle.std.specs.List.{flat_map, AllZip}
use Rattle.std.specs.Cmp.{first_so, second_so}
use Rattle.std.proofs.lemmas.Bool.{ltb-true, lt-ltb}
use Rattle.std.proofs.lemmas.Option.{slice_get_within}
use Rattle.symbol_pool.specs.Pool.{Named, IsPool}
use Rattle.symbol_pool.proofs.Places.{slice_get-append}
use Rattle.symbol_pool.proofs.Pools.{stands}
use Rattle.term_model.specs.declared.Head.{Head}
use Rattle.term_model.specs.declared.Head.TheVariants.{App, Int, Nil, Cons}
use Rattle.term_model.specs.Tree.{Tree, Leaf, Node, Trees, End, More, subtrees, subtrees_all, tree_eq, among, distinct}
use Rattle.term_model.proofs.Equality.{tree_eq_sound, tree_eq_same, among_here, among_there}
use Rattle.term_model.proofs.Members.{same_test}
use Rattle.tree_text.specs.Text.{is_named, has_names, all_have_names}
use Rattle.term_file.specs.NamedTree.{Called, Over, One_more, named_head, named_tree, named_trees, AreSame}
use Rattle.term_file.specs.Sharing.{different}
use Rattle.term_file.proofs.SymbolFields.{both_true}
use Rattle.term_file.proofs.Zips.{zip_append, zip_flat}

-- ---- trees of one list of names

one_name : (names : List Named) (f g : ℕ) → IsPool names → f < length names → slice_get names f ≡ slice_get names g → f ≡ g
one_name names f g pool lt e = let s = stands names f lt in pool.once f g s.item s.at (sym e ∙ s.at)

heads_apart : (names : List Named) (h g : Head) → IsPool names → is_named names h ≡ true → named_head names h ≡ named_head names g → h ≡ g
heads_apart names (App f) (App g) pool a e =
    let same : slice_get names f.0 ≡ slice_get names g.0 = cc in
    ap (λ n. App (record { 0 = n })) (one_name names f.0 g.0 pool (ltb-true _ _ a) same)
heads_apart names (App f) (Int w) pool a e = absurd cc
heads_apart names (App f) Nil pool a e = absurd cc
heads_apart names (App f) Cons pool a e = absurd cc
heads_apart names (Int v) (App g) pool a e = absurd cc
heads_apart names (Int v) (Int w) pool a e = let same : v ≡ w = cc in ap Int same
heads_apart names (Int v) Nil pool a e = absurd cc
heads_apart names (Int v) Cons pool a e = absurd cc
heads_apart names Nil (App g) pool a e = absurd cc
heads_apart names Nil (Int w) pool a e = absurd cc
heads_apart names Nil Nil pool a e = refl
heads_apart names Nil Cons pool a e = absurd cc
heads_apart names Cons (App g) pool a e = absurd cc
heads_apart names Cons (Int w) pool a e = absurd cc
heads_apart names Cons Nil pool a e = absurd cc
heads_apart names Cons Cons pool a e = refl

mutual
  trees_apart : (names : List Named) (t u : Tree) → IsPool names → has_names names t ≡ true → named_tree names t ≡ named_tree names u → t ≡ u
  trees_apart names (Leaf x) (Leaf y) pool a e = let same : x ≡ y = cc in ap Leaf same
  trees_apart names (Leaf x) (Node g us) pool a e = absurd cc
  trees_apart names (Node h ts) (Leaf y) pool a e = absurd cc
  trees_apart names (Node h ts) (Node g us) pool a e =
      let heads : named_head names h ≡ named_head names g = cc in
      let args : named_trees names ts ≡ named_trees names us = cc in
      let p = heads_apart names h g pool (first_so (is_named names h) _ a) heads in
      let q = all_apart names ts us pool (second_so (is_named names h) _ a) args in
      λ i. Node (p i) (q i)

  all_apart : (names : List Named) (ts us : Trees) → IsPool names → all_have_names names ts ≡ true → named_trees names ts ≡ named_trees names us → ts ≡ us
  all_apart names End End pool a e = refl
  all_apart names End (More u us) pool a e = absurd cc
  all_apart names (More t ts) End pool a e = absurd cc
  all_apart names (More t ts) (More u us) pool a e =
      let first : named_tree names t ≡ named_tree names u = cc in
      let rest : named_trees names ts ≡ named_trees names us = cc in
      let p = trees_apart names t u pool (first_so (has_names names t) _ a) first in
      let q = all_apart names ts us pool (second_so (has_names names t) _ a) rest in
      λ i. More (p i) (q i)

-- ---- trees of two lists of names

head_held : (names symbols : List Named) (h g : Head) → named_head names h ≡ named_head symbols g → is_named symbols g ≡ true → is_named names h ≡ true
head_held names symbols (App f) (App g) e a =
    let same : slice_get names f.0 ≡ slice_get symbols g.0 = cc in
    let s = stands symbols g.0 (ltb-true _ _ a) in
    lt-ltb _ _ (slice_get_within names f.0 s.item (same ∙ s.at))
head_held names symbols (App f) (Int w) e a = absurd cc
head_held names symbols (App f) Nil e a = absurd cc
head_held names symbols (App f) Cons e a = absurd cc
head_held names symbols (Int v) g e a = refl
head_held names symbols Nil g e a = refl
head_held names symbols Cons g e a = refl

mutual
  pub tree_held : (names symbols : List Named) (t u : Tree) → named_tree names t ≡ named_tree symbols u → has_names symbols u ≡ true → has_names names t ≡ true
  tree_held names symbols (Leaf x) u e a = refl
  tree_held names symbols (Node h ts) (Leaf y) e a = absurd cc
  tree_held names symbols (Node h ts) (Node g us) e a =
      let heads : named_head names h ≡ named_head symbols g = cc in
      let args : named_trees names ts ≡ named_trees symbols us = cc in
      both_true _ _ (head_held names symbols h g heads (first_so (is_named symbols g) _ a))
      (all_held names symbols ts us args (second_so (is_named symbols g) _ a))

  all_held : (names symbols : List Named) (ts us : Trees) → named_trees names ts ≡ named_trees symbols us → all_have_names symbols us ≡ true → all_have_names names ts ≡ true
  all_held names symbols End us e a = refl
  all_held names symbols (More t ts) End e a = absurd cc
  all_held names symbols (More t ts) (More u us) e a =
      let first : named_tree names t ≡ named_tree symbols u = cc in
      let rest : named_trees names ts ≡ named_trees symbols us = cc in
      both_true _ _ (tree_held names symbols t u first (first_so (has_names symbols u) _ a))
      (all_held names symbols ts us rest (second_so (has_names symbols u) _ a))

-- ---- more names

grown_head : (names more : List Named) (h : Head) → is_named names h ≡ true → named_head (names ++ more) h ≡ named_head names h
grown_head names more (App f) a = ap Called (slice_get-append names more f.0 (ltb-true _ _ a))
grown_head names more (Int v) a = refl
grown_head names more Nil a = refl
grown_head names more Cons a = refl

mutual
  pub grown_tree : (names more : List Named) (t : Tree) → has_names names t ≡ true → named_tree (names ++ more) t ≡ named_tree names t
  grown_tree names more (Leaf x) a = refl
  grown_tree names more (Node h ts) a =
      let p = grown_head names more h (first_so (is_named names h) _ a) in
      let q = grown_trees names more ts (second_so (is_named names h) _ a) in
      λ i. Over (p i) (q i)

  grown_trees : (names more : List Named) (ts : Trees) → all_have_names names ts ≡ true → named_trees (names ++ more) ts ≡ named_trees names ts
  grown_trees names more End a = refl
  grown_trees names more (More t ts) a =
      let p = grown_tree names more t (first_so (has_names names t) _ a) in
      let q = grown_trees names more ts (second_so (has_names names t) _ a) in
      λ i. One_more (p i) (q i)

-- ---- how many are different

module _ (names symbols : List Named) (one : IsPool names) (other : IsPool symbols) where
  record Alike (t u : Tree) : Type 0 where
    left : has_names names t ≡ true
    right : has_names symbols u ≡ true
    same : named_tree names t ≡ named_tree symbols u

  mutual
    alike_subtrees : (t u : Tree) → Alike t u → AllZip Alike (subtrees t) (subtrees u)
    alike_subtrees (Leaf x) (Leaf y) a = (a, tt)
    alike_subtrees (Leaf x) (Node g us) a = let e = a.same in absurd cc
    alike_subtrees (Node h ts) (Leaf y) a = let e = a.same in absurd cc
    alike_subtrees (Node h ts) (Node g us) a =
        let e = a.same in
        let args : named_trees names ts ≡ named_trees symbols us = cc in
        (a, alike_all ts us (second_so (is_named names h) _ a.left) (second_so (is_named symbols g) _ a.right) args)

    alike_all : (ts us : Trees) → all_have_names names ts ≡ true → all_have_names symbols us ≡ true → named_trees names ts ≡ named_trees symbols us → AllZip Alike (subtrees_all ts) (subtrees_all us)
    alike_all End End a b e = tt
    alike_all End (More u us) a b e = absurd cc
    alike_all (More t ts) End a b e = absurd cc
    alike_all (More t ts) (More u us) a b e =
        let first : named_tree names t ≡ named_tree symbols u = cc in
        let rest : named_trees names ts ≡ named_trees symbols us = cc in
        zip_append Alike (subtrees t) (subtrees_all ts) (subtrees u) (subtrees_all us)
        (alike_subtrees t u (record { left = first_so (has_names names t) _ a; right = first_so (has_names symbols u) _ b; same = first }))
        (alike_all ts us (second_so (has_names names t) _ a) (second_so (has_names symbols u) _ b) rest)

  test_alike : (t v u w : Tree) → Alike t u → Alike v w → tree_eq t v ≡ tree_eq u w
  test_alike t v u w a b =
      same_test (tree_eq t v) (tree_eq u w)
      (λ e. tree_eq_same u w (trees_apart symbols u w other a.right (sym a.same ∙ ap (named_tree names) (tree_eq_sound t v e) ∙ b.same)))
      (λ e. tree_eq_same t v (trees_apart names t v one a.left (a.same ∙ ap (named_tree symbols) (tree_eq_sound u w e) ∙ sym b.same)))

  among_alike : (t u : Tree) (vs ws : List Tree) → Alike t u → AllZip Alike vs ws → among t vs ≡ among u ws
  among_alike t u [] [] a zip = refl
  among_alike t u [] (w ∷ ws) a zip = absurd zip
  among_alike t u (v ∷ vs) [] a zip = absurd zip
  among_alike t u (v ∷ vs) (w ∷ ws) a zip =
      let p = test_alike t v u w a zip.0 in
      let q = among_alike t u vs ws a zip.1 in
      λ i. if p i then true else q i

  distinct_alike : (ts us : List Tree) → AllZip Alike ts us → distinct ts ≡ distinct us
  distinct_alike [] [] zip = refl
  distinct_alike [] (u ∷ us) zip = absurd zip
  distinct_alike (t ∷ ts) [] zip = absurd zip
  distinct_alike (t ∷ ts) (u ∷ us) zip =
      let p = among_alike t u ts us zip.0 zip.1 in
      let q = distinct_alike ts us zip.1 in
      λ i. if p i then q i else q i + 1

  alike_lists : (ts us : List Tree) → AreSame names ts symbols us → ((u : Tree) → among u us ≡ true → has_names symbols u ≡ true) → AllZip Alike ts us
  alike_lists [] [] e held = tt
  alike_lists [] (u ∷ us) e held = absurd cc
  alike_lists (t ∷ ts) [] e held = absurd cc
  alike_lists (t ∷ ts) (u ∷ us) e held =
      let first : named_tree names t ≡ named_tree symbols u = cc in
      let rest : AreSame names ts symbols us = cc in
      let right = held u (among_here u u us refl) in (
        record { left = tree_held names symbols t u first right; right = right; same = first },
        alike_lists ts us rest (λ v i. held v (among_there v u us i)),
      )

  -- the same trees have as many different subtrees
  pub different_same : (ts us : List Tree) → AreSame names ts symbols us → ((u : Tree) → among u us ≡ true → has_names symbols u ≡ true) → different ts ≡ different us
  different_same ts us e held =
      distinct_alike (flat_map subtrees ts) (flat_map subtrees us)
      (zip_flat Alike Alike subtrees subtrees ts us (alike_lists ts us e held) alike_subtrees)
