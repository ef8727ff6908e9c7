-- The nodes of written terms spell their trees.
use Rattle.std.proofs.Common.{◌≡◌, ◌∙◌, ℕ, ◌+◌, List, [], ◌∷◌, ◌++◌, length, length-append, map, replicate, slice_get, refl, ap, sym, arith, append_assoc, append-nil, Bool, true, false, ◌&&◌, ◌==◌, Some}
use Rattle.std.specs.Prelude.{unwrap_or}
use Rattle.std.proofs.lemmas.List.{map-append, replicate_more, length-map}
use Rattle.term_model.specs.Tree as tree
use Rattle.term_model.specs.Tree.{IsWellFormed, is_well_formed, all_well_formed}
use Rattle.term_model.specs.Postorder.{postorder, postorder_all, tree_of}
use Rattle.term_model.specs.declared.Item.{Item}
use Rattle.term_model.specs.declared.Item.TheVariants.{App, Int, Nil, Cons}
use Rattle.term_model.proofs.Order.{tree_of-postorder, both}
use Rattle.symbol_pool.specs.Pool.{Named, named}
use Rattle.term_syntax.specs.State.{Part, Symbol, Integer, Brackets}
use Rattle.term_syntax.specs.declared.machine.Node.{Node}
use Rattle.term_syntax.specs.Written.{Written, Call, Digits, Listed, Writtens, End, More, count_of}
use Rattle.term_syntax.specs.Parts.{parts_of, parts_of_all, parts_of_input}
use Rattle.symbol_pool.specs.Taking.{number_of}
use Rattle.term_syntax.specs.TakenUp.{value_or_zero, tree_in, trees_in, cells_in}
use Rattle.term_syntax.specs.Nodes.{node, size_of, nodes_of, nodes_of_all, nodes_of_input}
use Rattle.term_syntax.specs.Items.{item_in, node_items, items_at, trees_at}
use Rattle.term_syntax.proofs.Complete.{same_size}

-- as many trees as terms
pub counted : (pool : List Named) (ws : Writtens) → tree.count_of (trees_in pool ws) ≡ count_of ws
counted pool End = refl
counted pool (More w ws) = ap (λ n. n + 1) (counted pool ws)

-- the trees are well-formed
list_at_end : (pool : List Named) (ws : Writtens) → tree.may_be_list (cells_in pool ws) ≡ true
list_at_end pool End = refl
list_at_end pool (More w ws) = refl

mutual
  pub is_tree : (pool : List Named) (w : Written) → IsWellFormed (tree_in pool w)
  is_tree pool (Call p n ws) = are_trees pool ws
  is_tree pool (Digits p v) = refl
  is_tree pool (Listed p ws) = are_cells pool ws

  are_trees : (pool : List Named) (ws : Writtens) → all_well_formed (trees_in pool ws) ≡ true
  are_trees pool End = refl
  are_trees pool (More w ws) = both (is_well_formed (tree_in pool w)) (all_well_formed (trees_in pool ws)) (is_tree pool w) (are_trees pool ws)

  are_cells : (pool : List Named) (ws : Writtens) → IsWellFormed (cells_in pool ws)
  are_cells pool End = refl
  are_cells pool (More w ws) =
      both (tree.may_be_list (cells_in pool ws)) (is_well_formed (tree_in pool w) && (is_well_formed (cells_in pool ws) && true)) (list_at_end pool ws)
      (both (is_well_formed (tree_in pool w)) (is_well_formed (cells_in pool ws) && true) (is_tree pool w)
      (both (is_well_formed (cells_in pool ws)) true (are_cells pool ws) refl))

-- items of nodes, one after another
items_more : (items : List Item) (ns ms : List Node) → items_at items (ns ++ ms) ≡ items_at items ns ++ items_at items ms
items_more items [] ms = refl
items_more items (n ∷ ns) ms = ap (λ xs. node_items items n ++ xs) (items_more items ns ms) ∙ sym (append_assoc (node_items items n) (items_at items ns) (items_at items ms))

item_behind : (xs : List Item) (x : Item) (ys : List Item) → slice_get (xs ++ x ∷ ys) (length xs) ≡ Some x
item_behind [] x ys = refl
item_behind (y ∷ xs) x ys = item_behind xs x ys

-- the cells that end a list stand behind its terms
list_items : (pool : List Named) (ws : Writtens) → postorder (cells_in pool ws) ≡ postorder_all (trees_in pool ws) ++ Nil ∷ replicate (count_of ws) Cons
list_items pool End = refl
list_items pool (More w ws) =
    let T = postorder (tree_in pool w) in
    let R = postorder_all (trees_in pool ws) in
    let n = count_of ws in
    ap (λ xs. (T ++ (xs ++ [])) ++ Cons ∷ []) (list_items pool ws)
    ∙ ap (λ xs. (T ++ xs) ++ Cons ∷ []) (append-nil (R ++ Nil ∷ replicate n Cons))
    ∙ append_assoc T (R ++ Nil ∷ replicate n Cons) (Cons ∷ [])
    ∙ ap (λ xs. T ++ xs) (append_assoc R (Nil ∷ replicate n Cons) (Cons ∷ []))
    ∙ ap (λ xs. T ++ (R ++ Nil ∷ xs)) (replicate_more n Cons)
    ∙ sym (append_assoc T R (Nil ∷ replicate (n + 1) Cons))

module _ (pool : List Named) where
  -- the items of the parts
  abbrev pub items_of : List Part → List Item
  items_of ps = map (item_in pool) ps

  -- the item of a head among the items before and after it
  last_items : (xs : List Item) (p : Part) (ys : List Item) (items : List Item) (k n : ℕ) → items ≡ xs ++ item_in pool p ∷ ys → length xs ≡ k → items_at items (node k n ∷ []) ≡ item_in pool p ∷ replicate n Cons
  last_items xs p ys items k n e l =
      let at : slice_get items k ≡ Some (item_in pool p) = ap (slice_get items) (sym l) ∙ ap (λ is. slice_get is (length xs)) e ∙ item_behind xs (item_in pool p) ys in
      append-nil (node_items items (node k n)) ∙ ap (λ o. unwrap_or o Nil ∷ replicate n Cons) at

  moved : (xs : List Item) (h : Item) (qs ys : List Item) → xs ++ (h ∷ qs) ++ ys ≡ (xs ++ h ∷ []) ++ qs ++ ys
  moved xs h qs ys = ap (λ zs. zs ++ ys) (sym (append_assoc xs (h ∷ []) qs))

  split : (xs : List Item) (ps qs : List Part) (ys : List Item) → xs ++ items_of (ps ++ qs) ++ ys ≡ (xs ++ items_of ps) ++ (items_of qs ++ ys)
  split xs ps qs ys =
      ap (λ zs. (xs ++ zs) ++ ys) (map-append (item_in pool) ps qs)
      ∙ ap (λ zs. zs ++ ys) (sym (append_assoc xs (items_of ps) (items_of qs)))
      ∙ append_assoc (xs ++ items_of ps) (items_of qs) ys

  past : (xs : List Item) (b : Bool) (w : Written) (k : ℕ) → length xs ≡ k → length (xs ++ items_of (parts_of b w)) ≡ k + size_of w
  past xs b w k l = omega (arith, length-append xs (items_of (parts_of b w)), length-map (parts_of b w) (item_in pool), same_size b w, l)

  mutual
    spells_term : (b : Bool) (w : Written) (xs ys items : List Item) (k : ℕ) → items ≡ xs ++ items_of (parts_of b w) ++ ys → length xs ≡ k → items_at items (nodes_of k w) ≡ postorder (tree_in pool w)
    spells_term b (Call p n ws) xs ys items k e l =
        let h : Part = record { place = p; over = b; kind = Symbol n; count = count_of ws } in
        let qs = items_of (parts_of_all true 0 ws) in
        let before : length (xs ++ item_in pool h ∷ []) ≡ k + 1 = omega (arith, length-append xs (item_in pool h ∷ []), l) in
        items_more items (nodes_of_all (k + 1) ws) (node k 0 ∷ [])
        ∙ ap (λ is. is ++ items_at items (node k 0 ∷ [])) (spells_all true 0 ws (xs ++ item_in pool h ∷ []) ys items (k + 1) (e ∙ moved xs (item_in pool h) qs ys) before)
        ∙ ap (λ is. postorder_all (trees_in pool ws) ++ is) (last_items xs h (qs ++ ys) items k 0 (e ∙ append_assoc xs (item_in pool h ∷ qs) ys) l)
        ∙ ap (λ c. postorder_all (trees_in pool ws) ++ App (record { 0 = number_of pool (named n (count_of ws)) }) c ∷ []) (sym (counted pool ws))
    spells_term b (Digits p v) xs ys items k e l =
        last_items xs (record { place = p; over = b; kind = Integer v; count = 0 }) ys items k 0 (e ∙ append_assoc xs (Int (value_or_zero v) ∷ []) ys) l
    spells_term b (Listed p ws) xs ys items k e l =
        let h : Part = record { place = p; over = b; kind = Brackets; count = count_of ws } in
        let qs = items_of (parts_of_all false 0 ws) in
        let before : length (xs ++ Nil ∷ []) ≡ k + 1 = omega (arith, length-append xs (Nil ∷ []), l) in
        items_more items (nodes_of_all (k + 1) ws) (node k (count_of ws) ∷ [])
        ∙ ap (λ is. is ++ items_at items (node k (count_of ws) ∷ [])) (spells_all false 0 ws (xs ++ Nil ∷ []) ys items (k + 1) (e ∙ moved xs Nil qs ys) before)
        ∙ ap (λ is. postorder_all (trees_in pool ws) ++ is) (last_items xs h (qs ++ ys) items k (count_of ws) (e ∙ append_assoc xs (Nil ∷ qs) ys) l)
        ∙ sym (list_items pool ws)

    spells_all : (called : Bool) (c : ℕ) (ws : Writtens) (xs ys items : List Item) (k : ℕ) → items ≡ xs ++ items_of (parts_of_all called c ws) ++ ys → length xs ≡ k → items_at items (nodes_of_all k ws) ≡ postorder_all (trees_in pool ws)
    spells_all called c End xs ys items k e l = refl
    spells_all called c (More w ws) xs ys items k e l =
        let b = called && c == 16 in
        let there = e ∙ split xs (parts_of b w) (parts_of_all called (c + 1) ws) ys in
        items_more items (nodes_of k w) (nodes_of_all (k + size_of w) ws)
        ∙ ap (λ is. is ++ items_at items (nodes_of_all (k + size_of w) ws)) (spells_term b w xs (items_of (parts_of_all called (c + 1) ws) ++ ys) items k there l)
        ∙ ap (λ is. postorder (tree_in pool w) ++ is) (spells_all called (c + 1) ws (xs ++ items_of (parts_of b w)) ys items (k + size_of w) (there ∙ sym (append_assoc (xs ++ items_of (parts_of b w)) (items_of (parts_of_all called (c + 1) ws)) ys)) (past xs b w k l))

  -- the trees of an input
  pub spells_input : (ws : List Written) (xs items : List Item) (k : ℕ) → items ≡ xs ++ items_of (parts_of_input ws) → length xs ≡ k → trees_at items (nodes_of_input k ws) ≡ map (λ w. Some (tree_in pool w)) ws
  spells_input [] xs items k e l = refl
  spells_input (w ∷ ws) xs items k e l =
      let rest = parts_of_input ws in
      let none = append-nil (items_of rest) in
      let there : items ≡ (xs ++ items_of (parts_of false w)) ++ items_of rest =
      e ∙ sym (append-nil (xs ++ items_of (parts_of false w ++ rest))) ∙ split xs (parts_of false w) rest [] ∙ ap (λ is. (xs ++ items_of (parts_of false w)) ++ is) none in
      let one : tree_of (items_at items (nodes_of k w)) ≡ Some (tree_in pool w) =
      ap tree_of (spells_term false w xs (items_of rest) items k there l) ∙ tree_of-postorder (tree_in pool w) (is_tree pool w) in
      let others = spells_input ws (xs ++ items_of (parts_of false w)) items (k + size_of w) there (past xs false w k l) in
      λ i. one i ∷ others i
