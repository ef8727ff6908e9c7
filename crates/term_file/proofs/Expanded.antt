-- A term is written out from its last item to its first.
use Rattle.std.proofs.Common.{◌≡◌, ℕ, ◌<◌, ◌≤◌, true, List, [], ◌∷◌, ◌++◌, length, reverse, slice_get, Some, refl, sym, ap, subst, ◌∙◌, arith, append_assoc, append-nil}
use Rattle.std.specs.Prelude.{map}
use Rattle.std.specs.List.{flat_map, AllByRecursion}
use Rattle.std.proofs.lemmas.List.{length-append, reverse-append}
use Rattle.std.proofs.lemmas.Grind.{flat_map-append}
use Rattle.std.proofs.lemmas.Option.{same_Some, slice_get_within}
use Rattle.symbol_pool.specs.Pool.{Named}
use Rattle.term_model.specs.declared.Item.{Item}
use Rattle.term_model.specs.Tree.{Tree, count_of, trees_of, IsWellFormed}
use Rattle.term_model.specs.Postorder.{item_of, postorder, postorder_all, tree_of}
use Rattle.term_model.proofs.Order.{tree_of-postorder}
use Rattle.term_file.specs.Contents.{Record, trees, tree_at}
use Rattle.term_file.specs.Right.{all_after, is_right_record, arity_in}
use Rattle.term_file.specs.Expanding.{items_at, items_left}
use Rattle.term_file.proofs.Facts.{facts_at}
use Rattle.term_file.proofs.Equations.{tree_of_record}

items_of_trees : (f : ℕ → Tree) (ks : List ℕ) → postorder_all (trees_of (map f ks)) ≡ flat_map (λ k. postorder (f k)) ks
items_of_trees f [] = refl
items_of_trees f (k ∷ ks) = ap (λ is. postorder (f k) ++ is) (items_of_trees f ks)

count_of_trees : (f : ℕ → Tree) (ks : List ℕ) → count_of (trees_of (map f ks)) ≡ length ks
count_of_trees f [] = refl
count_of_trees f (k ∷ ks) = let n = count_of_trees f ks in omega (arith, n)

append_below : (P : ℕ → Type 0) (xs ys : List ℕ) → AllByRecursion P xs → AllByRecursion P ys → AllByRecursion P (xs ++ ys)
append_below P [] ys a b = b
append_below P (x ∷ xs) ys a b = (a.0, append_below P xs ys a.1 b)

below_weaker : (n m : ℕ) → n ≤ m → (ks : List ℕ) → AllByRecursion (λ k. k < n) ks → AllByRecursion (λ k. k < m) ks
below_weaker n m le [] h = tt
below_weaker n m le (k ∷ ks) h = (omega (arith, h.0), below_weaker n m le ks h.1)

module _ (symbols : List Named) (records : List Record) (right : all_after (is_right_record symbols) [] records ≡ true) (number : ℕ) (r : Record) (at : slice_get records number ≡ Some r) where
  -- the items of a record are those of its arguments, and its own
  items_of_record : items_at records number ≡ flat_map (items_at records) r.arguments ++ item_of r.head (arity_in symbols r.head) ∷ []
  items_of_record =
      let facts = facts_at symbols records right number r at in
      let count : count_of (trees_of (map (tree_at (trees records)) r.arguments)) ≡ arity_in symbols r.head = count_of_trees (tree_at (trees records)) r.arguments ∙ facts.arity in
      ap postorder (tree_of_record records number r at facts.before)
      ∙ (λ i. items_of_trees (tree_at (trees records)) r.arguments i ++ item_of r.head (count i) ∷ [])

  pub last_written : (rest new : List ℕ) (items after : List Item) → new ≡ rest ++ r.arguments → after ≡ items ++ item_of r.head (arity_in symbols r.head) ∷ [] → items_left records new after ≡ items_left records (rest ++ number ∷ []) items
  last_written rest new items after e f =
      let P : ℕ → List Item = items_at records in
      let own : List Item = item_of r.head (arity_in symbols r.head) ∷ [] in
      let left : flat_map P new ≡ flat_map P rest ++ flat_map P r.arguments = ap (flat_map P) e ∙ flat_map-append P rest r.arguments in
      let back : reverse after ≡ own ++ reverse items = ap reverse f ∙ reverse-append items own in
      let before : flat_map P (rest ++ number ∷ []) ≡ flat_map P rest ++ (flat_map P r.arguments ++ own) = flat_map-append P rest (number ∷ []) ∙ ap (λ is. flat_map P rest ++ is) (append-nil (P number) ∙ items_of_record) in
      (λ i. left i ++ back i)
      ∙ sym (append_assoc (flat_map P rest ++ flat_map P r.arguments) own (reverse items))
      ∙ ap (λ is. is ++ reverse items) (append_assoc (flat_map P rest) (flat_map P r.arguments) own ∙ sym before)

  pub fewer_left : (rest new : List ℕ) → new ≡ rest ++ r.arguments → length (flat_map (items_at records) new) < length (flat_map (items_at records) (rest ++ number ∷ []))
  fewer_left rest new e =
      let P : ℕ → List Item = items_at records in
      let own : List Item = item_of r.head (arity_in symbols r.head) ∷ [] in
      let a = ap (λ (is : List Item). length is) (ap (flat_map P) e ∙ flat_map-append P rest r.arguments) in
      let b = ap (λ (is : List Item). length is) (flat_map-append P rest (number ∷ []) ∙ ap (λ is. flat_map P rest ++ is) (append-nil (P number) ∙ items_of_record)) in
      omega (arith, a, b, length-append (flat_map P rest) (flat_map P r.arguments), length-append (flat_map P rest) (flat_map P r.arguments ++ own), length-append (flat_map P r.arguments) own)

  pub arguments_left : (rest new : List ℕ) → new ≡ rest ++ r.arguments → AllByRecursion (λ k. k < length records) rest → AllByRecursion (λ k. k < length records) new
  arguments_left rest new e below =
      let facts = facts_at symbols records right number r at in
      let lt = slice_get_within records number r at in
      subst (AllByRecursion (λ k. k < length records)) (sym e)
      (append_below (λ k. k < length records) rest r.arguments below (below_weaker number (length records) (omega arith) r.arguments facts.before))

-- what is left at the beginning, and at the end
pub all_left : (records : List Record) (root : ℕ) (numbers : List ℕ) (items : List Item) → numbers ≡ root ∷ [] → items ≡ [] → items_left records numbers items ≡ items_at records root
all_left records root numbers items e f =
    (λ i. flat_map (items_at records) (e i) ++ reverse (f i))
    ∙ append-nil (items_at records root ++ []) ∙ append-nil (items_at records root)

pub none_left : (records : List Record) (root : ℕ) (numbers : List ℕ) (items after : List Item) → numbers ≡ [] → after ≡ reverse items → items_left records numbers items ≡ items_at records root → after ≡ items_at records root
none_left records root numbers items after e f left =
    f ∙ (λ i. flat_map (items_at records) (sym e i) ++ reverse items) ∙ left

-- the tree that items spell
pub spelled_tree : (items : List Item) (t u : Tree) → IsWellFormed t → items ≡ postorder t → Some u ≡ tree_of items → u ≡ t
spelled_tree items t u formed e spelled =
    same_Some u t (spelled ∙ ap tree_of e ∙ tree_of-postorder t formed)
