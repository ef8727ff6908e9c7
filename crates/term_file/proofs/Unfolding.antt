-- A tree that is shared is unfolded into its items, from the last to the first.
use Rattle.std.proofs.Common.{◌≡◌, ℕ, ◌+◌, ◌<◌, ◌≤◌, true, List, [], ◌∷◌, ◌++◌, length, slice_get, Option, Some, None, refl, sym, ap, ◌∙◌, append_assoc, append-nil, arith}
use Rattle.std.specs.Prelude.{map, reverse}
use Rattle.std.specs.Option.{option_map_or}
use Rattle.std.specs.List.{AllByRecursion}
use Rattle.std.proofs.lemmas.List.{reverse-append}
use Rattle.symbol_pool.specs.Pool.{Named}
use Rattle.term_model.specs.declared.Head.{Head}
use Rattle.term_model.specs.declared.Head.TheVariants.{App, Int, Nil, Cons}
use Rattle.term_model.specs.declared.Item.{Item}
use Rattle.term_model.specs.Tree.{Trees, trees_of, count_of, nodes, nodes_all}
use Rattle.term_model.specs.Postorder.{item_of, postorder, postorder_all}
use Rattle.term_file.specs.Contents.{Record, trees, tree_at}
use Rattle.term_file.specs.Right.{all_after, is_right_symbol, is_right_record, arity_in}
use Rattle.term_file.proofs.Facts.{facts_at}
use Rattle.term_file.proofs.Equations.{tree_of_record}
use Rattle.term_file.proofs.Pieces.{holds_at, shorts}
use Rattle.term_file.specs.Written.{IsShort}

-- the trees of numbers
abbrev pub of_numbers : List Record → List ℕ → Trees
of_numbers records ks = trees_of (map (tree_at (trees records)) ks)

count_of_numbers : (records : List Record) (ks : List ℕ) → count_of (of_numbers records ks) ≡ length ks
count_of_numbers records [] = refl
count_of_numbers records (k ∷ ks) = let e = count_of_numbers records ks in omega (arith, e)

items-append : (records : List Record) (ks ls : List ℕ) → postorder_all (of_numbers records (ks ++ ls)) ≡ postorder_all (of_numbers records ks) ++ postorder_all (of_numbers records ls)
items-append records [] ls = refl
items-append records (k ∷ ks) ls =
    ap (λ is. postorder (tree_at (trees records) k) ++ is) (items-append records ks ls)
    ∙ sym (append_assoc (postorder (tree_at (trees records) k)) (postorder_all (of_numbers records ks)) (postorder_all (of_numbers records ls)))

nodes-append : (records : List Record) (ks ls : List ℕ) → nodes_all (of_numbers records (ks ++ ls)) ≡ nodes_all (of_numbers records ks) + nodes_all (of_numbers records ls)
nodes-append records [] ls = omega arith
nodes-append records (k ∷ ks) ls = let e = nodes-append records ks ls in omega (arith, e)

-- no symbol has more arguments than a number of four bytes can count
few_in : (symbols : List Named) → AllByRecursion IsShort symbols → (h : Head) → arity_in symbols h ≤ 16
few_in symbols short (App f) = by (slice_get symbols f.0) refl
  where
    by : (o : Option Named) → slice_get symbols f.0 ≡ o → option_map_or (λ (s : Named). s.arity) o 0 ≤ 16
    by None e = omega arith
    by (Some s) e = (holds_at IsShort symbols f.0 s short e).arity
few_in symbols short (Int v) = omega arith
few_in symbols short Nil = omega arith
few_in symbols short Cons = omega arith

module _ (symbols : List Named) (records : List Record) (symbols_right : all_after is_right_symbol [] symbols ≡ true) (right : all_after (is_right_record symbols) [] records ≡ true) where
  pub few_arguments : (k : ℕ) (r : Record) → slice_get records k ≡ Some r → length r.arguments ≤ 16
  few_arguments k r at = let f = facts_at symbols records right k r at in omega (arith, f.arity, few_in symbols (shorts [] symbols symbols_right) r.head)

  -- the items of a record are those of its arguments, and then its own
  items_of_record : (k : ℕ) (r : Record) → slice_get records k ≡ Some r → postorder (tree_at (trees records) k) ≡ postorder_all (of_numbers records r.arguments) ++ item_of r.head (length r.arguments) ∷ []
  items_of_record k r at =
      ap postorder (tree_of_record records k r at (facts_at symbols records right k r at).before)
      ∙ ap (λ n. postorder_all (of_numbers records r.arguments) ++ item_of r.head n ∷ []) (count_of_numbers records r.arguments)

  module _ (old rest new : List ℕ) (k : ℕ) (r : Record) (popped : old ≡ rest ++ k ∷ []) (at : slice_get records k ≡ Some r) (grown : new ≡ rest ++ r.arguments) where
    pub unfolds : (before after : List Item) → after ≡ before ++ item_of r.head (length r.arguments) ∷ [] → (whole : List Item) → postorder_all (of_numbers records old) ++ reverse before ≡ whole → postorder_all (of_numbers records new) ++ reverse after ≡ whole
    unfolds before after e whole so_far =
        let last = item_of r.head (length r.arguments) in
        let a : List Item = postorder_all (of_numbers records rest) in
        let b : List Item = postorder_all (of_numbers records r.arguments) in
        let turned : reverse after ≡ last ∷ reverse before = ap reverse e ∙ reverse-append before (last ∷ []) in
        let before_this : postorder_all (of_numbers records old) ≡ a ++ (b ++ last ∷ []) =
        ap (λ ks. postorder_all (of_numbers records ks)) popped ∙ items-append records rest (k ∷ [])
        ∙ ap (λ is. a ++ is) (append-nil (postorder (tree_at (trees records) k)) ∙ items_of_record k r at) in
        let after_this : postorder_all (of_numbers records new) ≡ a ++ b = ap (λ ks. postorder_all (of_numbers records ks)) grown ∙ items-append records rest r.arguments in
        (λ i. after_this i ++ turned i)
        ∙ append_assoc a b (last ∷ reverse before)
        ∙ ap (λ is. a ++ is) (sym (append_assoc b (last ∷ []) (reverse before)))
        ∙ sym (append_assoc a (b ++ last ∷ []) (reverse before))
        ∙ ap (λ is. is ++ reverse before) (sym before_this)
        ∙ so_far

    pub less_left : nodes_all (of_numbers records new) < nodes_all (of_numbers records old)
    less_left =
        let e = ap (λ ks. nodes_all (of_numbers records ks)) popped ∙ nodes-append records rest (k ∷ []) in
        let f = ap (λ ks. nodes_all (of_numbers records ks)) grown ∙ nodes-append records rest r.arguments in
        let g = ap nodes (tree_of_record records k r at (facts_at symbols records right k r at).before) in
        omega (arith, e, f, g)
