-- Whole terms spell trees.
use Rattle.rec_check.proofs.Common.{[], ◌≡◌, ℕ, zero, suc, ◌+◌, ◌-◌, ◌≤◌, Bool, true, false, List, ◌∷◌, length, Option, Some, None, refl, sym, ap, ◌∙◌, arith, option_and_then, nat_lt, if◌then◌else◌, option_map, nat_tests, nil_from_length, Tree, Leaf, Trees, End, More, tree_of, push_item, push_items, push_over, take_trees, Item, Var, App, terms_after, IsWhole, all_of}
use Rattle.term_model.specs.Tree.{Node}
use Rattle.term_model.specs.declared.Head.TheVariants as head
use Rattle.rec_reader.specs.declared.syntax_tree.Node as written

-- what may be taken from a stack
record Took (n : ℕ) (stack : List Tree) (taken : Trees) : Type 0 where
  args : Trees
  left : List Tree
  is : take_trees n stack taken ≡ Some (args, left)
  count : length left + n ≡ length stack

takes : (n : ℕ) (stack : List Tree) (taken : Trees) → n ≤ length stack → Took n stack taken
takes zero stack taken l = record { args = taken; left = stack; is = refl; count = omega arith }
takes (suc n) [] taken l = absurd (omega arith)
takes (suc n) (t ∷ stack) taken l = grind (arith, nat_tests, takes n stack (More t taken))

-- a variable or a symbol, over so many trees
pub record IsOver (i : Item) (count : ℕ) : Type 0 where
  pub push : (stack : List Tree) → count ≤ length stack → (after : List Tree) × (push_item i stack ≡ Some after) × (length after + count ≡ length stack + 1)

pub variable_over : (x : ℕ) → IsOver (Var x) 0
variable_over x = record { push = λ stack l. (Leaf x ∷ stack, refl, omega arith) }

pub symbol_over : (f n : ℕ) → IsOver (App (record { 0 = f }) n) n
symbol_over f n = record {
  push = λ stack l.
      let r = takes n stack End l in
      let c = r.count in
      (Node (head.App (record { 0 = f })) r.args ∷ r.left, ap (push_over (head.App (record { 0 = f }))) r.is, omega arith);
}

module _ (f : written.Node → Option Item) (over : (n : written.Node) (i : Item) → f n ≡ Some i → IsOver i n.count) where
  pub record Pushed (items : List Item) (stack : List Tree) (m : ℕ) : Type 0 where
    pub after : List Tree
    pub is : push_items items stack ≡ Some after
    pub count : length after ≡ m

  pushes : (nodes : List written.Node) (items : List Item) (stack : List Tree) (n m : ℕ) → all_of f nodes ≡ Some items → n ≡ length stack → terms_after n nodes ≡ Some m → Pushed items stack m
  pushes [] items stack n m h e w = let i : items ≡ [] = cc in let k : n ≡ m = cc in record { after = stack; is = ap (λ is. push_items is stack) i; count = sym e ∙ k }
  pushes (node ∷ nodes) items stack n m h e w = by (f node) (all_of f nodes) refl refl h (nat_lt n node.count) refl w (λ more after k r s v. pushes nodes more after k m r s v)
    where
      by : (o : Option Item) (rest : Option (List Item)) → f node ≡ o → all_of f nodes ≡ rest → option_and_then (λ y. option_map (λ more. y ∷ more) rest) o ≡ Some items
          → (b : Bool) → nat_lt n node.count ≡ b → (if b then None else terms_after (n - node.count + 1) nodes) ≡ Some m
          → ((more : List Item) (after : List Tree) (k : ℕ) → all_of f nodes ≡ Some more → k ≡ length after → terms_after k nodes ≡ Some m → Pushed more after m) → Pushed items stack m
      by None rest p q h b t w on = absurd cc
      by (Some i) None p q h b t w on = absurd cc
      by (Some i) (Some more) p q h true t w on = absurd cc
      by (Some i) (Some more) p q h false t w on =
          let l : node.count ≤ length stack = grind (arith, nat_tests) in
          let r = (over node i p).push stack l in
          let c = r.2 in
          let rest = on more r.0 (n - node.count + 1) q (omega arith) w in
          record { after = rest.after; is = grind (arith, h, r.1, rest.is); count = rest.count }

  one_left : (items : List Item) (after : List Tree) → push_items items [] ≡ Some after → length after ≡ 1 → (t : Tree) × (tree_of items ≡ Some t)
  one_left items [] e l = absurd (omega arith)
  one_left items (t ∷ us) e l = (t, grind (arith, nil_from_length us))

  -- the items of a whole term spell a tree
  pub whole_spells : (nodes : List written.Node) (items : List Item) → all_of f nodes ≡ Some items → IsWhole nodes → (t : Tree) × (tree_of items ≡ Some t)
  whole_spells nodes items h w =
      let p = pushes nodes items [] 0 1 h refl w in
      one_left items p.after p.is p.count
