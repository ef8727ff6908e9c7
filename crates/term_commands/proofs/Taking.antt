-- An item takes the last trees from a stack.
use Rattle.std.proofs.Common.{◌≡◌, ℕ, ◌≤◌, List, [], ◌∷◌, ◌++◌, length, Some, true, refl, sym, ap, ap₂, ◌∙◌, arith, length-append}
use Rattle.std.proofs.lemmas.List.{length-map}
use Rattle.std.proofs.lemmas.Option.{same_Some}
use Rattle.term_model.specs.declared.Head.{Head}
use Rattle.term_model.specs.declared.Head.TheVariants.{App, Int, Nil, Cons}
use Rattle.term_model.specs.declared.Item.{Item}
use Rattle.term_model.specs.Tree.{Tree, Node, trees_of, may_stand_over}
use Rattle.term_model.specs.Postorder.{item_of, head_of, arity_of}
use Rattle.terms_api.specs.Terms.{Store, MayBuild, trees, tree_at, last, but_last, asked}
use Rattle.terms_api.proofs.Callers.{last-append, but_last-append}
use Rattle.term_commands.specs.Building.{Takes, after}

head_is : (h : Head) (n : ℕ) → head_of (item_of h n) ≡ Some h
head_is (App f) n = refl
head_is (Int v) n = refl
head_is Nil n = refl
head_is Cons n = refl

arity_is : (h : Head) (ts : List Tree) → may_stand_over h (trees_of ts) ≡ true → arity_of (item_of h (length ts)) ≡ length ts
arity_is (App f) ts m = refl
arity_is (Int v) [] m = refl
arity_is (Int v) (t ∷ ts) m = cc
arity_is Nil [] m = refl
arity_is Nil (t ∷ ts) m = cc
arity_is Cons [] m = cc
arity_is Cons (t ∷ []) m = cc
arity_is Cons (t ∷ u ∷ []) m = refl
arity_is Cons (t ∷ u ∷ v ∷ vs) m = cc

module _ (s : Store) (item : Item) (k : Takes item (trees s)) (h : Head) (n : ℕ) (head : Some h ≡ head_of item) (arity : n ≡ arity_of item) where
  same_head : h ≡ k.head
  same_head = same_Some h k.head (head ∙ ap head_of k.item_is ∙ head_is k.head (length k.arguments))

  count_is : length k.arguments ≡ n
  count_is = sym (arity ∙ ap arity_of k.item_is ∙ arity_is k.head k.arguments k.may)

  last_is : last n (trees s) ≡ k.arguments
  last_is = ap (last n) k.trees_are ∙ last-append n k.before k.arguments count_is

  but_last_is : but_last n (trees s) ≡ k.before
  but_last_is = ap (but_last n) k.trees_are ∙ but_last-append n k.before k.arguments count_is

  asked_is : asked s h n ≡ Node k.head (trees_of k.arguments)
  asked_is = ap₂ (λ g ts. Node g (trees_of ts)) same_head last_is

  pub may_build : n ≤ s.widest → MayBuild s h n
  may_build width = record {
    depth =
        (let size = length-map s.stack (tree_at s) in
        let all = ap length k.trees_are ∙ length-append k.before k.arguments in
        let count = count_is in
        omega (arith, size, all, count));
    width = width;
    head = ap₂ (λ g ts. may_stand_over g (trees_of ts)) same_head last_is ∙ k.may;
  }

  -- what is built is what the item makes
  pub built_is : but_last n (trees s) ++ asked s h n ∷ [] ≡ after k
  built_is = ap₂ (λ ts t. ts ++ t ∷ []) but_last_is asked_is

  pub asked_after : asked s h n ≡ Node k.head (trees_of k.arguments)
  asked_after = asked_is
