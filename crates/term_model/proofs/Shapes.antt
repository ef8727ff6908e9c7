-- The shape of a stack follows its items.
use Rattle.std.proofs.Common.{◌≡◌, ◌≤◌, ◌<◌, ℕ, zero, suc, ◌+◌, ◌-◌, List, [], ◌∷◌, ◌++◌, length, take, drop, get_or, Option, Some, None, IsSome, true, false, refl, sym, ◌∙◌, ap, arith}
use Rattle.std.specs.Prelude.{option_and_then, is_some}
use Rattle.std.proofs.lemmas.List.{take_more, take-append-drop}
use Rattle.term_model.specs.Tree.{Tree, Node, Trees, End, More, may_be_list}
use Rattle.term_model.specs.Postorder.{tree_of, push_items, push_item, push_over, take_trees, only_one}
use Rattle.term_model.specs.Shape.{Summarizes, IsPushed}
use Rattle.term_model.specs.declared.flattened.Shape.{Shape}
use Rattle.term_model.specs.declared.Head.TheVariants as head
use Rattle.term_model.specs.declared.Item.{Item}
use Rattle.term_model.specs.declared.Item.TheVariants.{App, Cons}

record Taken (n : ℕ) (stack : List Tree) (taken : Trees) : Type 0 where
  args : Trees
  rest : List Tree
  is : take_trees n stack taken ≡ Some (args, rest)
  length : length rest + n ≡ length stack

enough : (n : ℕ) (stack : List Tree) (taken : Trees) → n ≤ length stack → Taken n stack taken
enough zero stack taken h = record { args = taken; rest = stack; is = refl; length = omega arith }
enough (suc n) [] taken h = absurd (omega arith)
enough (suc n) (t ∷ stack) taken h =
    let r = enough n stack (More t taken) (omega arith) in
    record { args = r.args; rest = r.rest; is = r.is; length = omega (arith, r.length) }

too_few : (n : ℕ) (stack : List Tree) (taken : Trees) → length stack < n → take_trees n stack taken ≡ None
too_few zero stack taken h = absurd (omega arith)
too_few (suc n) [] taken h = refl
too_few (suc n) (t ∷ stack) taken h = too_few n stack (More t taken) (omega arith)

-- a symbol finds its arguments exactly where there are as many
pub symbol_pushed : (f n : ℕ) (shape : Shape) (stack : List Tree) → n ≤ shape.trees → Summarizes shape stack → IsPushed (record { trees = shape.trees - n + 1; ends_in_list = false }) (push_item (App (record { 0 = f }) n) stack)
symbol_pushed f n shape stack h s =
    let t = enough n stack End (omega (arith, s.count)) in
    (Node (head.App (record { 0 = f })) t.args ∷ t.rest, ap (push_over (head.App (record { 0 = f }))) t.is, record { count = omega (arith, t.length, s.count); last = refl })

pub symbol_refused : (f n : ℕ) (shape : Shape) (stack : List Tree) → shape.trees < n → Summarizes shape stack → push_item (App (record { 0 = f }) n) stack ≡ None
symbol_refused f n shape stack h s = ap (push_over (head.App (record { 0 = f }))) (too_few n stack End (omega (arith, s.count)))

-- so does a cell
pub cell_pushed : (shape : Shape) (stack : List Tree) → 2 ≤ shape.trees → shape.ends_in_list ≡ true → Summarizes shape stack → IsPushed (record { trees = shape.trees - 1; ends_in_list = true }) (push_item Cons stack)
cell_pushed shape [] h e s = absurd (omega (arith, s.count))
cell_pushed shape (u ∷ []) h e s = absurd (omega (arith, s.count))
cell_pushed shape (u ∷ t ∷ stack) h e s =
    let l : may_be_list u ≡ true = s.last ∙ e in
    (Node head.Cons (More t (More u End)) ∷ stack, rw l refl, record { count = omega (arith, s.count); last = refl })

pub cell_refused : (shape : Shape) (stack : List Tree) → shape.trees < 2 → Summarizes shape stack → push_item Cons stack ≡ None
cell_refused shape [] h s = refl
cell_refused shape (u ∷ []) h s = refl
cell_refused shape (u ∷ t ∷ stack) h s = absurd (omega (arith, s.count))

pub no_list_refused : (shape : Shape) (stack : List Tree) → shape.ends_in_list ≡ false → Summarizes shape stack → push_item Cons stack ≡ None
no_list_refused shape [] h s = refl
no_list_refused shape (u ∷ []) h s = refl
no_list_refused shape (u ∷ t ∷ stack) h s =
    let l : may_be_list u ≡ false = s.last ∙ h in
    rw l refl

stack_more : (xs ys : List Item) (s : List Tree) → push_items (xs ++ ys) s ≡ option_and_then (λ t. push_items ys t) (push_items xs s)
stack_more [] ys s = refl
stack_more (x ∷ xs) ys s = go (push_item x s) (λ u. stack_more xs ys u)
  where
    go : (o : Option (List Tree)) → ((u : List Tree) → push_items (xs ++ ys) u ≡ option_and_then (λ t. push_items ys t) (push_items xs u)) → option_and_then (λ u. push_items (xs ++ ys) u) o ≡ option_and_then (λ t. push_items ys t) (option_and_then (λ u. push_items xs u) o)
    go None ih = refl
    go (Some u) ih = ih u

only_some : (o : Option (List Tree)) → option_and_then (λ s. Some s) o ≡ o
only_some None = refl
only_some (Some s) = refl

-- one more item
pub one_item : (items : List Item) (i : ℕ) (item d : Item) (stack : List Tree) → i < length items → item ≡ get_or items i d → push_items (take i items) [] ≡ Some stack → push_items (take (i + 1) items) [] ≡ push_item item stack
one_item items i item d stack h e s =
    ap (λ is. push_items is []) (take_more items i d h ∙ ap (λ j. take i items ++ j ∷ []) (sym e))
    ∙ stack_more (take i items) (item ∷ []) []
    ∙ ap (λ o. option_and_then (λ t. push_items (item ∷ []) t) o) s
    ∙ only_some (push_item item stack)

-- items that have no stack spell no tree, whatever comes after them
pub no_stack : (items : List Item) (i : ℕ) → push_items (take i items) [] ≡ None → tree_of items ≡ None
no_stack items i e =
    ap (λ is. tree_of is) (sym (take-append-drop i items))
    ∙ ap only_one (stack_more (take i items) (drop i items) [] ∙ ap (λ o. option_and_then (λ t. push_items (drop i items) t) o) e)

pub one_tree : (o : Option (List Tree)) (stack : List Tree) → o ≡ Some stack → (length stack ≡ 1 → IsSome (only_one o)) × (IsSome (only_one o) → length stack ≡ 1)
one_tree o [] e = (λ h. absurd (omega arith), λ s. let f : is_some (only_one o) ≡ false = ap (λ p. is_some (only_one p)) e in cc)
one_tree o (t ∷ []) e = (λ h. ap (λ p. is_some (only_one p)) e, λ s. refl)
one_tree o (t ∷ u ∷ us) e = (λ h. absurd (omega arith), λ s. let f : is_some (only_one o) ≡ false = ap (λ p. is_some (only_one p)) e in cc)
