-- A stack of boxed terms follows the items of a tree.
use Rattle.std.proofs.Common.{◌≡◌, ◌<◌, ◌+◌, ◌≤◌, ℕ, zero, suc, List, [], ◌∷◌, length, take, get_or, Option, Some, None, Bool, true, false, refl, sym, ◌∙◌, ap, arith}
use Rattle.std.specs.Prelude.{if◌then◌else◌}
use Rattle.std.proofs.lemmas.Option.{same_Some}
use Rattle.std.proofs.lemmas.List.{take_all}
use Rattle.term_model.specs.Tree.{Tree, Leaf, Node, Trees, End, More, list_of, may_be_list, IsWellFormed}
use Rattle.term_model.specs.Postorder.{postorder, take_trees, push_over, push_item, push_items, only_one, tree_of}
use Rattle.term_model.specs.declared.Head.{Head}
use Rattle.term_model.specs.declared.Head.TheVariants as head
use Rattle.term_model.specs.declared.Item.{Item}
use Rattle.term_model.specs.declared.Item.TheVariants.{Var, Cons}
use Rattle.term_model.proofs.Order.{tree_of-postorder}
use Rattle.term_model.proofs.Shapes.{one_item, no_stack}
use Rattle.plain_rewriting.specs.Boxed.{IsTaken, IsOver, IsPushed}

pub none_taken : (stack taken : Trees) → IsTaken 0 stack taken taken stack
none_taken stack taken want left h =
    let e = same_Some (taken, list_of stack) (want, left) h in
    (ap (λ (p : Trees × List Tree). p.0) e, ap (λ (p : Trees × List Tree). p.1) e)

pub empty_taken : (n : ℕ) (taken : Trees) → 0 < n → IsTaken n End taken taken End
empty_taken zero taken l = absurd (omega arith)
empty_taken (suc n) taken l = λ want left h. cc

pub more_taken : (n m : ℕ) (t : Tree) (stack below taken onto args rest : Trees) → n ≡ suc m → stack ≡ More t below → onto ≡ More t taken → IsTaken m below onto args rest → IsTaken n stack taken args rest
more_taken n m t stack below taken onto args rest e s o h = λ want left q.
    h want left (ap (take_trees m (list_of below)) o ∙ sym (ap (λ k. take_trees k (list_of stack) taken) e ∙ ap (λ us. take_trees (suc m) (list_of us) taken) s) ∙ q)

pub taken_over : (h : Head) (n : ℕ) (stack args rest after : Trees) → IsTaken n stack End args rest → after ≡ More (Node h args) rest → IsOver h n stack after
taken_over h n stack args rest after t e want p = go (take_trees n (list_of stack) End) refl p
  where
    go : (o : Option (Trees × List Tree)) → take_trees n (list_of stack) End ≡ o → push_over h o ≡ Some want → list_of after ≡ want
    go None m q = cc
    go (Some r) m q =
        let s = t r.0 r.1 m in
        ap list_of e ∙ ap (λ ts. Node h ts ∷ list_of rest) s.0 ∙ ap (λ ts. Node h r.0 ∷ ts) s.1 ∙ same_Some (Node h r.0 ∷ r.1) want q

pub variable_pushed : (x : ℕ) (stack after : Trees) → after ≡ More (Leaf x) stack → IsPushed (Var x) stack after
variable_pushed x stack after e want p = ap list_of e ∙ same_Some (Leaf x ∷ list_of stack) want p

pub cell_pushed : (stack after : Trees) → IsOver head.Cons 2 stack after → IsPushed Cons stack after
cell_pushed End after o want p = cc
cell_pushed (More u End) after o want p = cc
cell_pushed (More u (More t stack)) after o want p = go (may_be_list u) p
  where
    go : (b : Bool) → (if b then Some (Node head.Cons (More t (More u End)) ∷ list_of stack) else None) ≡ Some want → list_of after ≡ want
    go true q = o want q
    go false q = cc

-- one more item of a tree
pub one_more : (items : List Item) (i : ℕ) (t : Tree) (stack after : Trees) → i < length items → IsWellFormed t → items ≡ postorder t → push_items (take i items) [] ≡ Some (list_of stack) → IsPushed (get_or items i (Var 0)) stack after → push_items (take (i + 1) items) [] ≡ Some (list_of after)
one_more items i t stack after l w e s p = go (push_item item (list_of stack)) refl
  where
    item : Item
    item = get_or items i (Var 0)

    go : (o : Option (List Tree)) → push_item (get_or items i (Var 0)) (list_of stack) ≡ o → push_items (take (i + 1) items) [] ≡ Some (list_of after)
    go None q =
        let none : tree_of items ≡ None = no_stack items (i + 1) (one_item items i (get_or items i (Var 0)) (Var 0) (list_of stack) l refl s ∙ q) in
        let some : tree_of items ≡ Some t = ap tree_of e ∙ tree_of-postorder t w in
        cc
    go (Some new) q = one_item items i (get_or items i (Var 0)) (Var 0) (list_of stack) l refl s ∙ q ∙ ap Some (sym (p new q))

-- the one tree on the stack of all items
pub all_items : (items : List Item) (i : ℕ) (t : Tree) (stack : Trees) → length items ≤ i → IsWellFormed t → items ≡ postorder t → push_items (take i items) [] ≡ Some (list_of stack) → list_of stack ≡ t ∷ []
all_items items i t stack l w e s =
    let same : push_items items [] ≡ Some (list_of stack) = ap (λ is. push_items is []) (sym (take_all i items l)) ∙ s in
    let is : only_one (Some (list_of stack)) ≡ Some t = ap only_one (sym same) ∙ ap tree_of e ∙ tree_of-postorder t w in
    go (list_of stack) is
  where
    go : (ts : List Tree) → only_one (Some ts) ≡ Some t → ts ≡ t ∷ []
    go [] q = cc
    go (u ∷ []) q = ap (λ v. v ∷ []) (same_Some u t q)
    go (u ∷ v ∷ us) q = cc
