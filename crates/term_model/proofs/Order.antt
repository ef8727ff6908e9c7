-- Postorder and the tree of items are inverse.
use Rattle.std.proofs.Common.{◌≡◌, ℕ, zero, suc, ◌+◌, List, [], ◌∷◌, ◌++◌, Option, Some, None, IsSome, Bool, true, false, refl, sym, ◌∙◌, ap, arith, append_assoc, append-nil}
use Rattle.std.specs.Prelude.{option_and_then, if◌then◌else◌, ◌&&◌}
use Rattle.std.proofs.lemmas.Option.{same_Some, option_and_then_some}
use Rattle.term_model.specs.Tree.{Tree, Leaf, Node, Trees, End, More, count_of, may_be_list, may_stand_over, is_well_formed, all_well_formed, IsWellFormed}
use Rattle.term_model.specs.Postorder.{item_of, postorder, postorder_all, take_trees, push_over, push_cell, push_item, push_items, only_one, tree_of, tree_or_leaf}
use Rattle.term_model.specs.Code.{onto, takes_arguments}
use Rattle.term_model.specs.declared.Head.{Head}
use Rattle.term_model.specs.declared.Head.TheVariants as head
use Rattle.term_model.specs.declared.Item.{Item}
use Rattle.term_model.specs.declared.Item.TheVariants.{Var, App, Int, Nil, Cons}

-- both sides of a test that holds
pub both_hold : (a b : Bool) → (a && b) ≡ true → (a ≡ true) × (b ≡ true)
both_hold true b h = (refl, h)
both_hold false b h = (h, cc)

pub both : (a b : Bool) → a ≡ true → b ≡ true → (a && b) ≡ true
both true b e h = h
both false b e h = e

-- the item of a head that may stand over trees makes a node of them
pushes_node : (h : Head) (ts : Trees) (stack : List Tree) → may_stand_over h ts ≡ true → push_item (item_of h (count_of ts)) (onto ts stack) ≡ Some (Node h ts ∷ stack)
pushes_node (head.App f) ts stack h = ap (push_over (head.App f)) (takes_arguments ts stack)
pushes_node (head.Int v) End stack h = refl
pushes_node (head.Int v) (More t ts) stack h = cc
pushes_node head.Nil End stack h = refl
pushes_node head.Nil (More t ts) stack h = cc
pushes_node head.Cons End stack h = cc
pushes_node head.Cons (More t End) stack h = cc
pushes_node head.Cons (More t (More u End)) stack h = ap (λ (b : Bool). if b then Some (Node head.Cons (More t (More u End)) ∷ stack) else None) h
pushes_node head.Cons (More t (More u (More v vs))) stack h = cc

mutual
  pub tree_pushed : (t : Tree) (is : List Item) (stack : List Tree) → IsWellFormed t → push_items (postorder t ++ is) stack ≡ push_items is (t ∷ stack)
  tree_pushed (Leaf x) is stack w = refl
  tree_pushed (Node h ts) is stack w =
      let i : Item = item_of h (count_of ts) in
      let p = both_hold (may_stand_over h ts) (all_well_formed ts) w in
      ap (λ js. push_items js stack) (append_assoc (postorder_all ts) (i ∷ []) is)
      ∙ trees_pushed ts (i ∷ is) stack p.1
      ∙ ap (λ o. option_and_then (λ s. push_items is s) o) (pushes_node h ts stack p.0)

  pub trees_pushed : (ts : Trees) (is : List Item) (stack : List Tree) → all_well_formed ts ≡ true → push_items (postorder_all ts ++ is) stack ≡ push_items is (onto ts stack)
  trees_pushed End is stack w = refl
  trees_pushed (More t ts) is stack w =
      let p = both_hold (is_well_formed t) (all_well_formed ts) w in
      ap (λ js. push_items js stack) (append_assoc (postorder t) (postorder_all ts) is)
      ∙ tree_pushed t (postorder_all ts ++ is) stack p.0
      ∙ trees_pushed ts is (t ∷ stack) p.1

pub tree_of-postorder : (t : Tree) → IsWellFormed t → tree_of (postorder t) ≡ Some t
tree_of-postorder t w =
    ap (λ is. tree_of is) (sym (append-nil (postorder t)))
    ∙ ap only_one (tree_pushed t [] [] w)

-- the items of a stack, the lowest tree first
abbrev pub items_of : List Tree → List Item
items_of [] = []
items_of (t ∷ stack) = items_of stack ++ postorder t

abbrev pub stack_well_formed : List Tree → Bool
stack_well_formed [] = true
stack_well_formed (t ∷ stack) = is_well_formed t && stack_well_formed stack

-- what was taken from the stack, and what is left of it
record Took (n : ℕ) (stack : List Tree) (taken args : Trees) (rest : List Tree) : Type 0 where
  count : count_of args ≡ count_of taken + n
  items : items_of stack ++ postorder_all taken ≡ items_of rest ++ postorder_all args
  formed : all_well_formed args ≡ true
  rest_formed : stack_well_formed rest ≡ true

took : (n : ℕ) (stack : List Tree) (taken args : Trees) (rest : List Tree) → stack_well_formed stack ≡ true → all_well_formed taken ≡ true → take_trees n stack taken ≡ Some (args, rest) → Took n stack taken args rest
took zero stack taken args rest w w' h =
    let e = same_Some (taken, stack) (args, rest) h in
    record {
      count = ap (λ (p : Trees × List Tree). count_of p.0) (sym e) ∙ omega arith;
      items = ap (λ (p : Trees × List Tree). items_of p.1 ++ postorder_all p.0) e;
      formed = ap (λ (p : Trees × List Tree). all_well_formed p.0) (sym e) ∙ w';
      rest_formed = ap (λ (p : Trees × List Tree). stack_well_formed p.1) (sym e) ∙ w;
    }
took (suc n) [] taken args rest w w' h = cc
took (suc n) (t ∷ stack) taken args rest w w' h =
    let p = both_hold (is_well_formed t) (stack_well_formed stack) w in
    let r = took n stack (More t taken) args rest p.1 (both (is_well_formed t) (all_well_formed taken) p.0 w') h in
    record {
      count = omega (arith, r.count);
      items = append_assoc (items_of stack) (postorder t) (postorder_all taken) ∙ r.items;
      formed = r.formed;
      rest_formed = r.rest_formed;
    }

-- an item adds itself to the items of the stack
record Adds (i : Item) (stack new : List Tree) : Type 0 where
  items : items_of stack ++ i ∷ [] ≡ items_of new
  formed : stack_well_formed new ≡ true

adds_to : (i : Item) (stack pushed new : List Tree) → items_of stack ++ i ∷ [] ≡ items_of pushed → stack_well_formed pushed ≡ true → Some pushed ≡ Some new → Adds i stack new
adds_to i stack pushed new e w h =
    let s = same_Some pushed new h in
    record { items = e ∙ ap items_of s; formed = ap stack_well_formed (sym s) ∙ w }

over : (f n : ℕ) (o : Option (Trees × List Tree)) (stack new : List Tree) → stack_well_formed stack ≡ true → take_trees n stack End ≡ o → push_over (head.App (record { 0 = f })) o ≡ Some new → Adds (App (record { 0 = f }) n) stack new
over f n None stack new w e h = cc
over f n (Some (args, rest)) stack new w e h =
    let r = took n stack End args rest w refl e in
    let i : ℕ → List Item = λ m. App (record { 0 = f }) m ∷ [] in
    let c : n ≡ count_of args = omega (arith, r.count) in
    adds_to (App (record { 0 = f }) n) stack (Node (head.App (record { 0 = f })) args ∷ rest) new
    (ap (λ is. is ++ i n) (sym (append-nil (items_of stack)) ∙ r.items)
    ∙ append_assoc (items_of rest) (postorder_all args) (i n)
    ∙ ap (λ m. items_of rest ++ (postorder_all args ++ i m)) c)
    (both (all_well_formed args) (stack_well_formed rest) r.formed r.rest_formed) h

cell : (u t : Tree) (stack new : List Tree) → stack_well_formed (u ∷ t ∷ stack) ≡ true → push_cell (u ∷ t ∷ stack) ≡ Some new → Adds Cons (u ∷ t ∷ stack) new
cell u t stack new w h = go (may_be_list u) refl h
  where
    go : (b : Bool) → may_be_list u ≡ b → (if b then Some (Node head.Cons (More t (More u End)) ∷ stack) else None) ≡ Some new → Adds Cons (u ∷ t ∷ stack) new
    go false e h' = cc
    go true e h' =
        let p = both_hold (is_well_formed u) (is_well_formed t && stack_well_formed stack) w in
        let q = both_hold (is_well_formed t) (stack_well_formed stack) p.1 in
        adds_to Cons (u ∷ t ∷ stack) (Node head.Cons (More t (More u End)) ∷ stack) new
        (append_assoc (items_of stack ++ postorder t) (postorder u) (Cons ∷ [])
        ∙ append_assoc (items_of stack) (postorder t) (postorder u ++ Cons ∷ [])
        ∙ ap (λ is. items_of stack ++ is) (sym (append_assoc (postorder t) (postorder u) (Cons ∷ []))
        ∙ ap (λ is. (postorder t ++ is) ++ Cons ∷ []) (sym (append-nil (postorder u)))))
        (both (is_well_formed (Node head.Cons (More t (More u End)))) (stack_well_formed stack)
        (both (may_be_list u) (is_well_formed t && (is_well_formed u && true)) e
        (both (is_well_formed t) (is_well_formed u && true) q.0 (both (is_well_formed u) true p.0 refl))) q.1) h'

adds : (i : Item) (stack new : List Tree) → stack_well_formed stack ≡ true → push_item i stack ≡ Some new → Adds i stack new
adds (Var x) stack new w h = adds_to (Var x) stack (Leaf x ∷ stack) new refl w h
adds (App f n) stack new w h = over f.0 n (take_trees n stack End) stack new w refl h
adds (Int v) stack new w h = adds_to (Int v) stack (Node (head.Int v) End ∷ stack) new refl w h
adds Nil stack new w h = adds_to Nil stack (Node head.Nil End ∷ stack) new refl w h
adds Cons [] new w h = cc
adds Cons (u ∷ []) new w h = cc
adds Cons (u ∷ t ∷ stack) new w h = cell u t stack new w h

record AddsAll (is : List Item) (stack new : List Tree) : Type 0 where
  items : items_of stack ++ is ≡ items_of new
  formed : stack_well_formed new ≡ true

adds_all : (is : List Item) (stack new : List Tree) → stack_well_formed stack ≡ true → push_items is stack ≡ Some new → AddsAll is stack new
adds_all [] stack new w h =
    let s = same_Some stack new h in
    record { items = append-nil (items_of stack) ∙ ap items_of s; formed = ap stack_well_formed (sym s) ∙ w }
adds_all (i ∷ is) stack new w h =
    option_and_then_some (λ s. push_items is s) (push_item i stack) new h (λ mid p q.
    let a = adds i stack mid w p in
    let r = adds_all is mid new a.formed q in
    let s : AddsAll (i ∷ is) stack new = record { items = sym (append_assoc (items_of stack) (i ∷ []) is) ∙ ap (λ js. js ++ is) a.items ∙ r.items; formed = r.formed } in
    s)

one : (o : Option (List Tree)) (t : Tree) → only_one o ≡ Some t → o ≡ Some (t ∷ [])
one None t h = cc
one (Some []) t h = cc
one (Some (u ∷ [])) t h = ap (λ v. Some (v ∷ [])) (same_Some u t h)
one (Some (u ∷ v ∷ us)) t h = cc

spelled : (is : List Item) (t : Tree) → tree_of is ≡ Some t → AddsAll is [] (t ∷ [])
spelled is t h = adds_all is [] (t ∷ []) refl (one (push_items is []) t h)

pub only_postorder : (is : List Item) (t : Tree) → tree_of is ≡ Some t → is ≡ postorder t
only_postorder is t h = (spelled is t h).items

pub only_well_formed : (is : List Item) (t : Tree) → tree_of is ≡ Some t → IsWellFormed t
only_well_formed is t h = (both_hold (is_well_formed t) true (spelled is t h).formed).0

-- the same where the tree is known to be there
module _ (is : List Item) (t : Tree) (some : IsSome (tree_of is)) (e : tree_or_leaf (tree_of is) ≡ t) where
  spells : (o : Option Tree) → tree_of is ≡ o → IsSome o → tree_or_leaf o ≡ t → tree_of is ≡ Some t
  spells None h s e' = cc
  spells (Some u) h s e' = h ∙ ap Some e'

  pub items_spelled : is ≡ postorder t
  items_spelled = only_postorder is t (spells (tree_of is) refl some e)

  pub well_formed_spelled : IsWellFormed t
  well_formed_spelled = only_well_formed is t (spells (tree_of is) refl some e)
