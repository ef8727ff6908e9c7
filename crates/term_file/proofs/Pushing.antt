-- An item takes the last of some trees, and puts a tree over them behind the others.
use Rattle.std.proofs.Common.{◌≡◌, ℕ, zero, suc, ◌+◌, ◌-◌, ◌≤◌, take, drop, Bool, true, false, cond, List, [], ◌∷◌, ◌++◌, length, reverse, Option, Some, None, refl, sym, ap, ◌∙◌, arith, inl, inr, ◌⊎◌, append_assoc, append-nil}
use Rattle.std.specs.Prelude.{option_and_then}
use Rattle.std.specs.List.{flat_map}
use Rattle.std.proofs.lemmas.List.{length-append, length-drop, take-append-drop, take_all, reverse-append, reverse-reverse}
use Rattle.std.proofs.lemmas.Grind.{flat_map-append}
use Rattle.std.proofs.lemmas.Option.{same_Some}
use Rattle.term_model.specs.declared.Head.{Head}
use Rattle.term_model.specs.declared.Head.TheVariants as head
use Rattle.term_model.specs.declared.Item.{Item}
use Rattle.term_model.specs.declared.Item.TheVariants.{Var, App, Int, Nil, Cons}
use Rattle.term_model.specs.Tree.{Tree, Leaf, Node, Trees, End, More, trees_of, list_of, subtrees, subtrees_all, among, may_be_list, may_stand_over, IsWellFormed}
use Rattle.term_model.specs.Postorder.{head_of, arity_of, take_trees, push_over, push_cell, push_item, push_items, postorder}
use Rattle.term_model.proofs.Equality.{among_there, contains_from_among, among_from_contains}
use Rattle.term_model.proofs.Members.{distinct_of_part}
use Rattle.term_model.proofs.Subtrees.{among_left, among_right, among_either}
use Rattle.term_model.proofs.Order.{tree_pushed}
use Rattle.term_file.specs.Sharing.{IsCutInto, Pushes, different}

-- ---- the last numbers of a stack
pub cut_last : (old whole taken front : List ℕ) (from count : ℕ) → whole ≡ old → from + count ≡ length old → taken ≡ take (length whole - from) (drop from whole) → front ≡ take from old → IsCutInto old front taken count
cut_last old whole taken front from count e n t f =
    let size = length-drop from old in
    let all : taken ≡ drop from old = t ∙ (λ i. take (length (e i) - from) (drop from (e i))) ∙ take_all (length old - from) (drop from old) (omega (arith, size)) in
    record {
      whole = sym (take-append-drop from old) ∙ (λ i. sym f i ++ sym all i);
      size = ap (λ (ns : List ℕ). length ns) all ∙ size ∙ omega (arith, n);
    }

-- ---- one item

-- the trees that were taken, in order, and the others
record Took (n : ℕ) (stack : List Tree) (taken args : Trees) (rest : List Tree) : Type 0 where
  front : List Tree
  args_are : args ≡ trees_of (front ++ list_of taken)
  size : length front ≡ n
  stack_is : stack ≡ reverse front ++ rest

trees_of-list_of : (ts : Trees) → trees_of (list_of ts) ≡ ts
trees_of-list_of End = refl
trees_of-list_of (More t ts) = ap (More t) (trees_of-list_of ts)

took : (n : ℕ) (stack : List Tree) (taken args : Trees) (rest : List Tree) → take_trees n stack taken ≡ Some (args, rest) → Took n stack taken args rest
took zero stack taken args rest e =
    let h = same_Some (taken, stack) (args, rest) e in
    record {
      front = [];
      args_are = sym (ap (λ (p : Trees × List Tree). p.0) h) ∙ sym (trees_of-list_of taken);
      size = refl;
      stack_is = ap (λ (p : Trees × List Tree). p.1) h;
    }
took (suc n) [] taken args rest e = absurd cc
took (suc n) (t ∷ stack) taken args rest e =
    let r = took n stack (More t taken) args rest e in
    record {
      front = r.front ++ t ∷ [];
      args_are = r.args_are ∙ ap trees_of (sym (append_assoc r.front (t ∷ []) (list_of taken)));
      size = more r.front t n r.size;
      stack_is = ap (λ ts. t ∷ ts) r.stack_is ∙ ap (λ ts. ts ++ rest) (sym (reverse-append r.front (t ∷ [])));
    }
  where
    more : (xs : List Tree) (x : Tree) (m : ℕ) → length xs ≡ m → length (xs ++ x ∷ []) ≡ suc m
    more xs x m e = omega (arith, length-append xs (x ∷ []), e)

-- the trees before an item and after it
pub record Over (i : Item) (ts us : List Tree) : Type 0 where
  pub head : Head
  pub front : List Tree
  pub args : List Tree
  pub is_head : head_of i ≡ Some head
  pub before : ts ≡ front ++ args
  pub after : us ≡ front ++ Node head (trees_of args) ∷ []
  pub size : length args ≡ arity_of i
  pub over : may_stand_over head (trees_of args) ≡ true

-- from stacks, whose top stands first
over_of : (i : Item) (h : Head) (ts us args rest : List Tree) → head_of i ≡ Some h → reverse ts ≡ reverse args ++ rest → reverse us ≡ Node h (trees_of args) ∷ rest → length args ≡ arity_of i → may_stand_over h (trees_of args) ≡ true → Over i ts us
over_of i h ts us args rest is e f size over = record {
  head = h;
  front = reverse rest;
  args = args;
  is_head = is;
  before = sym (reverse-reverse ts) ∙ ap reverse e ∙ reverse-append (reverse args) rest ∙ ap (λ xs. reverse rest ++ xs) (reverse-reverse args);
  after = sym (reverse-reverse us) ∙ ap reverse f ∙ reverse-append (Node h (trees_of args) ∷ []) rest;
  size = size;
  over = over;
}

pub pushed_over : (i : Item) (ts us : List Tree) → (x : Head) → head_of i ≡ Some x → Pushes i ts us → Over i ts us
pushed_over (Var x) ts us h is e = absurd cc
pushed_over (App f n) ts us h is e = by (take_trees n (reverse ts) End) refl e
  where
    by : (o : Option (Trees × List Tree)) → take_trees n (reverse ts) End ≡ o → push_over (head.App f) o ≡ Some (reverse us) → Over (App f n) ts us
    by None t p = absurd cc
    by (Some (args, rest)) t p =
        let r = took n (reverse ts) End args rest t in
        let args_are : args ≡ trees_of r.front = r.args_are ∙ ap trees_of (append-nil r.front) in
        over_of (App f n) (head.App f) ts us r.front rest refl r.stack_is
        (sym (same_Some (Node (head.App f) args ∷ rest) (reverse us) p) ∙ ap (λ ks. Node (head.App f) ks ∷ rest) args_are) r.size refl
pushed_over (Int v) ts us h is e = over_of (Int v) (head.Int v) ts us [] (reverse ts) refl refl (sym (same_Some (Node (head.Int v) End ∷ reverse ts) (reverse us) e)) refl refl
pushed_over Nil ts us h is e = over_of Nil head.Nil ts us [] (reverse ts) refl refl (sym (same_Some (Node head.Nil End ∷ reverse ts) (reverse us) e)) refl refl
pushed_over Cons ts us h is e = by (reverse ts) refl e
  where
    by : (stack : List Tree) → reverse ts ≡ stack → push_cell stack ≡ Some (reverse us) → Over Cons ts us
    by [] s p = absurd cc
    by (u ∷ []) s p = absurd cc
    by (u ∷ t ∷ rest) s p = go (may_be_list u) refl p
      where
        go : (b : Bool) → may_be_list u ≡ b → cond b (Some (Node head.Cons (More t (More u End)) ∷ rest)) None ≡ Some (reverse us) → Over Cons ts us
        go false l q = absurd cc
        go true l q = over_of Cons head.Cons ts us (t ∷ u ∷ []) rest refl s (sym (same_Some (Node head.Cons (More t (More u End)) ∷ rest) (reverse us) q)) refl l

-- ---- items one after another

stack_more : (xs ys : List Item) (s : List Tree) → push_items (xs ++ ys) s ≡ option_and_then (λ t. push_items ys t) (push_items xs s)
stack_more [] ys s = refl
stack_more (x ∷ xs) ys s = go (push_item x s) (λ u. stack_more xs ys u)
  where
    go : (o : Option (List Tree)) → ((u : List Tree) → push_items (xs ++ ys) u ≡ option_and_then (λ t. push_items ys t) (push_items xs u)) → option_and_then (λ u. push_items (xs ++ ys) u) o ≡ option_and_then (λ t. push_items ys t) (option_and_then (λ u. push_items xs u) o)
    go None ih = refl
    go (Some u) ih = ih u

-- items on trees, the last tree last
abbrev pub PushesAll : List Item → List Tree → List Tree → Type 0
PushesAll is ts us = push_items is (reverse ts) ≡ Some (reverse us)

-- what is on the way where items come to trees
pub record Between (front : List Item) (i : Item) (back : List Item) (ts us : List Tree) : Type 0 where
  pub before : List Tree
  pub after : List Tree
  pub first : PushesAll front ts before
  pub pushes : Pushes i before after
  pub rest : PushesAll back after us

pub between : (front : List Item) (i : Item) (back : List Item) (ts us : List Tree) → PushesAll (front ++ i ∷ back) ts us → Between front i back ts us
between front i back ts us e = by (push_items front (reverse ts)) refl (sym (stack_more front (i ∷ back) (reverse ts)) ∙ e)
  where
    by : (o : Option (List Tree)) → push_items front (reverse ts) ≡ o → option_and_then (λ t. push_items (i ∷ back) t) o ≡ Some (reverse us) → Between front i back ts us
    by None a h = absurd (let bad : None ≡ Some (reverse us) = h in cc)
    by (Some s) a h = go (push_item i s) refl h
      where
        go : (o : Option (List Tree)) → push_item i s ≡ o → option_and_then (λ t. push_items back t) o ≡ Some (reverse us) → Between front i back ts us
        go None b k = absurd (let bad : None ≡ Some (reverse us) = k in cc)
        go (Some r) b k = record {
          before = reverse s;
          after = reverse r;
          first = a ∙ ap Some (sym (reverse-reverse s));
          pushes = ap (push_item i) (reverse-reverse s) ∙ b ∙ ap Some (sym (reverse-reverse r));
          rest = ap (push_items back) (reverse-reverse r) ∙ k;
        }

-- one item more
pub one_more : (front : List Item) (i : Item) (ts us vs : List Tree) → PushesAll front ts us → Pushes i us vs → PushesAll (front ++ i ∷ []) ts vs
one_more front i ts us vs a p =
    stack_more front (i ∷ []) (reverse ts)
    ∙ ap (λ o. option_and_then (λ t. push_items (i ∷ []) t) o) a
    ∙ ap (λ o. option_and_then (λ t. Some t) o) p

-- the items of a term put the term behind the others
pub term_pushed : (t : Tree) (ts : List Tree) → IsWellFormed t → PushesAll (postorder t) ts (ts ++ t ∷ [])
term_pushed t ts w =
    ap (λ is. push_items is (reverse ts)) (sym (append-nil (postorder t)))
    ∙ tree_pushed t [] (reverse ts) w
    ∙ ap Some (sym (reverse-append ts (t ∷ [])))

-- ---- what stays

subtrees_all-trees_of : (ts : List Tree) → subtrees_all (trees_of ts) ≡ flat_map subtrees ts
subtrees_all-trees_of [] = refl
subtrees_all-trees_of (t ∷ ts) = ap (λ us. subtrees t ++ us) (subtrees_all-trees_of ts)

-- what is below some trees is below others
abbrev pub Stays : List Tree → List Tree → Type 0
Stays ts us = (x : Tree) → among x (flat_map subtrees ts) ≡ true → among x (flat_map subtrees us) ≡ true

stays_over : (i : Item) (ts us : List Tree) → Over i ts us → Stays ts us
stays_over i ts us o x a = ap (λ vs. among x (flat_map subtrees vs)) o.after ∙ ap (among x) (flat_map-append subtrees o.front (Node o.head (trees_of o.args) ∷ [])) ∙ by (among_either x (flat_map subtrees o.front) (flat_map subtrees o.args) (sym (ap (among x) (flat_map-append subtrees o.front o.args)) ∙ sym (ap (λ vs. among x (flat_map subtrees vs)) o.before) ∙ a))
  where
    by : (among x (flat_map subtrees o.front) ≡ true) ⊎ (among x (flat_map subtrees o.args) ≡ true) → among x (flat_map subtrees o.front ++ flat_map subtrees (Node o.head (trees_of o.args) ∷ [])) ≡ true
    by (inl l) = among_left x (flat_map subtrees o.front) (flat_map subtrees (Node o.head (trees_of o.args) ∷ [])) l
    by (inr r) =
        let below : among x (subtrees_all (trees_of o.args)) ≡ true = ap (among x) (subtrees_all-trees_of o.args) ∙ r in
        among_right x (flat_map subtrees o.front) (flat_map subtrees (Node o.head (trees_of o.args) ∷ []))
        (among_left x (subtrees (Node o.head (trees_of o.args))) [] (among_there x (Node o.head (trees_of o.args)) (subtrees_all (trees_of o.args)) below))

stays_item : (i : Item) (ts us : List Tree) → Pushes i ts us → Stays ts us
stays_item (Var v) ts us e = λ x a.
    let same : us ≡ ts ++ Leaf v ∷ [] = sym (reverse-reverse us) ∙ ap reverse (sym (same_Some (Leaf v ∷ reverse ts) (reverse us) e)) ∙ reverse-append (Leaf v ∷ []) (reverse ts) ∙ ap (λ vs. vs ++ Leaf v ∷ []) (reverse-reverse ts) in
    ap (λ vs. among x (flat_map subtrees vs)) same ∙ ap (among x) (flat_map-append subtrees ts (Leaf v ∷ [])) ∙ among_left x (flat_map subtrees ts) (flat_map subtrees (Leaf v ∷ [])) a
stays_item (App f n) ts us e = stays_over (App f n) ts us (pushed_over (App f n) ts us (head.App f) refl e)
stays_item (Int v) ts us e = stays_over (Int v) ts us (pushed_over (Int v) ts us (head.Int v) refl e)
stays_item Nil ts us e = stays_over Nil ts us (pushed_over Nil ts us head.Nil refl e)
stays_item Cons ts us e = stays_over Cons ts us (pushed_over Cons ts us head.Cons refl e)

pub same_reverse : (ts us : List Tree) → reverse ts ≡ reverse us → ts ≡ us
same_reverse ts us e = sym (reverse-reverse ts) ∙ ap reverse e ∙ reverse-reverse us

pub stays_all : (is : List Item) (ts us : List Tree) → PushesAll is ts us → Stays ts us
stays_all [] ts us e x a =
    let same = same_reverse ts us (same_Some (reverse ts) (reverse us) e) in
    ap (λ vs. among x (flat_map subtrees vs)) (sym same) ∙ a
stays_all (i ∷ is) ts us e x a =
    let b = between [] i is ts us e in
    let same = same_reverse ts b.before (same_Some (reverse ts) (reverse b.before) b.first) in
    stays_all is b.after us b.rest x (stays_item i b.before b.after b.pushes x (ap (λ vs. among x (flat_map subtrees vs)) (sym same) ∙ a))

-- so they have no more different subtrees
pub fewer : (ts us : List Tree) → Stays ts us → different ts ≤ different us
fewer ts us stays =
    distinct_of_part (flat_map subtrees ts) (flat_map subtrees us)
    (λ x c. contains_from_among x (flat_map subtrees us) (stays x (among_from_contains x (flat_map subtrees ts) c)))

pub stays_front : (ts us : List Tree) → Stays ts (ts ++ us)
stays_front ts us x a = ap (among x) (flat_map-append subtrees ts us) ∙ among_left x (flat_map subtrees ts) (flat_map subtrees us) a
