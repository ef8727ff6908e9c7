-- Subtrees, and how large they are.
use Rattle.std.proofs.Common.{◌≡◌, ℕ, ◌<◌, ◌≤◌, List, [], ◌∷◌, ◌++◌, length, refl, sym, ◌∙◌, ap, subst, arith, length-append, Some, ◌-◌, true, false, Bool, ◌⊎◌, inl, inr}
use Rattle.std.specs.Prelude.{Contains, ◌&&◌}
use Rattle.std.specs.List.{flat_map, list_all, slice_get}
use Rattle.std.proofs.lemmas.List.{get_or_push}
use Rattle.std.proofs.lemmas.Option.{get_or_from_slice_get}
use Rattle.term_model.specs.Tree.{Tree, Leaf, Node, Trees, End, More, count_of, list_of, arguments, root, nodes, nodes_all, subtrees, subtrees_all, among, is_well_formed, all_well_formed, may_stand_over, is_ground, all_ground, IsWellFormed, IsGround}
use Rattle.term_model.specs.Postorder.{item_of, postorder, postorder_all, has_head, head_of}
use Rattle.term_model.specs.Laws.{IsSubtree, IsClosed}
use Rattle.term_model.specs.declared.Head.{Head}
use Rattle.term_model.specs.declared.Head.TheVariants.{App, Int, Nil, Cons}
use Rattle.term_model.specs.declared.Item.{Item}
use Rattle.term_model.specs.declared.Item.TheVariants.{Var}
use Rattle.term_model.proofs.Order.{both_hold}
use Rattle.term_model.proofs.Equality.{among_here, among_there, among_cases, contains_from_among, among_from_contains}

all-append : (is js : List Item) → list_all has_head (is ++ js) ≡ (list_all has_head is && list_all has_head js)
all-append [] js = refl
all-append (i ∷ is) js = go (has_head i) (all-append is js)
  where
    go : (b : Bool) → list_all has_head (is ++ js) ≡ (list_all has_head is && list_all has_head js) → (b && list_all has_head (is ++ js)) ≡ ((b && list_all has_head is) && list_all has_head js)
    go true e = e
    go false e = refl

and_true : (b : Bool) → (b && true) ≡ b
and_true true = refl
and_true false = refl

item_has_head : (h : Head) (n : ℕ) → has_head (item_of h n) ≡ true
item_has_head (App f) n = refl
item_has_head (Int v) n = refl
item_has_head Nil n = refl
item_has_head Cons n = refl

-- the items are the nodes
mutual
  pub items_are_nodes : (t : Tree) → length (postorder t) ≡ nodes t
  items_are_nodes (Leaf x) = refl
  items_are_nodes (Node h ts) = omega (arith, length-append (postorder_all ts) (item_of h (count_of ts) ∷ []), all_items_are_nodes ts)

  all_items_are_nodes : (ts : Trees) → length (postorder_all ts) ≡ nodes_all ts
  all_items_are_nodes End = refl
  all_items_are_nodes (More t ts) = omega (arith, length-append (postorder t) (postorder_all ts), items_are_nodes t, all_items_are_nodes ts)

all_in_order : (ts : Trees) → postorder_all ts ≡ flat_map postorder (list_of ts)
all_in_order End = refl
all_in_order (More t ts) = ap (λ is. postorder t ++ is) (all_in_order ts)

pub items_of_node : (h : Head) (ts : Trees) → postorder (Node h ts) ≡ flat_map postorder (list_of ts) ++ item_of h (count_of ts) ∷ []
items_of_node h ts = ap (λ is. is ++ item_of h (count_of ts) ∷ []) (all_in_order ts)

pub among_left : (t : Tree) (xs ys : List Tree) → among t xs ≡ true → among t (xs ++ ys) ≡ true
among_left t [] ys h = cc
among_left t (x ∷ xs) ys h = elim (among_cases t x xs h) [ inl e ↦ among_here t x (xs ++ ys) e | inr i ↦ among_there t x (xs ++ ys) (among_left t xs ys i) ]

pub among_right : (t : Tree) (xs ys : List Tree) → among t ys ≡ true → among t (xs ++ ys) ≡ true
among_right t [] ys h = h
among_right t (x ∷ xs) ys h = among_there t x (xs ++ ys) (among_right t xs ys h)

pub among_either : (t : Tree) (xs ys : List Tree) → among t (xs ++ ys) ≡ true → (among t xs ≡ true) ⊎ (among t ys ≡ true)
among_either t [] ys h = inr h
among_either t (x ∷ xs) ys h =
    elim (among_cases t x (xs ++ ys) h) [
      | inl e ↦ inl (among_here t x xs e)
      | inr i ↦ elim (among_either t xs ys i) [ inl l ↦ inl (among_there t x xs l) | inr r ↦ inr r ]
    ]

pub itself : (t : Tree) → among t (subtrees t) ≡ true
itself (Leaf x) = among_here (Leaf x) (Leaf x) [] refl
itself (Node h ts) = among_here (Node h ts) (Node h ts) (subtrees_all ts) refl

pub trees_are_subtrees : (t : Tree) → IsSubtree t t
trees_are_subtrees t = contains_from_among t (subtrees t) (itself t)

item_at_end : (is : List Item) (i j : Item) → slice_get (is ++ i ∷ []) (length (is ++ i ∷ []) - 1) ≡ Some j → i ≡ j
item_at_end is i j e =
    let n : length (is ++ i ∷ []) - 1 ≡ length is = omega (arith, length-append is (i ∷ [])) in
    sym (get_or_push is i j (length is) refl)
    ∙ get_or_from_slice_get (is ++ i ∷ []) (length is) j j (ap (slice_get (is ++ i ∷ [])) (sym n) ∙ e)

head_of_item : (h : Head) (n : ℕ) → head_of (item_of h n) ≡ Some h
head_of_item (App f) n = refl
head_of_item (Int v) n = refl
head_of_item Nil n = refl
head_of_item Cons n = refl

-- the root stands last
pub root_is_last : (t : Tree) (i : Item) → slice_get (postorder t) (length (postorder t) - 1) ≡ Some i → head_of i ≡ root t
root_is_last (Leaf x) i e = ap head_of (sym (item_at_end [] (Var x) i e))
root_is_last (Node h ts) i e = ap head_of (sym (item_at_end (postorder_all ts) (item_of h (count_of ts)) i e)) ∙ head_of_item h (count_of ts)

pub some_nodes : (t : Tree) → 0 < nodes t
some_nodes (Leaf x) = omega arith
some_nodes (Node h ts) = omega arith

-- a tree is ground where all its items have heads
mutual
  pub all_heads : (t : Tree) → list_all has_head (postorder t) ≡ is_ground t
  all_heads (Leaf x) = refl
  all_heads (Node h ts) =
      all-append (postorder_all ts) (item_of h (count_of ts) ∷ [])
      ∙ ap (λ b. b && (has_head (item_of h (count_of ts)) && true)) (all_all_heads ts)
      ∙ ap (λ b. all_ground ts && (b && true)) (item_has_head h (count_of ts))
      ∙ and_true (all_ground ts)

  all_all_heads : (ts : Trees) → list_all has_head (postorder_all ts) ≡ all_ground ts
  all_all_heads End = refl
  all_all_heads (More t ts) =
      all-append (postorder t) (postorder_all ts)
      ∙ ap (λ b. b && list_all has_head (postorder_all ts)) (all_heads t)
      ∙ ap (λ b. is_ground t && b) (all_all_heads ts)

-- What holds of a tree and goes down to its arguments holds of its subtrees.
record GoesDown (P : Tree → Type 0) (Q : Trees → Type 0) : Type 0 where
  node : (h : Head) (ts : Trees) → P (Node h ts) → Q ts
  first : (t : Tree) (ts : Trees) → Q (More t ts) → P t
  rest : (t : Tree) (ts : Trees) → Q (More t ts) → Q ts

module _ (P : Tree → Type 0) (Q : Trees → Type 0) (down : GoesDown P Q) where
  mutual
    goes_down : (t u : Tree) → P t → among u (subtrees t) ≡ true → P u
    goes_down (Leaf x) u p h = elim (among_cases u (Leaf x) [] h) [ inl e ↦ subst P (sym e) p | inr i ↦ cc ]
    goes_down (Node g ts) u p h = elim (among_cases u (Node g ts) (subtrees_all ts) h) [ inl e ↦ subst P (sym e) p | inr i ↦ all_go_down ts u (down.node g ts p) i ]

    all_go_down : (ts : Trees) (u : Tree) → Q ts → among u (subtrees_all ts) ≡ true → P u
    all_go_down End u q h = cc
    all_go_down (More t ts) u q h =
        elim (among_either u (subtrees t) (subtrees_all ts) h) [
          | inl l ↦ goes_down t u (down.first t ts q) l
          | inr r ↦ all_go_down ts u (down.rest t ts q) r
        ]

-- the trees whose subtrees are all subtrees of a given tree
nests : (t : Tree) → GoesDown (λ u. (v : Tree) → among v (subtrees u) ≡ true → among v (subtrees t) ≡ true) (λ us. (v : Tree) → among v (subtrees_all us) ≡ true → among v (subtrees t) ≡ true)
nests t = record {
  node = λ h ts p v i. p v (among_there v (Node h ts) (subtrees_all ts) i);
  first = λ u us q v i. q v (among_left v (subtrees u) (subtrees_all us) i);
  rest = λ u us q v i. q v (among_right v (subtrees u) (subtrees_all us) i);
}

pub subtrees_nest : (t u v : Tree) → IsSubtree u t → IsSubtree v u → IsSubtree v t
subtrees_nest t u v a b =
    let h = goes_down _ _ (nests t) t u (λ w i. i) (among_from_contains u (subtrees t) a) in
    contains_from_among v (subtrees t) (h v (among_from_contains v (subtrees u) b))

no_larger : (n : ℕ) → GoesDown (λ t. nodes t ≤ n) (λ ts. nodes_all ts ≤ n)
no_larger n = record {
  node = λ h ts p. omega (arith, p);
  first = λ t ts q. omega (arith, q);
  rest = λ t ts q. omega (arith, q);
}

pub no_more_nodes : (t u : Tree) → IsSubtree u t → nodes u ≤ nodes t
no_more_nodes t u a = goes_down _ _ (no_larger (nodes t)) t u (omega arith) (among_from_contains u (subtrees t) a)

well_formed_down : GoesDown IsWellFormed (λ ts. all_well_formed ts ≡ true)
well_formed_down = record {
  node = λ h ts p. (both_hold (may_stand_over h ts) (all_well_formed ts) p).1;
  first = λ t ts q. (both_hold (is_well_formed t) (all_well_formed ts) q).0;
  rest = λ t ts q. (both_hold (is_well_formed t) (all_well_formed ts) q).1;
}

pub subtrees_are_well_formed : (t u : Tree) → IsWellFormed t → IsSubtree u t → IsWellFormed u
subtrees_are_well_formed t u w a = goes_down _ _ well_formed_down t u w (among_from_contains u (subtrees t) a)

ground_down : GoesDown IsGround (λ ts. all_ground ts ≡ true)
ground_down = record {
  node = λ h ts p. p;
  first = λ t ts q. (both_hold (is_ground t) (all_ground ts) q).0;
  rest = λ t ts q. (both_hold (is_ground t) (all_ground ts) q).1;
}

pub subtrees_are_ground : (t u : Tree) → IsGround t → IsSubtree u t → IsGround u
subtrees_are_ground t u g a = goes_down _ _ ground_down t u g (among_from_contains u (subtrees t) a)

-- arguments
among_all : (ts : Trees) (u : Tree) → among u (list_of ts) ≡ true → among u (subtrees_all ts) ≡ true
among_all End u h = h
among_all (More t ts) u h =
    elim (among_cases u t (list_of ts) h) [
      | inl e ↦ among_left u (subtrees t) (subtrees_all ts) (ap (λ v. among v (subtrees t)) e ∙ itself t)
      | inr i ↦ among_right u (subtrees t) (subtrees_all ts) (among_all ts u i)
    ]

all_fewer : (ts : Trees) (u : Tree) → among u (list_of ts) ≡ true → nodes u ≤ nodes_all ts
all_fewer End u h = cc
all_fewer (More t ts) u h =
    elim (among_cases u t (list_of ts) h) [
      | inl e ↦ let f : nodes u ≡ nodes t = ap nodes e in omega (arith, f)
      | inr i ↦ omega (arith, all_fewer ts u i)
    ]

pub arguments_are_subtrees : (t u : Tree) → Contains (arguments t) u → IsSubtree u t
arguments_are_subtrees (Leaf x) u c = absurd (omega (arith, c.1))
arguments_are_subtrees (Node h ts) u c =
    contains_from_among u (subtrees (Node h ts)) (among_there u (Node h ts) (subtrees_all ts) (among_all ts u (among_from_contains u (list_of ts) c)))

pub arguments_have_fewer_nodes : (t u : Tree) → Contains (arguments t) u → nodes u < nodes t
arguments_have_fewer_nodes (Leaf x) u c = absurd (omega (arith, c.1))
arguments_have_fewer_nodes (Node h ts) u c = omega (arith, all_fewer ts u (among_from_contains u (list_of ts) c))

-- a closed list
closed_down : (xs : List Tree) → IsClosed xs → GoesDown (λ t. Contains xs t) (λ ts. (u : Tree) → Contains (list_of ts) u → Contains xs u)
closed_down xs c = record {
  node = λ h ts p u a. c (Node h ts) u p a;
  first = λ t ts q. q t (contains_from_among t (t ∷ list_of ts) (among_here t t (list_of ts) refl));
  rest = λ t ts q u a. q u (contains_from_among u (t ∷ list_of ts) (among_there u t (list_of ts) (among_from_contains u (list_of ts) a)));
}

pub closed_holds_subtrees : (xs : List Tree) → IsClosed xs → (t u : Tree) → Contains xs t → IsSubtree u t → Contains xs u
closed_holds_subtrees xs c t u a b = goes_down _ _ (closed_down xs c) t u a (among_from_contains u (subtrees t) b)
