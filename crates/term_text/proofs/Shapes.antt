-- What a tree is by its root, and its text then.
use Rattle.std.proofs.Common.{◌≡◌, ℕ, zero, suc, ◌+◌, List, [], ◌∷◌, ◌++◌, Some, true, false, length, drop, refl, ap, sym, ◌∙◌, subst, arith}
use Rattle.std.specs.Prelude.{slice_get, codes, decimal, sum_by, unwrap_or}
use Rattle.std.proofs.lemmas.Option.{slice_get_within}
use Rattle.std.proofs.lemmas.List.Sums.{sum_by-cons}
use Rattle.term_model.specs.declared.Symbol.{Symbol}
use Rattle.term_model.specs.declared.Head.{Head}
use Rattle.term_model.specs.declared.Head.TheVariants.{App, Int, Nil, Cons}
use Rattle.term_model.specs.Tree.{Tree, Leaf, Node, Trees, End, More, list_of, trees_of, arguments, root, nodes, nodes_all, may_stand_over, is_tree_and_list, all_well_formed, IsWellFormed}
use Rattle.term_model.proofs.Order.{both_hold}
use Rattle.symbol_pool.specs.Pool.{Named, name_at}
use Rattle.tree_text.specs.Text.{text_by, in_parentheses, elements, further_elements, is_named, has_names, all_have_names, HasNames}
use Rattle.term_text.specs.Text.{plain_name}
use Rattle.term_text.specs.Works.{is_cell}

pub some_same : {A : Type 0} (x y : A) → Some x ≡ Some y → x ≡ y
some_same x y e = cc

-- an element at a place stands before what comes after that place
pub drop_at : {A : Type 0} (xs : List A) (k : ℕ) (x : A) → slice_get xs k ≡ Some x → drop k xs ≡ x ∷ drop (k + 1) xs
drop_at [] k x e = absurd (let h = slice_get_within [] k x e in omega arith)
drop_at (y ∷ xs) zero x e = ap (λ z. z ∷ xs) (some_same y x e)
drop_at (y ∷ xs) (suc k) x e = let s : suc k + 1 ≡ suc (k + 1) = omega arith in drop_at xs k x e ∙ rw s refl

trees_of-list_of : (ts : Trees) → trees_of (list_of ts) ≡ ts
trees_of-list_of End = refl
trees_of-list_of (More t ts) = ap (More t) (trees_of-list_of ts)

nodes_all-list : (ts : Trees) → nodes_all ts ≡ sum_by nodes (list_of ts)
nodes_all-list End = refl
nodes_all-list (More t ts) = ap (λ n. nodes t + n) (nodes_all-list ts) ∙ sym (sum_by-cons nodes t (list_of ts))

-- a node more than the arguments have
pub nodes-arguments : (t : Tree) → nodes t ≡ sum_by nodes (arguments t) + 1
nodes-arguments (Leaf x) = refl
nodes-arguments (Node h ts) = ap (λ n. n + 1) (nodes_all-list ts)

-- arguments of a tree whose symbols are held
all_named_at : (names : List Named) (ts : Trees) (j : ℕ) (u : Tree) → all_have_names names ts ≡ true → slice_get (list_of ts) j ≡ Some u → HasNames names u
all_named_at names End j u n e = absurd (let h = slice_get_within (list_of End) j u e in omega arith)
all_named_at names (More t ts) zero u n e =
    subst (HasNames names) (some_same t u e) (both_hold (has_names names t) (all_have_names names ts) n).0
all_named_at names (More t ts) (suc j) u n e =
    all_named_at names ts j u (both_hold (has_names names t) (all_have_names names ts) n).1 e

pub named_at : (names : List Named) (t : Tree) (j : ℕ) (u : Tree) → HasNames names t → slice_get (arguments t) j ≡ Some u → HasNames names u
named_at names (Leaf x) j u n e = absurd (let h = slice_get_within (arguments (Leaf x)) j u e in omega arith)
named_at names (Node h ts) j u n e = all_named_at names ts j u (both_hold (is_named names h) (all_have_names names ts) n).1 e

pub spelled : (names : List Named) (f : Symbol) (name : List ℕ) → name_at names f ≡ Some name → plain_name names f ≡ name
spelled names f name e = ap (λ o. unwrap_or o []) e

-- texts by the root
pub text_symbol : (spell : Symbol → List ℕ) (t : Tree) (f : Symbol) → root t ≡ Some (App f) → text_by spell t ≡ spell f ++ in_parentheses spell (trees_of (arguments t))
text_symbol spell (Leaf x) f e = absurd (cc)
text_symbol spell (Node h ts) f e =
    ap (λ (x : Head). text_by spell (Node x ts)) (some_same h (App f) e)
    ∙ ap (λ us. spell f ++ in_parentheses spell us) (sym (trees_of-list_of ts))

pub text_integer : (spell : Symbol → List ℕ) (t : Tree) (v : ℕ) → root t ≡ Some (Int v) → text_by spell t ≡ decimal v
text_integer spell (Leaf x) v e = absurd (cc)
text_integer spell (Node h ts) v e = ap (λ (x : Head). text_by spell (Node x ts)) (some_same h (Int v) e)

pub text_empty : (spell : Symbol → List ℕ) (t : Tree) → root t ≡ Some Nil → text_by spell t ≡ codes "[]"
text_empty spell (Leaf x) e = absurd (cc)
text_empty spell (Node h ts) e = ap (λ (x : Head). text_by spell (Node x ts)) (some_same h Nil e)

pub text_cell : (spell : Symbol → List ℕ) (t : Tree) → root t ≡ Some Cons → text_by spell t ≡ codes "[" ++ (elements spell (trees_of (arguments t)) ++ codes "]")
text_cell spell (Leaf x) e = absurd (cc)
text_cell spell (Node h ts) e =
    ap (λ (x : Head). text_by spell (Node x ts)) (some_same h Cons e)
    ∙ ap (λ us. codes "[" ++ (elements spell us ++ codes "]")) (sym (trees_of-list_of ts))

-- the elements after a comma, by the root
pub further_cell : (spell : Symbol → List ℕ) (t : Tree) → root t ≡ Some Cons → further_elements spell t ≡ codes "," ++ elements spell (trees_of (arguments t))
further_cell spell (Leaf x) e = absurd (cc)
further_cell spell (Node h ts) e =
    ap (λ (x : Head). further_elements spell (Node x ts)) (some_same h Cons e)
    ∙ ap (λ us. codes "," ++ elements spell us) (sym (trees_of-list_of ts))

pub is_cons : (h : Head) → is_cell h ≡ true → h ≡ Cons
is_cons (App f) e = absurd cc
is_cons (Int v) e = absurd cc
is_cons Nil e = absurd cc
is_cons Cons e = refl

pub further_other : (spell : Symbol → List ℕ) (t : Tree) (h : Head) → root t ≡ Some h → is_cell h ≡ false → further_elements spell t ≡ []
further_other spell (Leaf x) h e n = absurd (cc)
further_other spell (Node (App f) ts) h e n = refl
further_other spell (Node (Int v) ts) h e n = refl
further_other spell (Node Nil ts) h e n = refl
further_other spell (Node Cons ts) h e n =
    let here : is_cell h ≡ true = ap is_cell (some_same h Cons (sym e)) in
    absurd (cc)

-- a cell has two arguments
record Pair (ts : List Tree) : Type 0 where
  first : Tree
  rest : Tree
  is : ts ≡ first ∷ rest ∷ []

pair_of : (ts : Trees) → is_tree_and_list ts ≡ true → Pair (list_of ts)
pair_of End h = absurd (cc)
pair_of (More t End) h = absurd (cc)
pair_of (More t (More u End)) h = record { first = t; rest = u; is = refl }
pair_of (More t (More u (More v vs))) h = absurd (cc)

cell_pair : (t : Tree) → IsWellFormed t → root t ≡ Some Cons → Pair (arguments t)
cell_pair (Leaf x) w e = absurd (cc)
cell_pair (Node h ts) w e =
    let here = (both_hold (may_stand_over h ts) (all_well_formed ts) w).0 in
    pair_of ts (subst (λ (x : Head). may_stand_over x ts ≡ true) (some_same h Cons e) here)

pub cell_size : (t : Tree) → IsWellFormed t → root t ≡ Some Cons → length (arguments t) ≡ 2
cell_size t w e = ap length (cell_pair t w e).is

pub cell_arguments : (t a u : Tree) → IsWellFormed t → root t ≡ Some Cons → slice_get (arguments t) 0 ≡ Some a → slice_get (arguments t) 1 ≡ Some u → arguments t ≡ a ∷ u ∷ []
cell_arguments t a u w e first next =
    let p = cell_pair t w e in
    let one : p.first ≡ a = some_same p.first a (sym (ap (λ ys. slice_get ys 0) p.is) ∙ first) in
    let two : p.rest ≡ u = some_same p.rest u (sym (ap (λ ys. slice_get ys 1) p.is) ∙ next) in
    p.is ∙ ap (λ x. x ∷ p.rest ∷ []) one ∙ ap (λ x. a ∷ x ∷ []) two
