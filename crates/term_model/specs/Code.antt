-- A tree is stored as a list of numbers: for each node its kind, its value and its count of
-- arguments, in postorder.
use Rattle.std.specs.Prelude.{◌≡◌, ℕ, zero, suc, ◌+◌, List, [], ◌∷◌, ◌++◌, Option, Some, None, refl}
use Rattle.std.proofs.Common.{ap, ◌∙◌, sym, arith, append_assoc, append-nil}
use Rattle.std.specs.Coded.{Coded, code_by, coded×, coded_ℕ, coded_list}
use Rattle.term_model.specs.Tree.{Tree, Leaf, Node, Trees, End, More, count_of}
use Rattle.term_model.specs.Postorder.{take_trees}
use Rattle.term_model.specs.declared.Head.{Head}
use Rattle.term_model.specs.declared.Head.TheVariants.{App, Int, Nil, Cons}

abbrev pub Codes : Type 0
Codes = List (ℕ × (ℕ × ℕ))

abbrev pub head_code : Head → ℕ → ℕ × (ℕ × ℕ)
head_code (App f) n = (1, (f.0, n))
head_code (Int v) n = (2, (v, n))
head_code Nil n = (3, (0, n))
head_code Cons n = (4, (0, n))

abbrev pub head_from : ℕ → ℕ → Head
head_from zero v = App (record { 0 = v })
head_from (suc zero) v = Int v
head_from (suc (suc zero)) v = Nil
head_from (suc (suc (suc n))) v = Cons

abbrev mutual
  pub codes : Tree → Codes
  codes (Leaf x) = (0, (x, 0)) ∷ []
  codes (Node h ts) = codes_all ts ++ head_code h (count_of ts) ∷ []

  pub codes_all : Trees → Codes
  codes_all End = []
  codes_all (More t ts) = codes t ++ codes_all ts

abbrev pub joined : Head → Option (Trees × List Tree) → List Tree
joined h None = []
joined h (Some r) = Node h r.0 ∷ r.1

abbrev pub placed : ℕ → ℕ → ℕ → List Tree → List Tree
placed zero x n stack = Leaf x ∷ stack
placed (suc k) v n stack = joined (head_from k v) (take_trees n stack End)

abbrev pub stack_from : Codes → List Tree → List Tree
stack_from [] stack = stack
stack_from (c ∷ cs) stack = stack_from cs (placed c.0 c.1.0 c.1.1 stack)

abbrev pub top : List Tree → Tree
top [] = Leaf 0
top (t ∷ stack) = t

-- the trees on the stack, the last on top
abbrev pub onto : Trees → List Tree → List Tree
onto End stack = stack
onto (More t ts) stack = onto ts (t ∷ stack)

abbrev pub join : Trees → Trees → Trees
join End us = us
join (More t ts) us = More t (join ts us)

pub join_end : (ts : Trees) → join ts End ≡ ts
join_end End = refl
join_end (More t ts) = ap (More t) (join_end ts)

pub take_trees-onto : (ts : Trees) (m n : ℕ) (stack : List Tree) (taken : Trees)
    → m ≡ count_of ts + n → take_trees m (onto ts stack) taken ≡ take_trees n stack (join ts taken)
take_trees-onto End m n stack taken e =
    ap (λ k. take_trees k stack taken) (let h : m ≡ n = omega arith in h)
take_trees-onto (More t ts) m n stack taken e =
    let h : m ≡ count_of ts + suc n = omega arith in
    take_trees-onto ts m (suc n) (t ∷ stack) taken h

-- a node takes exactly its arguments
pub takes_arguments : (ts : Trees) (stack : List Tree)
    → take_trees (count_of ts) (onto ts stack) End ≡ Some (ts, stack)
takes_arguments ts stack =
    let e : count_of ts ≡ count_of ts + 0 = omega arith in
    take_trees-onto ts (count_of ts) 0 stack End e ∙ ap (λ us. Some (us, stack)) (join_end ts)

placed_head : (h : Head) (ts : Trees) (stack : List Tree) → let c =
    head_code h (count_of ts) in placed c.0 c.1.0 c.1.1 (onto ts stack) ≡ Node h ts ∷ stack
placed_head (App f) ts stack = ap (joined (App f)) (takes_arguments ts stack)
placed_head (Int v) ts stack = ap (joined (Int v)) (takes_arguments ts stack)
placed_head Nil ts stack = ap (joined Nil) (takes_arguments ts stack)
placed_head Cons ts stack = ap (joined Cons) (takes_arguments ts stack)

mutual
  tree_from : (t : Tree) (cs : Codes) (stack : List Tree)
      → stack_from (codes t ++ cs) stack ≡ stack_from cs (t ∷ stack)
  tree_from (Leaf x) cs stack = refl
  tree_from (Node h ts) cs stack =
      ap (λ ds. stack_from ds stack)
      (append_assoc (codes_all ts) (head_code h (count_of ts) ∷ []) cs)
      ∙ trees_from ts (head_code h (count_of ts) ∷ cs) stack
      ∙ ap (stack_from cs) (placed_head h ts stack)

  trees_from : (ts : Trees) (cs : Codes) (stack : List Tree) → stack_from (codes_all ts ++ cs) stack
      ≡ stack_from cs (onto ts stack)
  trees_from End cs stack = refl
  trees_from (More t ts) cs stack =
      ap (λ ds. stack_from ds stack) (append_assoc (codes t) (codes_all ts) cs)
      ∙ tree_from t (codes_all ts ++ cs) stack
      ∙ trees_from ts cs (t ∷ stack)

pub decoded : (t : Tree) → top (stack_from (codes t) []) ≡ t
decoded t = ap (λ cs. top (stack_from cs [])) (sym (append-nil (codes t)))
    ∙ ap top (tree_from t [] [])

abbrev pub tree_code : Coded Tree
tree_code =
    code_by Codes (coded_list (coded× coded_ℕ (coded× coded_ℕ coded_ℕ))) codes
    (λ cs. top (stack_from cs [])) decoded
