-- A list is built of the last trees, from its end on.
use Rattle.std.proofs.Common.{◌≡◌, ◌≤◌, ◌<◌, ◌∙◌, ℕ, ◌+◌, ◌-◌, List, [], ◌∷◌, ◌++◌, length, length-append, take, drop, get_or, refl, ap, sym, arith, append_assoc, true}
use Rattle.std.proofs.lemmas.List.{take_more, drop_more, take_all, drop_all, length-drop, length-map, take-append-drop}
use Rattle.term_model.specs.Tree as tree
use Rattle.term_model.specs.Tree.{Tree, Node, Leaf, trees_of, may_be_list, may_stand_over}
use Rattle.term_model.specs.declared.Head.TheVariants.{Cons}
use Rattle.terms_api.specs.Terms.{Store, MayBuild, trees, tree_at, last, but_last, asked}
use Rattle.terms_api.proofs.Callers.{last-append, but_last-append}
use Rattle.term_building.specs.Trees.{list_tree, Cell, with_cell}

-- the last trees, of which those from a place on are one list
abbrev pub rolled : List Tree → ℕ → ℕ → List Tree
rolled ts count left = but_last count ts ++ (take left (last count ts) ++ list_tree (drop left (last count ts)) ∷ [])

is_list : (ts : List Tree) → may_be_list (list_tree ts) ≡ true
is_list [] = refl
is_list (t ∷ ts) = refl

last_size : (ts : List Tree) (count : ℕ) → count ≤ length ts → length (last count ts) ≡ count
last_size ts count h = let size = length-drop (length ts - count) ts in omega (arith, size, h)

pub all_left : (ts now : List Tree) (count : ℕ) → count ≤ length ts → now ≡ ts ++ list_tree [] ∷ [] → now ≡ rolled ts count count
all_left ts now count h e =
    let size = last_size ts count h in
    let none : drop count (last count ts) ≡ [] = drop_all count (last count ts) (omega (arith, size)) in
    let all : take count (last count ts) ≡ last count ts = take_all count (last count ts) (omega (arith, size)) in
    e
    ∙ ap (λ xs. xs ++ list_tree [] ∷ []) (sym (take-append-drop (length ts - count) ts))
    ∙ append_assoc (but_last count ts) (last count ts) (list_tree [] ∷ [])
    ∙ (λ i. but_last count ts ++ (sym all i ++ list_tree (sym none i) ∷ []))

pub none_left : (ts : List Tree) (count : ℕ) → rolled ts count 0 ≡ but_last count ts ++ list_tree (last count ts) ∷ []
none_left ts count = refl

pub next_cell : (ts now : List Tree) (count left : ℕ) → count ≤ length ts → left < count → now ≡ rolled ts count (left + 1) → Cell now
next_cell ts now count left h l e =
    let size = last_size ts count h in
    let xs = last count ts in
    record {
      before = but_last count ts ++ take left xs;
      one = get_or xs left (Leaf 0);
      rest = list_tree (drop (left + 1) xs);
      is =
          e
          ∙ ap (λ ys. but_last count ts ++ (ys ++ list_tree (drop (left + 1) xs) ∷ [])) (take_more xs left (Leaf 0) (omega (arith, size, l)))
          ∙ ap (λ ys. but_last count ts ++ ys) (append_assoc (take left xs) (get_or xs left (Leaf 0) ∷ []) (list_tree (drop (left + 1) xs) ∷ []))
          ∙ sym (append_assoc (but_last count ts) (take left xs) (get_or xs left (Leaf 0) ∷ list_tree (drop (left + 1) xs) ∷ []));
      list = is_list (drop (left + 1) xs);
    }

pub cell_rolled : (ts now : List Tree) (count left : ℕ) (h : count ≤ length ts) (l : left < count) (e : now ≡ rolled ts count (left + 1)) → with_cell (next_cell ts now count left h l e) ≡ rolled ts count left
unfolding next_cell
cell_rolled ts now count left h l e =
    let size = last_size ts count h in
    let xs = last count ts in
    append_assoc (but_last count ts) (take left xs) (Node Cons (tree.More (get_or xs left (Leaf 0)) (tree.More (list_tree (drop (left + 1) xs)) tree.End)) ∷ [])
    ∙ ap (λ ys. but_last count ts ++ (take left xs ++ list_tree ys ∷ [])) (sym (drop_more xs left (Leaf 0) (omega (arith, size, l))))

-- what a build of a cell asks for, and gives
pub may_cell : (s : Store) → Cell (trees s) → 2 ≤ s.widest → MayBuild s Cons 2
may_cell s c wide = record {
  depth =
      (let size = length-map s.stack (tree_at s) in
      let all = ap length c.is ∙ length-append c.before (c.one ∷ c.rest ∷ []) in
      omega (arith, size, all));
  width = wide;
  head = ap (λ ts. may_stand_over Cons (trees_of ts)) (ap (last 2) c.is ∙ last-append 2 c.before (c.one ∷ c.rest ∷ []) refl) ∙ c.list;
}

pub cell_is : (s : Store) (c : Cell (trees s)) → but_last 2 (trees s) ++ asked s Cons 2 ∷ [] ≡ with_cell c
cell_is s c =
    let lasts : last 2 (trees s) ≡ c.one ∷ c.rest ∷ [] = ap (last 2) c.is ∙ last-append 2 c.before (c.one ∷ c.rest ∷ []) refl in
    let firsts : but_last 2 (trees s) ≡ c.before = ap (but_last 2) c.is ∙ but_last-append 2 c.before (c.one ∷ c.rest ∷ []) refl in
    λ i. firsts i ++ Node Cons (trees_of (lasts i)) ∷ []

-- from one more tree that is left to this many
pub next_of : (ts now : List Tree) (count from : ℕ) → count ≤ length ts → from < count → now ≡ rolled ts count (count - from) → Cell now
next_of ts now count from h l e =
    let n : count - from ≡ (count - (from + 1)) + 1 = omega arith in
    next_cell ts now count (count - (from + 1)) h (omega (arith, l)) (e ∙ ap (rolled ts count) n)

pub next_rolled : (ts now : List Tree) (count from : ℕ) (h : count ≤ length ts) (l : from < count) (e : now ≡ rolled ts count (count - from)) → with_cell (next_of ts now count from h l e) ≡ rolled ts count (count - (from + 1))
unfolding next_of
next_rolled ts now count from h l e =
    let n : count - from ≡ (count - (from + 1)) + 1 = omega arith in
    cell_rolled ts now count (count - (from + 1)) h (omega (arith, l)) (e ∙ ap (rolled ts count) n)
