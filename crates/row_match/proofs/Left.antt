-- What is left of a match by rows: the items from a place on, and the rows that wait for them on a
-- stack.
use Rattle.std.proofs.Common.{◌≡◌, ℕ, ◌+◌, ◌≤◌, ◌<◌, List, [], ◌∷◌, ◌++◌, Some, None, length, true, false, refl, sym, ◌∙◌, ap, arith, subst, map, drop, get_or, length-drop}
use Rattle.std.specs.Prelude.{reverse}
use Rattle.std.proofs.lemmas.List.{length-append, length-map, map_push, drop_more, drop_all}
use Rattle.term_model.specs.Tree.{Tree, Leaf, Node, Trees, End, More, arguments, nodes, nodes_all}
use Rattle.term_model.specs.declared.Head.TheVariants as head
use Rattle.term_model.specs.declared.Item.{Item}
use Rattle.term_model.specs.declared.Item.TheVariants.{Var, App}
use Rattle.term_model.specs.declared.Symbol.{Symbol}
use Rattle.term_model.specs.declared.Row.{Row}
use Rattle.terms_api.specs.Terms.{Store, tree_at}
use Rattle.rewrite_model.specs.Matching.{bind, match_of}
use Rattle.rule_match.specs.Planned.{IsPlain}
use Rattle.rule_match.specs.Preorder.{preorder, preorder_all}
use Rattle.rule_match.specs.Stands.{stands}
use Rattle.rule_match.proofs.Pending.{Pending, at_first, some_wait, at_variable, at_variable_none, at_symbol, at_other, arguments_fit, at_no_item, at_last}

-- each node has an item
mutual
  pub nodes_are_items : (p : Tree) → length (preorder p) ≡ nodes p
  nodes_are_items (Leaf x) = refl
  nodes_are_items (Node h ps) = let r = all_nodes_are_items ps in omega (arith, r)

  all_nodes_are_items : (ps : Trees) → length (preorder_all ps) ≡ nodes_all ps
  all_nodes_are_items End = refl
  all_nodes_are_items (More p ps) =
      let a = nodes_are_items p in
      let b = all_nodes_are_items ps in
      omega (arith, a, b, length-append (preorder p) (preorder_all ps))

-- What is left from a place on.
pub record Left (s : Store) (w : ℕ) (p t : Tree) (items : List Item) (place : ℕ) (stack rows : List Row) : Type 0 where
  pub pending : Pending w p t (drop place items) (map (tree_at s) stack) (map (tree_at s) rows)

at_place : (s : Store) (w : ℕ) (p t : Tree) (items : List Item) (place : ℕ) (i e : Item) (stack rest rows : List Row) (r : Row) → place < length items → get_or items place e ≡ i → stack ≡ rest ++ r ∷ [] → Left s w p t items place stack rows → Pending w p t (i ∷ drop (place + 1) items) (map (tree_at s) rest ++ tree_at s r ∷ []) (map (tree_at s) rows)
at_place s w p t items place i e stack rest rows r l there top d =
    subst (λ is. Pending w p t is (map (tree_at s) rest ++ tree_at s r ∷ []) (map (tree_at s) rows)) (drop_more items place e l ∙ ap (λ j. j ∷ drop (place + 1) items) there)
    (subst (λ ts. Pending w p t (drop place items) ts (map (tree_at s) rows)) (ap (map (tree_at s)) top ∙ map_push (tree_at s) rest r) d.pending)

pub first_left : (s : Store) (w : ℕ) (p : Tree) (items : List Item) (stack rows : List Row) (r : Row) → IsPlain w p → items ≡ preorder p → stack ≡ r ∷ [] → rows ≡ [] → Left s w p (tree_at s r) items 0 stack rows
first_left s w p items stack rows r plain is one none =
    record { pending = rw (is, one, none) (at_first w p (tree_at s r) plain) }

pub stack_left : (s : Store) (w : ℕ) (p t : Tree) (items : List Item) (place : ℕ) (stack rows : List Row) → place < length items → Left s w p t items place stack rows → 0 < length stack
stack_left s w p t items place stack rows l d =
    let more : drop place items ≡ get_or items place (Var 0) ∷ drop (place + 1) items = drop_more items place (Var 0) l in
    let wait = some_wait w p t (get_or items place (Var 0)) (drop (place + 1) items) (map (tree_at s) stack) (map (tree_at s) rows) (subst (λ is. Pending w p t is (map (tree_at s) stack) (map (tree_at s) rows)) more d.pending) in
    omega (arith, wait, length-map stack (tree_at s))

pub variable_left : (s : Store) (w : ℕ) (p t : Tree) (items : List Item) (place x : ℕ) (e : Item) (stack rest rows more : List Row) (r : Row) → place < length items → get_or items place e ≡ Var x → stack ≡ rest ++ r ∷ [] → bind x (tree_at s r) (map (tree_at s) rows) ≡ Some (map (tree_at s) more) → Left s w p t items place stack rows → Left s w p t items (place + 1) rest more
variable_left s w p t items place x e stack rest rows more r l there top b d =
    record { pending = at_variable w p t x (drop (place + 1) items) (map (tree_at s) rest) (map (tree_at s) rows) (tree_at s r) (Some (map (tree_at s) more)) b (at_place s w p t items place (Var x) e stack rest rows r l there top d) (map (tree_at s) more) refl }

pub variable_apart : (s : Store) (w : ℕ) (p t : Tree) (items : List Item) (place x : ℕ) (e : Item) (stack rest rows : List Row) (r : Row) → place < length items → get_or items place e ≡ Var x → stack ≡ rest ++ r ∷ [] → bind x (tree_at s r) (map (tree_at s) rows) ≡ None → Left s w p t items place stack rows → match_of p t ≡ None
variable_apart s w p t items place x e stack rest rows r l there top b d =
    at_variable_none w p t x (drop (place + 1) items) (map (tree_at s) rest) (map (tree_at s) rows) (tree_at s r) b (at_place s w p t items place (Var x) e stack rest rows r l there top d)

pub symbol_left : (s : Store) (w : ℕ) (p t : Tree) (items : List Item) (place : ℕ) (f : Symbol) (n : ℕ) (e : Item) (stack rest new rows : List Row) (r : Row) → place < length items → get_or items place e ≡ App f n → stack ≡ rest ++ r ∷ [] → stands (head.App f) n (tree_at s r) ≡ true → map (tree_at s) new ≡ map (tree_at s) rest ++ reverse (arguments (tree_at s r)) → Left s w p t items place stack rows → Left s w p t items (place + 1) new rows
symbol_left s w p t items place f n e stack rest new rows r l there top k is d =
    record { pending = subst (λ ts. Pending w p t (drop (place + 1) items) ts (map (tree_at s) rows)) (sym is) (at_symbol w p t f n (drop (place + 1) items) (map (tree_at s) rest) (map (tree_at s) rows) (tree_at s r) k (at_place s w p t items place (App f n) e stack rest rows r l there top d)) }

pub symbol_apart : (s : Store) (w : ℕ) (p t : Tree) (items : List Item) (place : ℕ) (f : Symbol) (n : ℕ) (e : Item) (stack rest rows : List Row) (r : Row) → place < length items → get_or items place e ≡ App f n → stack ≡ rest ++ r ∷ [] → stands (head.App f) n (tree_at s r) ≡ false → Left s w p t items place stack rows → match_of p t ≡ None
symbol_apart s w p t items place f n e stack rest rows r l there top k d =
    at_other w p t f n (drop (place + 1) items) (map (tree_at s) rest) (map (tree_at s) rows) (tree_at s r) k (at_place s w p t items place (App f n) e stack rest rows r l there top d)

pub arguments_left : (s : Store) (w : ℕ) (p t : Tree) (items : List Item) (place : ℕ) (f : Symbol) (n : ℕ) (e : Item) (stack rest rows : List Row) (r : Row) → place < length items → get_or items place e ≡ App f n → stack ≡ rest ++ r ∷ [] → Left s w p t items place stack rows → length rest + n ≤ length items
arguments_left s w p t items place f n e stack rest rows r l there top d =
    let fit = arguments_fit w p t f n (drop (place + 1) items) (map (tree_at s) rest) (map (tree_at s) rows) (tree_at s r) (at_place s w p t items place (App f n) e stack rest rows r l there top d) in
    omega (arith, fit, length-map rest (tree_at s), length-drop (place + 1) items)

pub item_left : (s : Store) (w : ℕ) (p t : Tree) (items : List Item) (place : ℕ) (i e : Item) (stack rest rows : List Row) (r : Row) → place < length items → get_or items place e ≡ i → stack ≡ rest ++ r ∷ [] → ((x : ℕ) → i ≡ Var x → ⊥) → ((f : Symbol) (n : ℕ) → i ≡ App f n → ⊥) → Left s w p t items place stack rows → ⊥
item_left s w p t items place i e stack rest rows r l there top n m d =
    at_no_item w p t i (drop (place + 1) items) (map (tree_at s) rest ++ tree_at s r ∷ []) (map (tree_at s) rows) (at_place s w p t items place i e stack rest rows r l there top d) n m

pub none_left : (s : Store) (w : ℕ) (p t : Tree) (items : List Item) (place : ℕ) (stack rows : List Row) → length items ≤ place → Left s w p t items place stack rows → match_of p t ≡ Some (map (tree_at s) rows)
none_left s w p t items place stack rows l d =
    at_last w p t (map (tree_at s) stack) (map (tree_at s) rows)
    (subst (λ is. Pending w p t is (map (tree_at s) stack) (map (tree_at s) rows)) (drop_all place items l) d.pending)
