-- Arguments of a row's tree, put on a stack.
use Rattle.std.proofs.Common.{◌≡◌, ℕ, ◌+◌, [], ◌∷◌, ◌++◌, length, Some, Bool, true, refl, sym, ◌∙◌, ap, arith, subst}
use Rattle.std.specs.Prelude.{◌&&◌, ◌==◌}
use Rattle.std.proofs.lemmas.Option.{same_Some}
use Rattle.term_model.specs.Tree.{Tree, Leaf, Node, Trees, End, More, arguments, root, list_of, count_of, head_eq}
use Rattle.term_model.specs.declared.Row.{Row}
use Rattle.term_model.specs.declared.Head.{Head}
use Rattle.terms_api.specs.Terms.{Store, tree_at}
use Rattle.rule_match.specs.Stands.{stands}

length-list_of : (ts : Trees) → length (list_of ts) ≡ count_of ts
length-list_of End = refl
length-list_of (More t ts) = let q = length-list_of ts in omega (arith, q)

-- a head stands there by the tree's own head and count of arguments
pub stands_by : (h g : Head) (n m : ℕ) (t : Tree) → root t ≡ Some g → m ≡ length (arguments t) → stands h n t ≡ (head_eq h g && (m == n))
stands_by h g n m (Leaf y) e k = cc
stands_by h g n m (Node f us) e k =
    ap (λ i. head_eq h i && (count_of us == n)) (same_Some f g e)
    ∙ ap (λ i. head_eq h g && (i == n)) (sym (k ∙ length-list_of us))

-- the arguments of a tree on which a head stands are as many
pub stands_over : (h : Head) (n : ℕ) (t : Tree) → stands h n t ≡ true → n ≡ length (arguments t)
stands_over h n (Leaf y) e = cc
stands_over h n (Node f us) e = grind (arith, length-list_of)

pub stands_as : (s now : Store) (row : Row) (h g : Head) (n m : ℕ) → now ≡ s → root (tree_at s row) ≡ Some g → m ≡ length (arguments (tree_at now row)) → head_eq h g ≡ true → (m == n) ≡ stands h n (tree_at s row)
stands_as s now row h g n m same is count e =
    let k : m ≡ length (arguments (tree_at s row)) = count ∙ ap (λ (v : Store). length (arguments (tree_at v row))) same in
    sym (stands_by h g n m (tree_at s row) is k ∙ ap (λ (b : Bool). b && (m == n)) e)

pub stood : (s now : Store) (h : Head) (n k : ℕ) (row : Row) (b v : Bool) → now ≡ s → n ≡ k → b ≡ stands h n (tree_at now row) → b ≡ v → stands h k (tree_at s row) ≡ v
stood s now h n k row b v same e is was =
    ap (λ (w : Store). stands h k (tree_at w row)) (sym same) ∙ ap (λ i. stands h i (tree_at now row)) (sym e) ∙ sym is ∙ was

pub as_many : (now late : Store) (h : Head) (n : ℕ) (row : Row) (b : Bool) → late ≡ now → b ≡ stands h n (tree_at now row) → b ≡ true → n ≡ length (arguments (tree_at late row))
as_many now late h n row b same is was =
    let P : Store → Type 0 = λ w. n ≡ length (arguments (tree_at w row)) in
    subst P (sym same) (stands_over h n (tree_at now row) (sym is ∙ was))
