-- A leaf, the same leaf and a node over both are one tree more on the stack.
use Rattle.std.proofs.Common.{◌≡◌, ◌+◌, List, [], ◌∷◌, ◌++◌, Some, length, take, refl, ap, sym, ◌∙◌, append_assoc, append-nil}
use Rattle.std.specs.Prelude.{slice_get}
use Rattle.std.proofs.lemmas.List.{length-append, length-map}
use Rattle.std.proofs.Math.Seq.{take-append_seam}
use Rattle.term_model.specs.declared.Row.{Row}
use Rattle.term_model.specs.declared.Symbol.{Symbol}
use Rattle.term_model.specs.declared.Head.TheVariants.{App}
use Rattle.term_model.specs.Tree.{Tree, Node, End, trees_of}
use Rattle.terms_api.specs.Terms.{Store, tree_at, trees, last, but_last, asked, IsSound, Built, kept}
use Rattle.terms_calls.specs.Calls.{pair, Grown}
use Rattle.terms_api.proofs.Callers.{last-append, but_last-append, last-none, but_last-none, trees-at, trees-kept, held-stack, same_row}

-- what a leaf leaves
leaf_tree : (s : Store) (f : Symbol) → asked s (App f) 0 ≡ Node (App f) End
leaf_tree s f = ap (λ ts. Node (App f) (trees_of ts)) (last-none (trees s))

leaf_on : (s t : Store) (f : Symbol) → trees t ≡ but_last 0 (trees s) ++ asked s (App f) 0 ∷ [] → trees t ≡ trees s ++ Node (App f) End ∷ []
leaf_on s t f e = e ∙ ap (λ xs. xs ++ asked s (App f) 0 ∷ []) (but_last-none (trees s)) ∙ ap (λ u. trees s ++ u ∷ []) (leaf_tree s f)

leaf_place : (s t : Store) (r : Row) → t.stack ≡ but_last 0 s.stack ++ r ∷ [] → t.stack ≡ s.stack ++ r ∷ []
leaf_place s t r e = e ∙ ap (λ xs. xs ++ r ∷ []) (but_last-none s.stack)

two_on : {A : Type 0} (xs ys zs : List A) (x y : A) → ys ≡ xs ++ x ∷ [] → zs ≡ ys ++ y ∷ [] → zs ≡ xs ++ x ∷ y ∷ []
two_on xs ys zs x y e f = f ∙ ap (λ l. l ++ y ∷ []) e ∙ append_assoc xs (x ∷ []) (y ∷ [])

pub grown : (s t u v : Store) (leaf node : Symbol)
    → Built s t (App leaf) 0 → trees t ≡ but_last 0 (trees s) ++ asked s (App leaf) 0 ∷ []
    → Built t u (App leaf) 0 → trees u ≡ but_last 0 (trees t) ++ asked t (App leaf) 0 ∷ []
    → Built u v (App node) 2 → trees v ≡ but_last 2 (trees u) ++ asked u (App node) 2 ∷ []
    → Grown s v (pair leaf node)
grown s t u v leaf node b1 e1 b2 e2 b3 e3 =
    let l : Tree = Node (App leaf) End in
    let two = two_on (trees s) (trees t) (trees u) l l (leaf_on s t leaf e1) (leaf_on t u leaf e2) in
    let places = two_on s.stack t.stack u.stack b1.row b2.row (leaf_place s t b1.row b1.stack) (leaf_place t u b2.row b2.stack) in
    let top : last 2 (trees u) ≡ l ∷ l ∷ [] = ap (last 2) two ∙ last-append 2 (trees s) (l ∷ l ∷ []) refl in
    let below : but_last 2 (trees u) ≡ trees s = ap (but_last 2) two ∙ but_last-append 2 (trees s) (l ∷ l ∷ []) refl in
    let under : but_last 2 u.stack ≡ s.stack = ap (but_last 2) places ∙ but_last-append 2 s.stack (b1.row ∷ b2.row ∷ []) refl in
    let is : asked u (App node) 2 ≡ pair leaf node = ap (λ ts. Node (App node) (trees_of ts)) top in
    record {
      row = b3.row;
      stack = b3.stack ∙ ap (λ xs. xs ++ b3.row ∷ []) under;
      tree = b3.tree ∙ ap Some is;
      trees = e3 ∙ ap (λ xs. xs ++ asked u (App node) 2 ∷ []) below ∙ ap (λ x. trees s ++ x ∷ []) is;
      inside = b3.counts.inside ∙ b2.counts.inside ∙ b1.counts.inside;
      widest = b3.counts.widest ∙ b2.counts.widest ∙ b1.counts.widest;
    }

-- an element behind a list
behind : {A : Type 0} (xs ys : List A) (y : A) → slice_get (xs ++ y ∷ ys) (length xs) ≡ Some y
behind [] ys y = refl
behind (x ∷ xs) ys y = behind xs ys y

some_same : {A : Type 0} (x y : A) → Some x ≡ Some y → x ≡ y
some_same x y e = cc

length-trees : (s : Store) → length (trees s) ≡ length s.stack
length-trees s = length-map s.stack (tree_at s)

length-more : (s : Store) (p : Tree) → length (trees s ++ p ∷ []) ≡ length s.stack + 1
length-more s p = length-append (trees s) (p ∷ []) ∙ ap (λ n. n + 1) (length-trees s)

-- a tree that is grown twice has one row at both places
pub one_row : (s t u : Store) (p : Tree) (q r : Row)
    → Grown s t p → Grown t u p → IsSound u
    → slice_get u.stack (length s.stack) ≡ Some q → slice_get u.stack (length s.stack + 1) ≡ Some r → q ≡ r
one_row s t u p q r g h sound atq atr =
    let two = two_on (trees s) (trees t) (trees u) p p g.trees h.trees in
    let places = two_on s.stack t.stack u.stack g.row h.row g.stack h.stack in
    let one : slice_get (trees u) (length s.stack) ≡ Some p = rw (two, ← length-trees s) (behind (trees s) (p ∷ []) p) in
    let next : slice_get (trees u) (length s.stack + 1) ≡ Some p =
    rw (two, ← append_assoc (trees s) (p ∷ []) (p ∷ []), ← length-more s p) (behind (trees s ++ p ∷ []) [] p) in
    let treeq : tree_at u q ≡ p = some_same _ _ (sym (trees-at u _ q atq) ∙ one) in
    let treer : tree_at u r ≡ p = some_same _ _ (sym (trees-at u _ r atr) ∙ next) in
    same_row u q r sound (held-stack u _ q sound atq) (held-stack u _ r sound atr) (treeq ∙ sym treer)

-- and with both taken off the trees are as before
pub taken_off : (s t u : Store) (p : Tree) → Grown s t p → Grown t u p → trees (kept u (length s.stack) 0) ≡ trees s
taken_off s t u p g h =
    let two = two_on (trees s) (trees t) (trees u) p p g.trees h.trees in
    trees-kept u (length s.stack) 0
    ∙ ap (λ xs. take (length s.stack) (trees u) ++ xs) (last-none (trees u))
    ∙ append-nil (take (length s.stack) (trees u))
    ∙ ap (take (length s.stack)) two
    ∙ rw (← length-trees s) (take-append_seam (trees s) (p ∷ p ∷ []))

pub two_deeper : (s t u : Store) (p : Tree) → Grown s t p → Grown t u p → length u.stack ≡ length s.stack + 2
two_deeper s t u p g h =
    let places = two_on s.stack t.stack u.stack g.row h.row g.stack h.stack in
    ap length places ∙ length-append s.stack (g.row ∷ h.row ∷ [])
