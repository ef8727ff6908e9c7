-- A match of a left side, by the numbers of terms in a table.
use Rattle.std.proofs.Common.{◌≡◌, ℕ, zero, suc, ◌+◌, ◌≤◌, ◌<◌, List, [], ◌∷◌, ◌++◌, length, get_or, map, drop, Option, Some, None, Bool, true, false, refl, sym, ◌∙◌, ap, arith, subst}
use Rattle.std.specs.Prelude.{if◌then◌else◌, reverse}
use Rattle.std.specs.Option.{option_map}
use Rattle.std.proofs.lemmas.List.{map_push, length-map, get_or-map, drop_more, drop_all}
use Rattle.term_model.specs.Tree.{Tree, Leaf, arguments, tree_eq}
use Rattle.term_model.specs.declared.Head.TheVariants as head
use Rattle.term_model.specs.declared.Item.{Item}
use Rattle.term_model.specs.declared.Item.TheVariants.{Var, App}
use Rattle.term_model.specs.declared.Symbol.{Symbol}
use Rattle.term_model.proofs.Equality.{tree_eq_sound, tree_eq_same}
use Rattle.rewrite_model.specs.Matching.{bind, match_of}
use Rattle.rule_match.specs.Planned.{IsPlain}
use Rattle.rule_match.specs.Preorder.{preorder}
use Rattle.rule_match.specs.Stands.{stands}
use Rattle.rule_match.proofs.Pending.{Pending, at_first, some_wait, at_variable, at_variable_none, at_symbol, at_other, at_no_item, at_last}

-- a test of the tree at a place
abbrev tested : Bool → List Tree → Option (List Tree)
tested b ts = if b then Some ts else None

bind_bound : (x : ℕ) (t d : Tree) (ts : List Tree) → x < length ts → bind x t ts ≡ tested (tree_eq (get_or ts x d) t) ts
bind_bound x t d [] l = absurd (omega arith)
bind_bound zero t d (u ∷ us) l = refl
bind_bound (suc x) t d (u ∷ us) l = ap (λ o. option_map (λ vs. u ∷ vs) o) (bind_bound x t d us (omega arith)) ∙ inside (tree_eq (get_or us x d) t)
  where
    inside : (b : Bool) → option_map (λ vs. u ∷ vs) (tested b us) ≡ tested b (u ∷ us)
    inside true = refl
    inside false = refl

bind_beyond : (x : ℕ) (t : Tree) (ts : List Tree) → length ts < x → bind x t ts ≡ None
bind_beyond zero t ts l = absurd (omega arith)
bind_beyond (suc x) t [] l = refl
bind_beyond (suc x) t (u ∷ us) l = ap (λ o. option_map (λ vs. u ∷ vs) o) (bind_beyond x t us (omega arith))

bind_next : (x : ℕ) (t : Tree) (ts : List Tree) → x ≡ length ts → bind x t ts ≡ Some (ts ++ t ∷ [])
bind_next zero t [] e = refl
bind_next (suc x) t [] e = cc
bind_next zero t (u ∷ us) e = cc
bind_next (suc x) t (u ∷ us) e = ap (λ o. option_map (λ vs. u ∷ vs) o) (bind_next x t us (omega arith))

-- the tree at a place of some rows
tree_there : (T : ℕ → Tree) (rows : List ℕ) (x : ℕ) (q : ℕ) (d : Tree) → x < length rows → q ≡ get_or rows x q → get_or (map T rows) x d ≡ T q
tree_there T rows x q d l e = get_or-map T rows x q d l ∙ ap T (sym e)

bound_there : (T : ℕ → Tree) (rows : List ℕ) (x : ℕ) (q : ℕ) (t : Tree) → x < length rows → q ≡ get_or rows x q → bind x t (map T rows) ≡ tested (tree_eq (T q) t) (map T rows)
bound_there T rows x q t l e =
    bind_bound x t (Leaf x) (map T rows) (omega (arith, length-map rows T))
    ∙ ap (λ u. tested (tree_eq u t) (map T rows)) (tree_there T rows x q (Leaf x) l e)

-- a variable that is bound to the same term
pub bound_same : (T : ℕ → Tree) (rows : List ℕ) (x : ℕ) (q r : ℕ) → x < length rows → q ≡ get_or rows x q → T q ≡ T r → bind x (T r) (map T rows) ≡ Some (map T rows)
bound_same T rows x q r l e i =
    bound_there T rows x q (T r) l e
    ∙ ap (λ b. tested b (map T rows)) (tree_eq_same (T q) (T r) i)

-- a variable that is bound to another term
pub bound_other : (T : ℕ → Tree) (rows : List ℕ) (x : ℕ) (q r : ℕ) → x < length rows → q ≡ get_or rows x q → (T q ≡ T r → ⊥) → bind x (T r) (map T rows) ≡ None
bound_other T rows x q r l e n = bound_there T rows x q (T r) l e ∙ go (tree_eq (T q) (T r)) refl
  where
    go : (b : Bool) → tree_eq (T q) (T r) ≡ b → tested b (map T rows) ≡ None
    go true f = absurd (n (tree_eq_sound (T q) (T r) f))
    go false f = refl

pub not_yet : (T : ℕ → Tree) (rows : List ℕ) (x : ℕ) (r : ℕ) → length rows < x → bind x (T r) (map T rows) ≡ None
not_yet T rows x r l = bind_beyond x (T r) (map T rows) (omega (arith, length-map rows T))

pub newly : (T : ℕ → Tree) (rows new : List ℕ) (x : ℕ) (r : ℕ) → x ≡ length rows → new ≡ rows ++ r ∷ [] → bind x (T r) (map T rows) ≡ Some (map T new)
newly T rows new x r l e =
    bind_next x (T r) (map T rows) (l ∙ sym (length-map rows T))
    ∙ ap Some (sym (map_push T rows r))
    ∙ ap (λ rs. Some (map T rs)) (sym e)

-- What is left of a match, by the numbers of terms: what is left from a place on.
pub record Left (T : ℕ → Tree) (w : ℕ) (p t : Tree) (items : List Item) (place : ℕ) (stack rows : List ℕ) : Type 0 where
  pub pending : Pending w p t (drop place items) (map T stack) (map T rows)

at_place : (T : ℕ → Tree) (w : ℕ) (p t : Tree) (items : List Item) (place : ℕ) (i e : Item) (stack rest rows : List ℕ) (r : ℕ) → place < length items → get_or items place e ≡ i → stack ≡ rest ++ r ∷ [] → Left T w p t items place stack rows → Pending w p t (i ∷ drop (place + 1) items) (map T rest ++ T r ∷ []) (map T rows)
at_place T w p t items place i e stack rest rows r l there top d =
    subst (λ is. Pending w p t is (map T rest ++ T r ∷ []) (map T rows)) (drop_more items place e l ∙ ap (λ j. j ∷ drop (place + 1) items) there)
    (subst (λ ts. Pending w p t (drop place items) ts (map T rows)) (ap (map T) top ∙ map_push T rest r) d.pending)

pub first_left : (T : ℕ → Tree) (w : ℕ) (p : Tree) (items : List Item) (stack rows : List ℕ) (r : ℕ) → IsPlain w p → items ≡ preorder p → stack ≡ r ∷ [] → rows ≡ [] → Left T w p (T r) items 0 stack rows
first_left T w p items stack rows r plain is one none =
    record { pending = rw (is, one, none) (at_first w p (T r) plain) }

pub stack_left : (T : ℕ → Tree) (w : ℕ) (p t : Tree) (items : List Item) (place : ℕ) (stack rows : List ℕ) → place < length items → Left T w p t items place stack rows → 0 < length stack
stack_left T w p t items place stack rows l d =
    let more : drop place items ≡ get_or items place (Var 0) ∷ drop (place + 1) items = drop_more items place (Var 0) l in
    let wait = some_wait w p t (get_or items place (Var 0)) (drop (place + 1) items) (map T stack) (map T rows) (subst (λ is. Pending w p t is (map T stack) (map T rows)) more d.pending) in
    omega (arith, wait, length-map stack T)

pub variable_left : (T : ℕ → Tree) (w : ℕ) (p t : Tree) (items : List Item) (place x : ℕ) (e : Item) (stack rest rows more : List ℕ) (r : ℕ) → place < length items → get_or items place e ≡ Var x → stack ≡ rest ++ r ∷ [] → bind x (T r) (map T rows) ≡ Some (map T more) → Left T w p t items place stack rows → Left T w p t items (place + 1) rest more
variable_left T w p t items place x e stack rest rows more r l there top b d =
    record { pending = at_variable w p t x (drop (place + 1) items) (map T rest) (map T rows) (T r) (Some (map T more)) b (at_place T w p t items place (Var x) e stack rest rows r l there top d) (map T more) refl }

pub variable_apart : (T : ℕ → Tree) (w : ℕ) (p t : Tree) (items : List Item) (place x : ℕ) (e : Item) (stack rest rows : List ℕ) (r : ℕ) → place < length items → get_or items place e ≡ Var x → stack ≡ rest ++ r ∷ [] → bind x (T r) (map T rows) ≡ None → Left T w p t items place stack rows → match_of p t ≡ None
variable_apart T w p t items place x e stack rest rows r l there top b d =
    at_variable_none w p t x (drop (place + 1) items) (map T rest) (map T rows) (T r) b (at_place T w p t items place (Var x) e stack rest rows r l there top d)

pub symbol_left : (T : ℕ → Tree) (w : ℕ) (p t : Tree) (items : List Item) (place : ℕ) (f : Symbol) (n : ℕ) (e : Item) (stack rest new rows : List ℕ) (r : ℕ) → place < length items → get_or items place e ≡ App f n → stack ≡ rest ++ r ∷ [] → stands (head.App f) n (T r) ≡ true → map T new ≡ map T rest ++ reverse (arguments (T r)) → Left T w p t items place stack rows → Left T w p t items (place + 1) new rows
symbol_left T w p t items place f n e stack rest new rows r l there top k is d =
    record { pending = subst (λ ts. Pending w p t (drop (place + 1) items) ts (map T rows)) (sym is) (at_symbol w p t f n (drop (place + 1) items) (map T rest) (map T rows) (T r) k (at_place T w p t items place (App f n) e stack rest rows r l there top d)) }

pub symbol_apart : (T : ℕ → Tree) (w : ℕ) (p t : Tree) (items : List Item) (place : ℕ) (f : Symbol) (n : ℕ) (e : Item) (stack rest rows : List ℕ) (r : ℕ) → place < length items → get_or items place e ≡ App f n → stack ≡ rest ++ r ∷ [] → stands (head.App f) n (T r) ≡ false → Left T w p t items place stack rows → match_of p t ≡ None
symbol_apart T w p t items place f n e stack rest rows r l there top k d =
    at_other w p t f n (drop (place + 1) items) (map T rest) (map T rows) (T r) k (at_place T w p t items place (App f n) e stack rest rows r l there top d)

pub item_left : (T : ℕ → Tree) (w : ℕ) (p t : Tree) (items : List Item) (place : ℕ) (i e : Item) (stack rest rows : List ℕ) (r : ℕ) → place < length items → get_or items place e ≡ i → stack ≡ rest ++ r ∷ [] → ((x : ℕ) → i ≡ Var x → ⊥) → ((f : Symbol) (n : ℕ) → i ≡ App f n → ⊥) → Left T w p t items place stack rows → ⊥
item_left T w p t items place i e stack rest rows r l there top n m d =
    at_no_item w p t i (drop (place + 1) items) (map T rest ++ T r ∷ []) (map T rows) (at_place T w p t items place i e stack rest rows r l there top d) n m

pub none_left : (T : ℕ → Tree) (w : ℕ) (p t : Tree) (items : List Item) (place : ℕ) (stack rows : List ℕ) → length items ≤ place → Left T w p t items place stack rows → match_of p t ≡ Some (map T rows)
none_left T w p t items place stack rows l d =
    at_last w p t (map T stack) (map T rows)
    (subst (λ is. Pending w p t is (map T stack) (map T rows)) (drop_all place items l) d.pending)
