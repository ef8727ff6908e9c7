-- Binding a variable to a row, by the rows that are bound.
use Rattle.std.proofs.Common.{◌≡◌, ℕ, ◌<◌, List, [], ◌∷◌, ◌++◌, length, get_or, map, Some, None, Bool, true, false, refl, sym, ◌∙◌, ap, arith, subst, eq-eqb}
use Rattle.std.specs.Prelude.{◌==◌, All}
use Rattle.std.proofs.lemmas.List.{map_push, length-map, get_or-map}
use Rattle.std.proofs.lemmas.List.Elements.{All-get_or}
use Rattle.term_model.specs.Tree.{Tree, Leaf, tree_eq}
use Rattle.term_model.specs.declared.Row.{Row}
use Rattle.term_model.proofs.Equality.{tree_eq_sound, tree_eq_same}
use Rattle.terms_api.specs.Terms.{Store, IsHeld, IsSound, tree_at}
use Rattle.terms_api.proofs.Callers.{same_row}
use Rattle.rewrite_model.specs.Matching.{bind}
use Rattle.rule_match.proofs.Bindings.{tested, bind_bound, bind_beyond, bind_next}

-- the tree at a place of some rows
tree_there : (s : Store) (rows : List Row) (x : ℕ) (q : Row) (d : Tree) → x < length rows → q ≡ get_or rows x q → get_or (map (tree_at s) rows) x d ≡ tree_at s q
tree_there s rows x q d l e = get_or-map (tree_at s) rows x q d l ∙ ap (tree_at s) (sym e)

bound_there : (s : Store) (rows : List Row) (x : ℕ) (q : Row) (t : Tree) → x < length rows → q ≡ get_or rows x q → bind x t (map (tree_at s) rows) ≡ tested (tree_eq (tree_at s q) t) (map (tree_at s) rows)
bound_there s rows x q t l e =
    bind_bound x t (Leaf x) (map (tree_at s) rows) (omega (arith, length-map rows (tree_at s)))
    ∙ ap (λ u. tested (tree_eq u t) (map (tree_at s) rows)) (tree_there s rows x q (Leaf x) l e)

-- a variable that is bound to the same row
pub bound_same : (s : Store) (rows : List Row) (x : ℕ) (q r : Row) → x < length rows → q ≡ get_or rows x q → q ≡ r → bind x (tree_at s r) (map (tree_at s) rows) ≡ Some (map (tree_at s) rows)
bound_same s rows x q r l e i =
    bound_there s rows x q (tree_at s r) l e
    ∙ ap (λ b. tested b (map (tree_at s) rows)) (tree_eq_same (tree_at s q) (tree_at s r) (ap (tree_at s) i))

-- a variable that is bound to another row
pub bound_other : (s : Store) (rows : List Row) (x : ℕ) (q r : Row) → IsSound s → All (IsHeld s) rows → IsHeld s r → x < length rows → q ≡ get_or rows x q → (q ≡ r → ⊥) → bind x (tree_at s r) (map (tree_at s) rows) ≡ None
bound_other s rows x q r sound all held l e n =
    bound_there s rows x q (tree_at s r) l e ∙ go (tree_eq (tree_at s q) (tree_at s r)) refl
  where
    q_held : IsHeld s q
    q_held = subst (IsHeld s) (sym e) (All-get_or (IsHeld s) rows x q l all)

    go : (b : Bool) → tree_eq (tree_at s q) (tree_at s r) ≡ b → tested b (map (tree_at s) rows) ≡ None
    go true f = absurd (n (same_row s q r sound q_held held (tree_eq_sound (tree_at s q) (tree_at s r) f)))
    go false f = refl

pub not_yet : (s : Store) (rows : List Row) (x : ℕ) (r : Row) → length rows < x → bind x (tree_at s r) (map (tree_at s) rows) ≡ None
not_yet s rows x r l = bind_beyond x (tree_at s r) (map (tree_at s) rows) (omega (arith, length-map rows (tree_at s)))

pub newly : (s : Store) (rows new : List Row) (x : ℕ) (r : Row) → x ≡ length rows → new ≡ rows ++ r ∷ [] → bind x (tree_at s r) (map (tree_at s) rows) ≡ Some (map (tree_at s) new)
newly s rows new x r l e =
    bind_next x (tree_at s r) (map (tree_at s) rows) (l ∙ sym (length-map rows (tree_at s)))
    ∙ ap Some (sym (map_push (tree_at s) rows r))
    ∙ ap (λ rs. Some (map (tree_at s) rs)) (sym e)

-- rows of other numbers are others
pub other_number : (q r : Row) → (q.0 == r.0) ≡ false → q ≡ r → ⊥
other_number q r e i = let f : (q.0 == r.0) ≡ true = eq-eqb q.0 r.0 (ap (λ v. v.0) i) in let z : true ≡ false = sym f ∙ e in absurd (cc)
