-- Binding a variable to a row, by its place among the bound rows.
use Rattle.std.proofs.Common.{◌≡◌, ℕ, zero, suc, ◌<◌, List, [], ◌∷◌, ◌++◌, length, get_or, Option, Some, None, Bool, true, false, refl, ◌∙◌, ap, arith, eqb-true}
use Rattle.std.specs.Prelude.{◌==◌, if◌then◌else◌}
use Rattle.std.specs.Option.{option_map}
use Rattle.term_model.specs.Tree.{Tree, tree_eq}
use Rattle.term_model.specs.declared.Row.{Row}
use Rattle.rewrite_model.specs.Matching.{bind}

-- a test of the tree at a place
abbrev pub tested : Bool → List Tree → Option (List Tree)
tested b ts = if b then Some ts else None

pub bind_bound : (x : ℕ) (t d : Tree) (ts : List Tree) → x < length ts → bind x t ts ≡ tested (tree_eq (get_or ts x d) t) ts
bind_bound x t d [] l = absurd (omega arith)
bind_bound zero t d (u ∷ us) l = refl
bind_bound (suc x) t d (u ∷ us) l = ap (λ o. option_map (λ vs. u ∷ vs) o) (bind_bound x t d us (omega arith)) ∙ inside (tree_eq (get_or us x d) t)
  where
    inside : (b : Bool) → option_map (λ vs. u ∷ vs) (tested b us) ≡ tested b (u ∷ us)
    inside true = refl
    inside false = refl

pub bind_beyond : (x : ℕ) (t : Tree) (ts : List Tree) → length ts < x → bind x t ts ≡ None
bind_beyond zero t ts l = absurd (omega arith)
bind_beyond (suc x) t [] l = refl
bind_beyond (suc x) t (u ∷ us) l = ap (λ o. option_map (λ vs. u ∷ vs) o) (bind_beyond x t us (omega arith))

pub bind_next : (x : ℕ) (t : Tree) (ts : List Tree) → x ≡ length ts → bind x t ts ≡ Some (ts ++ t ∷ [])
bind_next zero t [] e = refl
bind_next (suc x) t [] e = cc
bind_next zero t (u ∷ us) e = cc
bind_next (suc x) t (u ∷ us) e = ap (λ o. option_map (λ vs. u ∷ vs) o) (bind_next x t us (omega arith))

-- rows are told apart by their numbers
pub same_number : (q r : Row) → (q.0 == r.0) ≡ true → q ≡ r
same_number q r e = let f : ℕ → Row = λ n. record { 0 = n } in ap f (eqb-true q.0 r.0 e)
