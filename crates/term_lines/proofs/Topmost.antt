-- The value of a term stands alone on a stack that was empty, and its symbols have names.
use Rattle.std.proofs.Common.{◌≡◌, ℕ, ◌+◌, List, [], ◌∷◌, ◌++◌, Some, length, sym, ◌∙◌, ap, subst}
use Rattle.std.specs.List.{slice_get}
use Rattle.std.proofs.lemmas.Option.{same_Some, none-some}
use Rattle.term_model.specs.declared.Row.{Row}
use Rattle.std.specs.Prelude.{All, map, slice_index_or}
use Rattle.term_model.specs.Tree.{Tree, Leaf}
use Rattle.symbol_pool.specs.Pool.{Named}
use Rattle.terms_api.specs.Terms.{Store, trees, tree_at}
use Rattle.rewrite_model.specs.Rule.{Rule}
use Rattle.rewrite_model.specs.Run.{Done}
use Rattle.innermost.specs.Normalized.{IsOnTop}
use Rattle.term_text.specs.Text.{HasNames}
use Rattle.term_lines.specs.Laws.{WritesNames}
use Rattle.term_lines.specs.Strategies.{ended}
use Rattle.term_lines.specs.declared.strategy.Strategy.{Strategy}
use Rattle.term_lines.specs.Written.{top_tree, HasValueAlone}
use Rattle.term_lines.proofs.OutermostNaming.{values_have_names}

pub top_is : (old new : Store) (t : Tree) → old.stack ≡ [] → IsOnTop old new t → top_tree new ≡ t
top_is old new t empty top =
    let none : trees old ≡ [] = ap (λ rows. map (tree_at old) rows) empty in
    ap (λ ts. slice_index_or ts 0 (Leaf 0)) (top.trees ∙ ap (λ ts. ts ++ t ∷ []) none)

pub top_row : (s : Store) (rows : List Row) (row : Row) → slice_get rows 0 ≡ Some row → slice_index_or (map (tree_at s) rows) 0 (Leaf 0) ≡ tree_at s row
top_row s [] row e = absurd (none-some row e)
top_row s (r ∷ rs) row e = ap (tree_at s) (same_Some r row e)

pub has_value : (strategy : Strategy) (old new : Store) (names : List Named) (rules : List Rule) (term t : Tree) (fuel room left : ℕ) → old.stack ≡ [] → All (WritesNames names) rules → HasNames names term → ended strategy rules term fuel room ≡ Done t left → IsOnTop old new t → HasValueAlone new names
has_value strategy old new names rules term t fuel room left empty writes named end top =
    let first = top_is old new t empty top in
    record {
      alone = top.count ∙ ap (λ rows. length rows + 1) empty;
      named = subst (HasNames names) (sym first) (values_have_names strategy names rules term t fuel room left writes named end);
    }
