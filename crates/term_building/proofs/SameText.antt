-- The text of written terms is the canonical text of their trees, in each pool that has their
-- symbols.
use Rattle.std.proofs.Common.{◌≡◌, List, [], ◌∷◌, ◌++◌, map, length, refl, ap, true}
use Rattle.std.specs.Prelude.{unwrap_or, codes}
use Rattle.std.specs.Option.{option_map}
use Rattle.std.proofs.lemmas.Bool.{ltb-true}
use Rattle.symbol_pool.specs.Pool.{Named, named}
use Rattle.symbol_pool.specs.Taking.{number_of, has}
use Rattle.symbol_pool.proofs.Taking.{number_holds}
use Rattle.tree_text.specs.Text as text
use Rattle.tree_text.specs.Canonical.{spelled_name, spelling, canonical_lines}
use Rattle.term_syntax.specs.TakenUp.{tree_in, trees_in, cells_in}
use Rattle.term_syntax.specs.Written.{Written, Call, Digits, Listed, Writtens, End, More, count_of}
use Rattle.term_building.specs.Text.{text_of, in_parentheses, after_commas, lines_of}
use Rattle.term_building.specs.Trees.{IsGood, AreGood, AllGood}

module _ (pool : List Named) where
  name_same : (s : Named) → has pool s ≡ true → spelling pool (record { 0 = number_of pool s }) ≡ spelled_name s.name
  name_same s h =
      ap (λ o. spelled_name (unwrap_or (option_map (λ (r : Named). r.name) o) [])) (number_holds pool s (ltb-true (number_of pool s) (length pool) h))

  mutual
    pub same_text : (w : Written) → IsGood pool w → text.text_by (spelling pool) (tree_in pool w) ≡ text_of w
    same_text (Call p n ws) (h, short, few, good) =
        let a = name_same (named n (count_of ws)) h in
        let b = same_arguments ws good in
        λ i. a i ++ b i
    same_text (Digits p v) good = refl
    same_text (Listed p End) good = refl
    same_text (Listed p (More w ws)) (g, good) =
        let a = same_text w g in
        let b = same_rest ws good in
        λ i. codes "[" ++ (a i ++ b i) ++ codes "]"

    same_arguments : (ws : Writtens) → AreGood pool ws → text.in_parentheses (spelling pool) (trees_in pool ws) ≡ in_parentheses ws
    same_arguments End good = refl
    same_arguments (More w ws) (g, good) =
        let a = same_text w g in
        let b = same_commas ws good in
        λ i. codes "(" ++ a i ++ b i ++ codes ")"

    same_commas : (ws : Writtens) → AreGood pool ws → text.after_commas (spelling pool) (trees_in pool ws) ≡ after_commas ws
    same_commas End good = refl
    same_commas (More w ws) (g, good) =
        let a = same_text w g in
        let b = same_commas ws good in
        λ i. codes "," ++ a i ++ b i

    same_rest : (ws : Writtens) → AreGood pool ws → text.further_elements (spelling pool) (cells_in pool ws) ≡ after_commas ws
    same_rest End good = refl
    same_rest (More w ws) (g, good) =
        let a = same_text w g in
        let b = same_rest ws good in
        λ i. codes "," ++ a i ++ b i

  pub same_lines : (ws : List Written) → AllGood pool ws → canonical_lines pool (map (tree_in pool) ws) ≡ lines_of ws
  same_lines [] good = refl
  same_lines (w ∷ ws) (g, good) =
      let a = same_text w g in
      let b = same_lines ws good in
      λ i. a i ++ 10 ∷ b i
