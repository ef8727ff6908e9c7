-- What is spelled of several parts, from what each part spells.
use Rattle.rec_check.proofs.Common.{arith, ◌≡◌, ℕ, true, List, length, Some, is_some, Tree, Rule, Condition, Named, Scope, all_of, tree_in, condition_in, sides_in}
use Rattle.rec_reader.specs.declared.syntax_tree.Rule as written

-- a rule is spelled by what its parts spell
module _ (scope : Scope) (r : written.Rule) where
  pub sides : is_some (sides_in scope r) ≡ true → (left : Tree) → tree_in scope r.left ≡ Some left → (right : Tree) → tree_in scope r.right ≡ Some right
      → (conditions : List Condition) (made : Rule) (vars : ℕ) → all_of (λ c. condition_in scope c) r.conditions ≡ Some conditions
      → vars ≡ length scope.variables → made ≡ record { left = left; right = right; conditions = conditions; vars = vars } → sides_in scope r ≡ Some made
  sides h left a right b conditions made vars c f g = grind arith

-- what a scope with these variables spells
pub in_scope : (now text : List ℕ) (symbols : List Named) (names vars : List (List ℕ)) (r : written.Rule) → now ≡ text → names ≡ vars
    → sides_in (record { text = now; symbols = symbols; variables = names }) r ≡ sides_in (record { text = text; symbols = symbols; variables = vars }) r
in_scope now text symbols names vars r t e = λ i. sides_in (record { text = t i; symbols = symbols; variables = e i }) r
