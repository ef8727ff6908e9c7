-- What a match binds, and the room that it needs.
use Rattle.std.specs.Prelude.{ℕ, ◌≤◌, List, All, refl}
use Rattle.std.specs.Coded.{Coded, code_by, coded×, coded_ℕ, coded_list}
use Rattle.term_model.specs.Tree.{nodes}
use Rattle.term_model.specs.declared.Row.{Row}
use Rattle.rewrite_model.specs.Rule.{Rule}

-- the rows of a rule's variables in order, and how many there may be
pub record Bound : Type 0 where
  pub rows : List Row
  pub room : ℕ

abbrev pub row_code : Coded Row
row_code = code_by ℕ coded_ℕ (λ r. r.0) (λ n. record { 0 = n }) (λ _. refl)

abbrev pub bound_code : Coded Bound
bound_code = code_by (List Row × ℕ) (coded× (coded_list row_code) coded_ℕ) (λ b. (b.rows, b.room))
    (λ p. record { rows = p.0; room = p.1 }) (λ _. refl)

-- room for the nodes of each left side
abbrev pub HasRoom : ℕ → List Rule → Type 0
HasRoom room rules = All (λ (r : Rule). nodes r.left ≤ room) rules
