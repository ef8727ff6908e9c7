-- Conditions and rules are stored as their parts.
use Rattle.std.specs.Prelude.{ℕ, List, Bool, refl}
use Rattle.std.specs.Coded.{Coded, code_by, coded×, coded_ℕ, coded_bool, coded_list}
use Rattle.term_model.specs.Tree.{Tree}
use Rattle.term_model.specs.Code.{tree_code}
use Rattle.rewrite_model.specs.Rule.{Condition, Rule}

abbrev pub condition_code : Coded Condition
condition_code =
    code_by (Tree × (Tree × Bool)) (coded× tree_code (coded× tree_code coded_bool))
    (λ c. (c.first, (c.second, c.equal)))
    (λ p. record { first = p.0; second = p.1.0; equal = p.1.1 }) (λ _. refl)

abbrev pub rule_code : Coded Rule
rule_code =
    code_by (Tree × (Tree × (List Condition × ℕ)))
    (coded× tree_code (coded× tree_code (coded× (coded_list condition_code) coded_ℕ)))
    (λ r. (r.left, (r.right, (r.conditions, r.vars))))
    (λ p. record { left = p.0; right = p.1.0; conditions = p.1.1.0; vars = p.1.1.1 }) (λ _. refl)
