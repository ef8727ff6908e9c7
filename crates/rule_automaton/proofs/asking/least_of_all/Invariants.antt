use Rattle.std.proofs.Common.{◌≡◌, ℕ, take, true}
use Rattle.std.specs.Prelude.{◌⊎◌, All, Contains}
use Rattle.std.specs.List.{list_all}
use Rattle.rule_automaton.specs.Asking.{is_from}
use Rattle.rule_automaton.specs.Shapes.{tests_at}
use Rattle.rule_automaton.specs.declared.shapes.Test.{Test}
use Rattle.rule_automaton.proofs.asking.least_of_all.Given as goal

abbrev pub invariant-loop-rule : goal.invariant-loop-rule
invariant-loop-rule l =
    record {
      all : All (λ r. list_all (λ (t : Test). is_from l.bound l.least t) (tests_at l.shapes r) ≡ true) (take l.rule-index l.rules);
      asked : (l.least ≡ l.other) ⊎ ((r : ℕ) × Contains l.rules r × ((t : Test) × Contains (tests_at l.shapes r) t × (t.place ≡ l.least)));
    }
