use Rattle.std.proofs.Common.{◌≡◌, ◌≤◌, take, true}
use Rattle.std.specs.Prelude.{◌⊎◌, Contains}
use Rattle.std.specs.List.{list_all}
use Rattle.rule_automaton.specs.Asking.{is_from}
use Rattle.rule_automaton.specs.declared.shapes.Test.{Test}
use Rattle.rule_automaton.proofs.asking.least_place.Given as goal

abbrev pub invariant-loop-test : goal.invariant-loop-test
invariant-loop-test l =
    record {
      low : l.least ≤ l.other;
      all : list_all (λ (t : Test). is_from l.bound l.least t) (take l.test-index l.tests) ≡ true;
      asked : (l.least ≡ l.other) ⊎ ((t : Test) × Contains l.tests t × (t.place ≡ l.least));
    }
