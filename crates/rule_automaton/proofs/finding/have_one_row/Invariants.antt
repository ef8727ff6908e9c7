use Rattle.std.proofs.Common.{◌≡◌, take, true}
use Rattle.std.specs.List.{list_all}
use Rattle.rule_automaton.specs.Running.{have_one_row}
use Rattle.rule_automaton.specs.declared.shapes.Pair.{Pair}
use Rattle.rule_automaton.proofs.finding.have_one_row.Given as goal

abbrev pub invariant-loop-pair : goal.invariant-loop-pair
invariant-loop-pair l = list_all (λ (p : Pair). have_one_row l.rows p) (take l.pair-index l.pairs) ≡ true
