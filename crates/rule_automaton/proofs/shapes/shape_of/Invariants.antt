use Rattle.rule_match.specs.Preorder.{left_at}
use Rattle.rule_automaton.specs.Places.{IsTable, Keeps}
use Rattle.rule_automaton.specs.Tables.{tabled}
use Rattle.rule_automaton.proofs.Laying.{Laid}
use Rattle.rule_automaton.proofs.shapes.shape_of.Given as goal

-- the items before a place are laid out
abbrev pub invariant-loop-item : goal.invariant-loop-item
invariant-loop-item l =
    record {
      table : IsTable (tabled l.table);
      kept : Keeps (tabled l.fn.table) (tabled l.table);
      laid : Laid (tabled l.table) l.plan.widest (left_at l.plan.rules l.rule) l.item-items l.item-index l.stack.items l.shape.tests.items l.shape.pairs.items l.shape.variables.items;
    }
