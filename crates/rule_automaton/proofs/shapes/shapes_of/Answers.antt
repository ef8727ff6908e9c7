use Rattle.std.proofs.Common.{◌+◌, sym, ◌∙◌, ap}
use Rattle.std.proofs.lemmas.List.{length_push}
use Rattle.rule_automaton.specs.Tables.{tabled}
use Rattle.rule_automaton.proofs.Laying.{one_more_shape}
use Rattle.rule_automaton.proofs.shapes.shapes_of.Goals as goal

pub loop-rule-preserved : goal.loop-rule-preserved
loop-rule-preserved c =
    let i = c.loop-rule.invariant in
    rw c.in_ok-push.ensures.items (record {
      table = c.in_ok-shape_of.ensures.table;
      size = length_push c.loop-rule.shapes.items _ ∙ ap (λ n. n + 1) i.size;
      each = one_more_shape (tabled c.loop-rule.table) (tabled c.shape_of.new.table) c.args.plan.now.rules c.loop-rule.shapes.items _ c.loop-rule.rule (sym i.size) c.in_ok-shape_of.ensures.kept i.each c.in_ok-shape_of.ensures.shape;
    })
