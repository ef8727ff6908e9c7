use Rattle.std.proofs.Common.{◌∙◌, ap, sym, arith}
use Rattle.rule_match.proofs.Numbering.{count_in, counted}
use Rattle.rule_fitness.proofs.rules.numbers_variables.Goals as goal

pub loop-item-init : goal.loop-item-init
loop-item-init c =
    record {
      counted = sym (counted c.args.pattern.now 0) ∙ ap (λ is. count_in is 0) (sym c.items-item-items.ensures.items);
      few = omega arith;
    }
